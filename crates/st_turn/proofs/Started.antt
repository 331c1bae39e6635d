-- The passes of a shared spool as their numbers are given out.
use Rattle.std.proofs.Common.{◌≡◌, ℕ, zero, suc, ◌+◌, List, [], ◌∷◌, ◌++◌, length, set, replicate, refl, ◌∙◌, ap, arith}
use Rattle.atomic_table.specs.Seated.{TableId}
use Rattle.st_disk.specs.Events.{Event}
use Rattle.st_spool.specs.declared.state.Span.{Span}
use Rattle.st_turn.specs.Parts.{Facts, Each, blank}
use Rattle.st_turn.specs.Steps.{starts}
use Rattle.st_turn.specs.Passes.{PassView, AreOthers, AreStarted, HasNoLoans}
use Rattle.st_turn.proofs.Totals.{each_append}

pub blank_more : (n : ℕ) → replicate n blank ++ blank ∷ [] ≡ replicate (n + 1) blank
blank_more n = snoc n ∙ ap (λ (k : ℕ). replicate k blank) (let e : suc n ≡ n + 1 = omega arith in e)
  where
    snoc : (n : ℕ) → replicate n blank ++ blank ∷ [] ≡ replicate (suc n) blank
    snoc zero = refl
    snoc (suc n) = ap (λ (ls : List _). blank ∷ ls) (snoc n)

module _ {S : Type 0} (table : TableId) (base : S) (h : Facts Event Span) (n : ℕ) where
  others_more : (i k : ℕ) (ps : List (PassView S)) (q : PassView S) → AreOthers table base h n i ps → k ≡ i + length ps → q.table ≡ table → q.state ≡ starts base h k n 0 → AreOthers table base h n i (ps ++ q ∷ [])
  others_more i k [] q others e here state = (here, state ∙ ap (λ (j : ℕ). starts base h j n 0) (let f : k ≡ i = omega arith in f), tt)
  others_more i k (p ∷ ps) q others e here state = (others.0, others.1, others_more (i + 1) k ps q others.2 (omega arith) here state)

  pub started_more : (made : ℕ) (ps : List (PassView S)) (l q : PassView S) (at : PassView S) → AreStarted table base h n made ps → length ps ≡ made → l.table ≡ table → l.state ≡ starts base h 0 n (made + 1) → q.table ≡ table → q.state ≡ starts base h made n 0
      → AreStarted table base h n (made + 1) (set ps 0 l ++ q ∷ [])
  started_more made [] l q at started e lt ls qt qs = absurd started
  started_more made (p ∷ ps) l q at started e lt ls qt qs = (lt, ls, others_more 1 made ps q started.2 (omega arith) qt qs)

  pub lead_is : (made : ℕ) (ps : List (PassView S)) → AreStarted table base h n made ps → (p : PassView S) × (rest : List (PassView S)) × (ps ≡ p ∷ rest) × (p.table ≡ table) × (p.state ≡ starts base h 0 n made)
  lead_is made [] started = absurd started
  lead_is made (p ∷ ps) started = (p, ps, refl, started.0, started.1)

module _ {S : Type 0} where
  pub loans_more : (ps : List (PassView S)) (l q : PassView S) → Each HasNoLoans ps → HasNoLoans l → HasNoLoans q → Each HasNoLoans (set ps 0 l ++ q ∷ [])
  loans_more [] l q none one other = (other, tt)
  loans_more (p ∷ ps) l q none one other = (one, each_append HasNoLoans ps (q ∷ []) none.1 (other, tt))
