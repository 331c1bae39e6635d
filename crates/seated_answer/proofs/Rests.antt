-- A pass that holds nothing goes on to be one.
use Rattle.std.proofs.Common.{◌≡◌, ℕ, List, [], ◌∷◌, length, Option, refl, ◌∙◌, ap, arith}
use Rattle.st_disk.specs.Disks.{Log}
use Rattle.st_disk.specs.Events.{Event}
use Rattle.st_spool.specs.declared.state.Span.{Span}
use Rattle.st_answer.specs.Stores.{IsSpent}
use Rattle.st_turn.specs.Parts.{Facts, PassState}
use Rattle.st_turn.specs.Passes.{PassView, SharedView, IsOf, IsSame}
use Rattle.st_turn.specs.Steps.{starts}
use Rattle.st_seated.specs.Seats.{Remains, pass_holds}
use Rattle.st_seated.specs.Sitting.{StartsSeatable}
use Rattle.seated_answer.specs.Resting.{Rests, Rested}

-- a list as long as none is none
none_of : {A : Type 0} (xs : List A) → length xs ≡ 0 → xs ≡ []
none_of [] len = refl
none_of (x ∷ xs) len = absurd (omega arith)

module _ {S : Type 0} where
  pub same_then : (p q r : PassView S) → IsSame p q → IsSame q r → IsSame p r
  same_then p q r one two = (two.0 ∙ one.0, two.1 ∙ one.1, two.2 ∙ one.2, two.3 ∙ one.3)

  pub of_then : (s : SharedView S) (p q : PassView S) → IsOf s p → IsSame p q → IsOf s q
  of_then s p q of same = (same.0 ∙ of.0, same.2 ∙ of.1)

  pub again : (p q r : PassView S) → Rested p q → Rested q r → Rested p r
  again p q r one two = record { same = same_then p q r one.same two.same; empty = two.empty }

  pub itself : (p : PassView S) → p.state.held ≡ [] → Rested p p
  itself p empty = record { same = (refl, refl, refl, refl); empty = empty }

  -- a pass after a call that left its holds
  pub rested_by : (p q : PassView S) → p.state.held ≡ [] → IsSame p q → q.state.held ≡ p.state.held → Rested p q
  rested_by p q empty same held = record { same = same; empty = held ∙ empty }

  -- a pass after an answer over it
  pub rested_after : (known : Option Log) (s : SharedView S) (p q : PassView S) (one two : ℕ) → Rests known s p
      → IsSpent (Remains p q) one two (pass_holds known p.state) (pass_holds known q.state) p.loans q.loans → Rested p q
  rested_after known s p q one two rests spent = record {
    same = spent.became.same;
    empty = none_of q.state.held (spent.held ∙ ap length rests.empty);
  }

  -- a pass as it starts
  pub rests_at : StartsSeatable S → (known : Option Log) (s : SharedView S) (p : PassView S) (h : Facts Event Span) (i n made : ℕ) → p.table ≡ s.table → p.state ≡ starts s.base h i n made
      → Rests known s p
  rests_at sits known s p h i n made table is = record {
    sits = sits known s p h i n made table is;
    empty = ap (λ (x : PassState S Event Span). x.held) is;
  }
