-- A pass that holds nothing goes on to be one.
use Rattle.std.proofs.Common.{◌≡◌, ℕ, zero, suc, ◌+◌, ◌<◌, List, [], ◌∷◌, ◌++◌, length, take, drop, map, refl, ◌∙◌, ap, arith}
use Rattle.std.specs.List.{slice_index_or}
use Rattle.st_disk.specs.Events.{Event}
use Rattle.st_spool.specs.declared.state.Span.{Span}
use Rattle.st_turn.specs.Parts.{Facts}
use Rattle.st_turn.specs.Passes.{PassView, SharedView, IsOf, IsSame, AreOf, AreOthers, AreStarted, state_of}
use Rattle.st_turn.specs.Ends.{AreNumbered}
use Rattle.turn_trials.specs.Resting.{Rests, Rested}

-- a slice of a whole list is written back
pub written : {A : Type 0} (n : ℕ) (qs all : List A) → length qs ≡ length all → n ≡ length all → take n (qs ++ drop (length qs) all) ≡ qs
written n [] [] len is = ap (λ (k : ℕ). take k []) is
written n [] (x ∷ xs) len is = absurd (omega arith)
written n (q ∷ qs) [] len is = absurd (omega arith)
written n (q ∷ qs) (x ∷ xs) len is = ap (λ (k : ℕ). take k (q ∷ (qs ++ drop (length qs) xs))) is ∙ ap (λ (l : List _). q ∷ l) (written (length xs) qs xs (omega arith) refl)

module _ {S : Type 0} where
  pub still : (s : SharedView S) (p q : PassView S) → Rests s p → Rested p q → Rests s q
  still s p q rests rested = record {
    of = (rested.same.0 ∙ rests.of.0, rested.same.2 ∙ rests.of.1);
    empty = rested.empty;
  }

  pub again : (p q r : PassView S) → Rested p q → Rested q r → Rested p r
  again p q r one two = record {
    same = (two.same.0 ∙ one.same.0, two.same.1 ∙ one.same.1, two.same.2 ∙ one.same.2, two.same.3 ∙ one.same.3);
    empty = two.empty;
  }

  pub itself : (s : SharedView S) (p : PassView S) → Rests s p → Rested p p
  itself s p rests = record { same = (refl, refl, refl, refl); empty = rests.empty }

  -- a pass after a call that left its holds
  pub rested_by : (s : SharedView S) (p q : PassView S) → Rests s p → IsSame p q → q.state.held ≡ p.state.held → Rested p q
  rested_by s p q rests same held = record { same = same; empty = held ∙ rests.empty }

  pub of_then : (s : SharedView S) (p q : PassView S) → IsOf s p → IsSame p q → IsOf s q
  of_then s p q of same = (same.0 ∙ of.0, same.2 ∙ of.1)

  pub same_then : (p q r : PassView S) → IsSame p q → IsSame q r → IsSame p r
  same_then p q r one two = (two.0 ∙ one.0, two.1 ∙ one.1, two.2 ∙ one.2, two.3 ∙ one.3)

  -- passes as they start may begin, and rest at the end with their numbers
  module _ (s : SharedView S) (h : Facts Event Span) (n : ℕ) where
    others_may : (i k : ℕ) (ps : List (PassView S)) (e : PassView S) → AreOthers s.table s.base h n i ps → k < length ps → Rests s (slice_index_or ps k e)
    others_may i k [] e others lt = absurd (omega arith)
    others_may i zero (p ∷ ps) e others lt = record { of = (others.0, ap (λ q. q.base) others.1); empty = ap (λ q. q.held) others.1 }
    others_may i (suc k) (p ∷ ps) e others lt = others_may (i + 1) k ps e others.2 (omega arith)

    pub started_may : (made k : ℕ) (ps : List (PassView S)) (e : PassView S) → AreStarted s.table s.base h n made ps → k < length ps → Rests s (slice_index_or ps k e)
    started_may made k [] e started lt = absurd started
    started_may made zero (p ∷ ps) e started lt = record { of = (started.0, ap (λ q. q.base) started.1); empty = ap (λ q. q.held) started.1 }
    started_may made (suc k) (p ∷ ps) e started lt = others_may 1 k ps e started.2 (omega arith)

    others_end : (i : ℕ) (ps qs : List (PassView S)) → AreOthers s.table s.base h n i ps → length qs ≡ length ps → ((k : ℕ) (e : PassView S) → k < length ps → Rested (slice_index_or ps k e) (slice_index_or qs k e))
        → AreOf s.table qs × AreNumbered i (map state_of qs)
    others_end i [] [] others len did = (tt, tt)
    others_end i [] (q ∷ qs) others len did = absurd (omega arith)
    others_end i (p ∷ ps) [] others len did = absurd (omega arith)
    others_end i (p ∷ ps) (q ∷ qs) others len did =
        let first : Rested p q = did 0 p (omega arith) in
        let rest = others_end (i + 1) ps qs others.2 (omega arith) (λ k e lt. did (suc k) e (omega arith)) in
        ((first.same.0 ∙ others.0, rest.0), (first.same.3 ∙ ap (λ r. r.card.number) others.1, first.empty, rest.1))

    pub started_end : (made : ℕ) (ps qs : List (PassView S)) → AreStarted s.table s.base h n made ps → length qs ≡ length ps → ((k : ℕ) (e : PassView S) → k < length ps → Rested (slice_index_or ps k e) (slice_index_or qs k e))
        → AreOf s.table qs × AreNumbered 0 (map state_of qs)
    started_end made [] qs started len did = absurd started
    started_end made (p ∷ ps) [] started len did = absurd (omega arith)
    started_end made (p ∷ ps) (q ∷ qs) started len did =
        let first : Rested p q = did 0 p (omega arith) in
        let rest = others_end 1 ps qs started.2 (omega arith) (λ k e lt. did (suc k) e (omega arith)) in
        ((first.same.0 ∙ started.0, rest.0), (first.same.3 ∙ ap (λ r. r.card.number) started.1, first.empty, rest.1))
