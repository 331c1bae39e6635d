-- The end: all passes are joined into the first, and the spool comes back.
use Rattle.std.specs.Prelude.{◌≡◌, ◌≤◌, ◌+◌, ◌-◌, ◌^◌, ℕ, List, [], ◌∷◌, min, Some}
use Rattle.st_turn.specs.Parts.{Facts, PassState, total, IsPrefix, Each, is_same}
use Rattle.st_turn.specs.Steps.{visitor, joined}

module _ {S E H : Type 0} where
  -- a pass into which all of these were joined, the last one first
  abbrev pub gathered : PassState S E H → List (PassState S E H) → PassState S E H
  gathered p [] = p
  gathered p (o ∷ os) = joined (gathered p os) o

  -- the first of these passes, into which all others were joined
  abbrev pub gathered_all : List (PassState S E H) → PassState S E H
  gathered_all [] = visitor []
  gathered_all (p ∷ ps) = gathered p ps

  -- these passes have the numbers from this one on, in order, and hold nothing
  abbrev pub AreNumbered : ℕ → List (PassState S E H) → Type 0
  AreNumbered n [] = Unit {0}
  AreNumbered n (p ∷ ps) = (p.card.number ≡ Some n) × (p.held ≡ []) × AreNumbered (n + 1) ps

  -- A spool as it was shared and as it came back, with what its passes know: each saw a beginning
  -- of the one history, no two own one place, and no hold is out. The shelf's count rose at least
  -- as often as the passes counted, or stands at its greatest number. No more publications and
  -- ageings failed than they counted, and no fewer than each knew of.
  pub record Ended (first last : Facts E H) (ps : List (PassState S E H)) : Type 0 where
    pub seen : Each (λ p. IsPrefix p.card.seen last.history) ps
    pub own : (k : ℕ) → total (λ p. total (is_same k) p.card.own) ps ≤ 1
    pub holds : last.holds ≡ []
    pub failed : min (first.faults + total (λ p. p.card.failed) ps) (2 ^ 64 - 1) ≤ last.faults
    pub stops : last.halts ≤ first.halts + total (λ p. p.card.stops) ps
    pub halts : Each (λ p. p.card.halts ≤ last.halts) ps
