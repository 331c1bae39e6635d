use Rattle.std.proofs.Common.{ℕ, ◌<◌, map, string_bytes}
use Rattle.st_plan.specs.Places.{IsSecondAt}
use Rattle.st_plan.proofs.places.second_place.Given as goal

-- the second operand stands at no place so far
abbrev pub invariant-places : goal.invariant-places
invariant-places l = (j : ℕ) → j < l.i → IsSecondAt (map string_bytes l.words) j l.operand → ⊥
