use Rattle.std.proofs.Common.{ℕ, ◌<◌, ◌≤◌, ◌-◌, length, slice_index}
use Rattle.st_eval.proofs.positions.skip_below.Given as goal

abbrev pub invariant-numbers : goal.invariant-numbers
invariant-numbers l =
    (l.at ≤ l.next) × (l.next ≤ length l.items)
    × ((k : ℕ) → l.at ≤ k → k < l.next → slice_index l.items k < l.bound)

abbrev pub decreases-numbers : goal.decreases-numbers
decreases-numbers l = length l.items - l.next
