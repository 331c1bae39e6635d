use Rattle.std.proofs.Common.{◌≡◌, ◌-◌, ◌++◌, ◌≤◌, length, drop}
use Rattle.st_rows.specs.Positions.{positions_in}
use Rattle.st_eval.proofs.values.decode.Given as goal

abbrev pub invariant-positions : goal.invariant-positions
invariant-positions l =
    (l.at ≤ length l.value)
    × (l.all.items ++ positions_in (drop l.at l.value) ≡ l.fn.all.items ++ positions_in l.value)

abbrev pub decreases-positions : goal.decreases-positions
decreases-positions l = length l.value - l.at
