use Rattle.std.proofs.Common.{◌≡◌, length}
use Rattle.st_rows.specs.Positions.{positions_in}
use Rattle.st_index.specs.CheckRows.{rises}
use Rattle.st_index.proofs.checker.values.are_rising.Given as goal

abbrev pub invariant-positions : goal.invariant-positions
invariant-positions l = rises (positions_in l.value) ≡ rises (positions_in l.left)

abbrev pub decreases-positions : goal.decreases-positions
decreases-positions l = length l.left
