use Rattle.std.proofs.Common.{◌+◌, ◌≤◌, length}
use Rattle.st_table.specs.Rows.{lies_in}
use Rattle.st_table.proofs.Ranges.{Ranged}
use Rattle.st_table.proofs.rows.rows_in.Given as goal

abbrev pub invariant-rows : goal.invariant-rows
invariant-rows l = record {
  ranged : Ranged (lies_in l.bounds) l.block l.base l.low l.high l.cursor l.kept.items;
  few : length l.kept.items + length l.cursor.reading.rest ≤ length l.block;
}

abbrev pub decreases-rows : goal.decreases-rows
decreases-rows l = length l.cursor.reading.rest
