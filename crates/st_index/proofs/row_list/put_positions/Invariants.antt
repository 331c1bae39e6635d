use Rattle.std.proofs.Common.{◌≡◌, take}
use Rattle.st_rows.specs.Positions.{positions_value}
use Rattle.st_index.proofs.row_list.put_positions.Given as goal

abbrev pub invariant-loop-position : goal.invariant-loop-position
invariant-loop-position l = l.value.items ≡ positions_value (take l.position-index l.positions)
