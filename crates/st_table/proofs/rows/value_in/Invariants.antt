use Rattle.std.proofs.Common.{length, option_map}
use Rattle.st_table.specs.Rows.{lies_in}
use Rattle.st_table.proofs.Lookups.{Found}
use Rattle.st_table.proofs.rows.value_in.Given as goal

abbrev pub invariant-rows : goal.invariant-rows
invariant-rows l = Found (lies_in l.bounds) l.block l.base l.wanted l.cursor (option_map (λ v. v.now) l.found)

abbrev pub decreases-rows : goal.decreases-rows
decreases-rows l = length l.cursor.reading.rest
