use Rattle.std.proofs.Common.{length}
use Rattle.st_table.proofs.Indexes.{Collected}
use Rattle.st_table.proofs.index.entries_in.Given as goal

abbrev pub invariant-entries : goal.invariant-entries
invariant-entries l = Collected l.block l.base l.cursor l.entries.items

abbrev pub decreases-entries : goal.decreases-entries
decreases-entries l = length l.cursor.reading.rest
