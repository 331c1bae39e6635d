use Rattle.std.proofs.Common.{length}
use Rattle.st_table.specs.Cursor.{most_left}
use Rattle.table_rows.proofs.reading.print_rows.Given as goal

abbrev pub decreases-rows : goal.decreases-rows
decreases-rows g l = most_left (length l.table.kept.entries.items) (g.R.Reader.extent l.table.file.now) l.cursor
