use Rattle.std.proofs.Common.{◌≡◌, ℕ, List, length}
use Rattle.st_base.specs.PlacedReads.{IsSameFile}
use Rattle.st_tblock.specs.Block.{RowView}
use Rattle.st_table.specs.Cursor.{HoldsNamed, most_left}
use Rattle.st_table.specs.RowOrder.{in_range}
use Rattle.st_table.specs.TableFile.{footer_at, IsTable}
use Rattle.st_eval.specs.Selection.{IsEntered}
use Rattle.st_eval.proofs.Reading.{Collects}
use Rattle.st_eval.proofs.AfterSummary.{IsFrom}
use Rattle.st_eval.proofs.lookups.append_range.Given as goal

abbrev pub invariant-rows : goal.invariant-rows
invariant-rows g l =
    (l.table.kept.entries ≡ l.fn.table.kept.entries)
    × (l.table.kept.checked ≡ l.fn.table.kept.checked)
    × (l.table.file.ghost_name ≡ l.fn.table.file.ghost_name)
    × (g.R.Reader.faults l.table.file.now ≡ g.R.Reader.faults l.fn.table.file.now)
    × IsSameFile (g.R.Reader.content l.fn.table.file.now) (g.R.Reader.content l.table.file.now) (g.R.Reader.extent l.fn.table.file.now) (g.R.Reader.extent l.table.file.now) (g.R.Reader.beside l.fn.table.file.now) (g.R.Reader.beside l.table.file.now)
    × ((bytes : List ℕ) (index rows : List RowView) → IsEntered (g.R.Reader.content l.fn.table.file.now) l.fn.table.kept.entries.items l.fn.table.kept.checked.items bytes index → IsTable bytes rows
    → Collects bytes index l.cursor l.fn.all.items l.all.items (in_range l.low l.high rows))
    × ((bytes : List ℕ) (index : List RowView) → IsEntered (g.R.Reader.content l.fn.table.file.now) l.fn.table.kept.entries.items l.fn.table.kept.checked.items bytes index
    → HoldsNamed (footer_at bytes) bytes index l.cursor)
    × ((bytes : List ℕ) (index : List RowView) → IsEntered (g.R.Reader.content l.fn.table.file.now) l.fn.table.kept.entries.items l.fn.table.kept.checked.items bytes index
    → IsFrom l.low l.cursor)

abbrev pub decreases-rows : goal.decreases-rows
decreases-rows g l = most_left (length l.table.kept.entries.items) (g.R.Reader.extent l.table.file.now) l.cursor
