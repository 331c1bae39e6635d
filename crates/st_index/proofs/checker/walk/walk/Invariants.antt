use Rattle.st_index.specs.RowList.{rows_left}
use Rattle.std.proofs.Common.{◌≡◌, ℕ, List, Some, option_map}
use Rattle.st_base.specs.Damages.{damage_view}
use Rattle.st_base.specs.PlacedReads.{IsSameFile}
use Rattle.st_tblock.specs.Block.{RowView}
use Rattle.st_table.specs.TableFile.{footer_at}
use Rattle.st_table.specs.Index.{Entered}
use Rattle.st_table.specs.Cursor.{Goes}
use Rattle.st_index.specs.CheckContent.{Remembers}
use Rattle.st_index.specs.CheckWalk.{Compares}
use Rattle.st_index.proofs.checker.walk.walk.Given as goal

abbrev pub invariant-rows : goal.invariant-rows
invariant-rows g l = record {
  entries : l.table.kept.entries ≡ l.fn.table.kept.entries;
  same_reference : l.table.file.ghost_name ≡ l.fn.table.file.ghost_name;
  faults : g.R.Reader.faults l.table.file.now ≡ g.R.Reader.faults l.fn.table.file.now;
  same : IsSameFile (g.R.Reader.content l.fn.table.file.now) (g.R.Reader.content l.table.file.now) (g.R.Reader.extent l.fn.table.file.now) (g.R.Reader.extent l.table.file.now) (g.R.Reader.beside l.fn.table.file.now) (g.R.Reader.beside l.table.file.now);
  walked : (bytes : List ℕ) → g.R.Reader.content l.fn.table.file.now ≡ Some bytes → (entered : Entered bytes l.fn.table.kept.entries.items)
      → (rows : List RowView) × Goes (footer_at bytes) bytes entered.index l.fn.cursor l.cursor rows × Remembers l.content rows × Compares l.number (option_map damage_view l.differs) rows (rows_left l.wanted) (rows_left l.fn.wanted);
}
