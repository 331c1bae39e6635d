use Rattle.std.proofs.Common.{◌≡◌, ◌-◌, ℕ, List, [], length, Some}
use Rattle.st_base.specs.PlacedReads.{IsSameFile}
use Rattle.st_tblock.specs.Block.{RowView}
use Rattle.st_table.specs.TableFile.{footer_at}
use Rattle.st_table.specs.Index.{Decodes}
use Rattle.st_table.specs.Cursor.{Goes, Skips}
use Rattle.st_table.proofs.Advancing.{Passes}
use Rattle.st_table.proofs.cursor.step_in.Given as goal

-- no row was given yet, and the file is as it was
abbrev pub invariant-steps : goal.invariant-steps
invariant-steps g l = record {
  still : g.R.Reader.faults l.file ≡ g.R.Reader.faults l.fn.file;
  same : IsSameFile (g.R.Reader.content l.fn.file) (g.R.Reader.content l.file) (g.R.Reader.extent l.fn.file) (g.R.Reader.extent l.file) (g.R.Reader.beside l.fn.file) (g.R.Reader.beside l.file);
  passes : Passes (length l.entries) (g.R.Reader.extent l.fn.file) (g.R.Reader.reads l.fn.file) (g.R.Reader.reads l.file) l.fn.cursor l.cursor;
  skips : (bytes : List ℕ) (index : List RowView) → g.R.Reader.content l.fn.file ≡ Some bytes → Decodes index l.entries → Skips (footer_at bytes) bytes index l.fn.cursor l.cursor;
  goes : (bytes : List ℕ) (index : List RowView) → g.R.Reader.content l.fn.file ≡ Some bytes → Decodes index l.entries → Goes (footer_at bytes) bytes index l.fn.cursor l.cursor [];
}

abbrev pub decreases-steps : goal.decreases-steps
decreases-steps g l = length l.entries - l.cursor.next
