use Rattle.std.proofs.Common.{◌≡◌, ◌≤◌, ◌+◌, ◌*◌, List, take, ◌++◌}
use Rattle.st_base.specs.PlacedReads.{IsSameFile}
use Rattle.st_block.specs.declared.format.TheConstants.{RECORD_HEAD}
use Rattle.st_block.specs.Scan.{PositionedRecord}
use Rattle.st_answer.specs.Heads.{AddsPicks, AreAt}
use Rattle.st_answer.specs.Picks.{picks_of}
use Rattle.st_answer.proofs.heads.heads.Given as goal

abbrev pub invariant-heads : goal.invariant-heads
invariant-heads g l = record {
  adds : AddsPicks l.place l.stamp l.fn.picked.items l.picked.items;
  picks : (xs : List PositionedRecord) → AreAt (g.F.Reader.content l.fn.file) l.positions xs
      → l.picked.items ≡ l.fn.picked.items ++ picks_of l.place l.stamp (take l.position-index xs);
  faults : g.F.Reader.faults l.file ≡ g.F.Reader.faults l.fn.file;
  reads : g.F.Reader.reads l.file ≤ g.F.Reader.reads l.fn.file + l.position-index;
  asked : g.F.Reader.asked l.file ≤ g.F.Reader.asked l.fn.file + RECORD_HEAD * l.position-index;
  same : IsSameFile (g.F.Reader.content l.fn.file) (g.F.Reader.content l.file)
      (g.F.Reader.extent l.fn.file) (g.F.Reader.extent l.file) (g.F.Reader.beside l.fn.file) (g.F.Reader.beside l.file);
}
