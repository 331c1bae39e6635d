use Rattle.std.proofs.Common.{◌≡◌, ℕ, ◌≤◌, ◌-◌, ◌^◌, List, [], Some, max}
use Rattle.st_base.specs.PlacedReads.{IsSameFile}
use Rattle.st_block.specs.ScanView.{reached_offset}
use Rattle.st_block.specs.Scan.{PositionedRecord, HasGiven}
use Rattle.st_index.specs.Maker.{HasRecords}
use Rattle.st_index.proofs.checker.packets.add_packets.Given as goal

abbrev pub invariant-packets : goal.invariant-packets
invariant-packets g l = record {
  same_reference : l.scan.file.ghost_name ≡ l.fn.scan.file.ghost_name;
  faults : g.R.Reader.faults l.scan.file.now ≡ g.R.Reader.faults l.fn.scan.file.now;
  same : IsSameFile (g.R.Reader.content l.fn.scan.file.now) (g.R.Reader.content l.scan.file.now) (g.R.Reader.extent l.fn.scan.file.now) (g.R.Reader.extent l.scan.file.now) (g.R.Reader.beside l.fn.scan.file.now) (g.R.Reader.beside l.scan.file.now);
  end : l.maker.end ≤ max 48 (reached_offset l.scan.state);
  given : (bytes : List ℕ) → g.R.Reader.content l.fn.scan.file.now ≡ Some bytes → HasGiven l.fn.scan.state bytes [] → HasRecords l.fn.maker []
      → (given : List PositionedRecord) × HasGiven l.scan.state bytes given × HasRecords l.maker given;
}

abbrev pub decreases-packets : goal.decreases-packets
decreases-packets g l = 2 ^ 32 - reached_offset l.scan.state
