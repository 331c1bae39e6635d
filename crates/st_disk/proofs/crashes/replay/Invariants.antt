use Rattle.std.proofs.Common.{◌≡◌, length}
use Rattle.st_disk.specs.Folders.{folder_of}
use Rattle.st_disk.specs.Disks.{after, flushed_side}
use Rattle.st_disk.specs.Crashes.{side_from}
use Rattle.st_disk.proofs.crashes.replay.Given as goal

abbrev pub invariant-calls : goal.invariant-calls
invariant-calls l = after l.kind (side_from l.side.flushed.items l.side.later.items) l.rest ≡ after l.kind (flushed_side (folder_of l.start)) l.calls

abbrev pub decreases-calls : goal.decreases-calls
decreases-calls l = length l.rest
