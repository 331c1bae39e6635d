use Rattle.std.proofs.Common.{◌≡◌, take}
use Rattle.st_disk.proofs.crashes.copy_updates.Given as goal

abbrev pub invariant-loop-update : goal.invariant-loop-update
invariant-loop-update l = l.copy.items ≡ take l.update-index l.updates
