use Rattle.std.proofs.Common.{◌≡◌, length}
use Rattle.st_disk.specs.Folders.{apply_all, folder_of}
use Rattle.st_disk.proofs.crashes.make_all.Given as goal

abbrev pub invariant-changes : goal.invariant-changes
invariant-changes l = apply_all l.rest (folder_of l.updates.items) ≡ apply_all l.changes (folder_of l.fn.updates.items)

abbrev pub decreases-changes : goal.decreases-changes
decreases-changes l = length l.rest
