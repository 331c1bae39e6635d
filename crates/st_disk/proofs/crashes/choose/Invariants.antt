use Rattle.std.proofs.Common.{◌≡◌, ◌+◌, ◌/◌, ◌^◌, ℕ, length}
use Rattle.st_disk.specs.Folders.{folder_of}
use Rattle.st_disk.specs.Crashes.{chosen}
use Rattle.st_disk.proofs.crashes.choose.Given as goal

abbrev pub invariant-changes : goal.invariant-changes
invariant-changes l =
    (choice n : ℕ) → l.fn.bits ≡ choice / 2 ^ n →
    (m : ℕ) × (l.left ≡ choice / 2 ^ m) × (m + length l.rest ≡ n + length l.changes)
    × (chosen m choice l.rest (folder_of l.updates.items) ≡ chosen n choice l.changes (folder_of l.fn.updates.items))

abbrev pub decreases-changes : goal.decreases-changes
decreases-changes l = length l.rest
