use Rattle.std.proofs.Common.{◌≡◌, option_map, length}
use Rattle.st_disk.specs.Folders.{Folder, folder_of, updates_on}
use Rattle.st_disk.proofs.folders.find.Given as goal

abbrev pub invariant-updates : goal.invariant-updates
invariant-updates l = (f : Folder) × (updates_on f l.rest ≡ folder_of l.updates) × (option_map (λ b. b.now) l.found ≡ f l.name)

abbrev pub decreases-updates : goal.decreases-updates
decreases-updates l = length l.rest
