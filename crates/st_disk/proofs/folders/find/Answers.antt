use Rattle.std.proofs.Common.{refl}
use Rattle.st_disk.specs.Folders.{folder_of, bare}
use Rattle.st_disk.proofs.folders.find.Goals as goal

pub updates-init : goal.updates-init
unfolding folder_of
updates-init c = (bare, refl, refl)
