-- The number so far is above those of all drafts that were looked at.
use Rattle.std.proofs.Common.{All, take}
use Rattle.st_folder.specs.Numbers.{IsBelow}
use Rattle.st_folder.proofs.real.folders.number_above.Given as goal

abbrev pub invariant-names : goal.invariant-names
invariant-names l = All (IsBelow l.next) (take l.name-index l.names)
