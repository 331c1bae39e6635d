-- The names so far are of files in the folder.
use Rattle.st_folder.specs.FileNames.{AreIn}
use Rattle.st_folder.proofs.real.folders.names_in.Given as goal

abbrev pub invariant-entries : goal.invariant-entries
invariant-entries l = AreIn l.kind l.names.items
