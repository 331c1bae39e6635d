use Rattle.st_disk.proofs.OneSet.{one_file_set}
use Rattle.st_disk.proofs.laws.one_file_set.Goals as goal

pub returns : goal.returns
returns c = one_file_set
