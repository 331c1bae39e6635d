use Rattle.st_block.proofs.Unique.{one_file}
use Rattle.st_block.proofs.laws.one_file.Goals as goal

pub returns : goal.returns
returns c = one_file
