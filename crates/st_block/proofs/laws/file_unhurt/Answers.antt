use Rattle.st_block.proofs.Unhurt.{file_unhurt}
use Rattle.st_block.proofs.laws.file_unhurt.Goals as goal

pub returns : goal.returns
returns c = file_unhurt
