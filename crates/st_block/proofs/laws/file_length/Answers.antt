use Rattle.st_block.proofs.Rising.{file_length}
use Rattle.st_block.proofs.laws.file_length.Goals as goal

pub returns : goal.returns
returns c = file_length
