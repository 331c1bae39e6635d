use Rattle.st_block.proofs.Unique.{one_block}
use Rattle.st_block.proofs.laws.one_block.Goals as goal

pub returns : goal.returns
returns c = one_block
