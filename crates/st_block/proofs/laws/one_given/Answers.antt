use Rattle.st_block.proofs.Unhurt.{one_given_there}
use Rattle.st_block.proofs.laws.one_given.Goals as goal

pub returns : goal.returns
returns c = one_given_there
