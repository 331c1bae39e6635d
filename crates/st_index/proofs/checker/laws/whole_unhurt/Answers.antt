use Rattle.st_index.proofs.PairStands.{pair_stands}
use Rattle.st_index.proofs.checker.laws.whole_unhurt.Goals as goal

pub returns : goal.returns
returns c = pair_stands
