use Rattle.st_eval.proofs.Joining.{selects_matching}
use Rattle.st_eval.proofs.laws.selects_matching.Goals as goal

pub returns : goal.returns
returns c = selects_matching
