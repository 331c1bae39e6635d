use Rattle.st_eval.proofs.NetRanges.{nets}
use Rattle.st_eval.proofs.laws.net_is_range.Goals as goal

pub returns : goal.returns
returns c = nets
