use Rattle.st_eval.proofs.PrimitiveRanges.{ranges_fit}
use Rattle.st_eval.proofs.laws.ranges_fit.Goals as goal

pub returns : goal.returns
returns c = ranges_fit
