use Rattle.st_eval.proofs.PrimitiveRanges.{matches_by_range}
use Rattle.st_eval.proofs.laws.matches_by_range.Goals as goal

pub returns : goal.returns
returns c = matches_by_range
