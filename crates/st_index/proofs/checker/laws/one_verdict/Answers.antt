use Rattle.st_index.proofs.OneFailure.{one_verdict}
use Rattle.st_index.proofs.checker.laws.one_verdict.Goals as goal

pub returns : goal.returns
returns c = one_verdict
