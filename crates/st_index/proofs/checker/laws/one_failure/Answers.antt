use Rattle.st_index.proofs.OneFailure.{one_failure}
use Rattle.st_index.proofs.checker.laws.one_failure.Goals as goal

pub returns : goal.returns
returns c = one_failure
