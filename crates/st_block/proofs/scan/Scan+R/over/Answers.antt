use Rattle.std.proofs.Common.{arith}
use Rattle.st_block.proofs.Starting.{power}
use Rattle.st_block.proofs.scan.Scan+R.over.Goals as goal

pub new-requires-clause-size : goal.new-requires-clause-size
new-requires-clause-size g c = power 12 (omega arith) (omega arith)
