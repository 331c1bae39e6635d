use Rattle.st_table.proofs.Joining.{goes_joined}
use Rattle.st_table.proofs.laws.steps_join.Goals as goal

pub returns : goal.returns
returns c = goes_joined
