use Rattle.st_commands.proofs.Naming.{damaged_is_hurt}
use Rattle.st_commands.proofs.laws.damaged_is_hurt.Goals as goal

pub returns : goal.returns
returns c = damaged_is_hurt
