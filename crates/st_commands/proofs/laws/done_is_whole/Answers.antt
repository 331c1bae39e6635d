use Rattle.st_commands.proofs.Naming.{done_is_whole}
use Rattle.st_commands.proofs.laws.done_is_whole.Goals as goal

pub returns : goal.returns
returns c = done_is_whole
