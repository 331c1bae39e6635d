use Rattle.st_drill.proofs.Packets.{is_whole_input}
use Rattle.st_drill.proofs.laws.is_whole_input.Goals as goal

pub returns : goal.returns
returns c = is_whole_input
