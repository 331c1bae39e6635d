use Rattle.st_drill.proofs.Packets.{are_numbered}
use Rattle.st_drill.proofs.laws.are_numbered.Goals as goal

pub returns : goal.returns
returns c = are_numbered
