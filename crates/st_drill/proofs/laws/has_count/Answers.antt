use Rattle.st_drill.proofs.Packets.{has_count}
use Rattle.st_drill.proofs.laws.has_count.Goals as goal

pub returns : goal.returns
returns c = has_count
