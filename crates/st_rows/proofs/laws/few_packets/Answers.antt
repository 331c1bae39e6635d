use Rattle.st_rows.proofs.Packets.{few_packets}
use Rattle.st_rows.proofs.laws.few_packets.Goals as goal

pub returns : goal.returns
returns c = few_packets
