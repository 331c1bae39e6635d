use Rattle.st_rows.proofs.Packets.{one_packet_at}
use Rattle.st_rows.proofs.laws.one_packet_at.Goals as goal

pub returns : goal.returns
returns c = one_packet_at
