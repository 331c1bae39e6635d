use Rattle.st_rows.proofs.Packets.{file_packets}
use Rattle.st_rows.proofs.laws.file_packets.Goals as goal

pub returns : goal.returns
returns c = file_packets
