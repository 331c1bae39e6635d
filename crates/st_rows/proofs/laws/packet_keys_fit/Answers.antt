use Rattle.st_rows.proofs.Packets.{packet_keys_fit}
use Rattle.st_rows.proofs.laws.packet_keys_fit.Goals as goal

pub returns : goal.returns
returns c = packet_keys_fit
