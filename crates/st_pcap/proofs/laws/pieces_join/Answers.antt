use Rattle.st_pcap.proofs.Joining.{pieces_text}
use Rattle.st_pcap.proofs.laws.pieces_join.Goals as goal

pub returns : goal.returns
returns c = pieces_text
