use Rattle.st_pcap.proofs.RoundTrip.{text_is_input}
use Rattle.st_pcap.proofs.laws.is_whole_input.Goals as goal

pub returns : goal.returns
returns c = text_is_input
