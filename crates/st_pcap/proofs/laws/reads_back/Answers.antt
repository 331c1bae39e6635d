use Rattle.st_pcap.proofs.RoundTrip.{text_is_pcap}
use Rattle.st_pcap.proofs.laws.reads_back.Goals as goal

pub returns : goal.returns
returns c = text_is_pcap
