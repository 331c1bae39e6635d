use Rattle.st_pcap.proofs.Uniqueness.{one_input}
use Rattle.st_pcap.proofs.laws.one_reading.Goals as goal

pub returns : goal.returns
returns c = one_input
