use Rattle.st_pcap.proofs.Existence.{some_input}
use Rattle.st_pcap.proofs.laws.some_reading.Goals as goal

pub returns : goal.returns
returns c = some_input
