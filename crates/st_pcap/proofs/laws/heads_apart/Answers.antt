use Rattle.st_pcap.proofs.Causes.{heads_are_apart}
use Rattle.st_pcap.proofs.laws.heads_apart.Goals as goal

pub returns : goal.returns
returns c = heads_are_apart
