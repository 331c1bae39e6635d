use Rattle.st_block.proofs.Finding.{record_bytes}
use Rattle.st_block.proofs.laws.record_bytes.Goals as goal

pub returns : goal.returns
returns c = record_bytes
