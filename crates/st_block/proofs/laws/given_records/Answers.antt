use Rattle.st_block.proofs.Finding.{given_records}
use Rattle.st_block.proofs.laws.given_records.Goals as goal

pub returns : goal.returns
returns c = given_records
