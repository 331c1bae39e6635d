use Rattle.st_table.proofs.Joining.{whole_reading}
use Rattle.st_table.proofs.laws.whole_reading.Goals as goal

pub returns : goal.returns
returns c = whole_reading
