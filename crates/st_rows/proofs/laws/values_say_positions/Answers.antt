use Rattle.st_rows.proofs.Values.{values_say}
use Rattle.st_rows.proofs.laws.values_say_positions.Goals as goal

pub returns : goal.returns
returns c = values_say
