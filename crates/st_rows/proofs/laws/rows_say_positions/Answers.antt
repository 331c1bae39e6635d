use Rattle.st_rows.proofs.Values.{rows_say}
use Rattle.st_rows.proofs.laws.rows_say_positions.Goals as goal

pub returns : goal.returns
returns c = rows_say
