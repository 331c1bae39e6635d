use Rattle.st_table.proofs.Rising.{table_rises}
use Rattle.st_table.proofs.laws.keys_rise.Goals as goal

pub returns : goal.returns
returns c = table_rises
