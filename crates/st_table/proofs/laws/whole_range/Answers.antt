use Rattle.st_table.proofs.Joining.{all_in_range}
use Rattle.st_table.proofs.laws.whole_range.Goals as goal

pub returns : goal.returns
returns c = all_in_range
