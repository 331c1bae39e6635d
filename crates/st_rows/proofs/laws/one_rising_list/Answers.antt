use Rattle.st_rows.proofs.OneList.{one_rising_list}
use Rattle.st_rows.proofs.laws.one_rising_list.Goals as goal

pub returns : goal.returns
returns c = one_rising_list
