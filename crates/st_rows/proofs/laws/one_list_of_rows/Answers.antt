use Rattle.st_rows.proofs.OneRows.{one_list_of_rows}
use Rattle.st_rows.proofs.laws.one_list_of_rows.Goals as goal

pub returns : goal.returns
returns c = one_list_of_rows
