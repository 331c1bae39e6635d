use Rattle.st_table.proofs.OneTable.{one_table}
use Rattle.st_table.proofs.laws.one_list_of_rows.Goals as goal

pub returns : goal.returns
returns c = one_table
