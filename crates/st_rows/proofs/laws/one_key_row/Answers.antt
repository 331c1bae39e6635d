use Rattle.st_rows.proofs.OneRows.{one_key_row}
use Rattle.st_rows.proofs.laws.one_key_row.Goals as goal

pub returns : goal.returns
returns c = one_key_row
