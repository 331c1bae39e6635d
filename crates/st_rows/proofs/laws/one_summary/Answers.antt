use Rattle.st_rows.proofs.OneRows.{one_summary}
use Rattle.st_rows.proofs.laws.one_summary.Goals as goal

pub returns : goal.returns
returns c = one_summary
