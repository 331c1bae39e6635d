use Rattle.st_rows.proofs.KeyTexts.{texts}
use Rattle.st_rows.proofs.laws.text_order.Goals as goal

pub returns : goal.returns
returns c = texts
