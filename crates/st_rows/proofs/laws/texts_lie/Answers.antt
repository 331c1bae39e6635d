use Rattle.st_rows.proofs.KeyTexts.{texts_between}
use Rattle.st_rows.proofs.laws.texts_lie.Goals as goal

pub returns : goal.returns
returns c = texts_between
