use Rattle.st_drill.proofs.Replied.{tells_reply}
use Rattle.st_drill.proofs.asking.counted.Goals as goal

pub returns-clause-tells : goal.returns-clause-tells
returns-clause-tells g c = tells_reply _ _ _ _ _ _ c.answer.result c.answer.ensures.replies
