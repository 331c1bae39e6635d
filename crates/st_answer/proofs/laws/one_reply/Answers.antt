use Rattle.st_answer.proofs.AnswerOrder.{one_reply}
use Rattle.st_answer.proofs.laws.one_reply.Goals as goal

pub returns : goal.returns
returns c = one_reply
