use Rattle.st_answer.proofs.AnswerOrder.{one_answer}
use Rattle.st_answer.proofs.laws.one_answer.Goals as goal

pub returns : goal.returns
returns c = one_answer
