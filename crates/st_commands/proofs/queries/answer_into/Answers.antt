use Rattle.std.proofs.Common.{rules}
use Rattle.st_commands.proofs.Querying.{replies_at}
use Rattle.st_commands.proofs.queries.answer_into.Goals as goal

pub returns-clause-replies : goal.returns-clause-replies
returns-clause-replies g c = replies_at _ _ _ _ _ _ _ (search rules) (search rules) c.answer.ensures.replies
