use Rattle.std.proofs.Common.{get_or}
use Rattle.st_answer.proofs.Indexes.{index_of, few}
use Rattle.st_answer.proofs.choosing.choose.Goals as goal

pub returns-in-Ok-clause-chooses : goal.returns-in-Ok-clause-chooses
returns-in-Ok-clause-chooses g c set d told lt given whole =
    let e = get_or set c.args.i d in
    c.select-result.ensures.selects e.index whole.rows given (c.in-Ok.ensures.content set d told lt) whole.table (index_of e.block e.index given whole) (few e.block given whole.file)
