use Rattle.st_query.proofs.Addresses.{contains, none_with_dot, none_of_both}
use Rattle.st_query.proofs.word_reader.address.Goals as goal

pub returns-then-contains : goal.returns-then-contains
returns-then-contains c =
    let decided = contains c.args.word.now 46 c.contains.result c.contains.ensures.cases in
    none_with_dot c.args.word.now c.in_default.ensures (decided.0 c.if-contains.true)

pub returns-in-Err : goal.returns-in-Err
returns-in-Err c = none_of_both c.args.word.now c.in_default.ensures c.in-Err.ensures
