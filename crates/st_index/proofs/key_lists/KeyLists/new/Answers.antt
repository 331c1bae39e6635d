use Rattle.st_index.proofs.KindOrders.{are_lists}
use Rattle.st_index.proofs.key_lists.KeyLists.new.Goals as goal

pub returns-clause-all : goal.returns-clause-all
returns-clause-all c = are_lists c.args.lists.now
    (c.iter.ensures.ordered, c.iter.ensures.found)
    (c.iter-2.ensures.ordered, c.iter-2.ensures.found)
    (c.iter-3.ensures.ordered, c.iter-3.ensures.found)
    (c.iter-4.ensures.ordered, c.iter-4.ensures.found)
    (c.iter-5.ensures.ordered, c.iter-5.ensures.found)
