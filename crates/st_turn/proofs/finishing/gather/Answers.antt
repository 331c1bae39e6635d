use Rattle.st_turn.proofs.BothSeen.{gathers_last}
use Rattle.st_turn.proofs.finishing.gather.Goals as goal

pub merge-requires-clause-table : goal.merge-requires-clause-table
merge-requires-clause-table g c =
    let last = gathers_last c.args.desk.now.table_id c.args.passes.items c.pop.new.self.items c.loop-other.others.items c.in-Some.other c.loop-other.lead c.in-Some.ensures.items c.loop-other.invariant in
    (c.loop-other.invariant.here, last.0, c.requires.table.1)

pub merge-requires-clause-other : goal.merge-requires-clause-other
merge-requires-clause-other g c =
    (gathers_last c.args.desk.now.table_id c.args.passes.items c.pop.new.self.items c.loop-other.others.items c.in-Some.other c.loop-other.lead c.in-Some.ensures.items c.loop-other.invariant).1

pub loop-other-preserved : goal.loop-other-preserved
loop-other-preserved g c =
    let last = gathers_last c.args.desk.now.table_id c.args.passes.items c.pop.new.self.items c.loop-other.others.items c.in-Some.other c.loop-other.lead c.in-Some.ensures.items c.loop-other.invariant in
    last.2 c.merge.new.pass c.merge.ensures.0 c.merge.ensures.2
