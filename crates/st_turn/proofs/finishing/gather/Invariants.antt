use Rattle.std.proofs.Common.{length}
use Rattle.st_turn.proofs.BothSeen.{Gathers}
use Rattle.st_turn.proofs.finishing.gather.Given as goal

abbrev pub invariant-loop-other : goal.invariant-loop-other
invariant-loop-other g l = Gathers l.desk.table_id l.fn.passes.items l.others.items l.lead

abbrev pub decreases-loop-other : goal.decreases-loop-other
decreases-loop-other g l = length l.others.items
