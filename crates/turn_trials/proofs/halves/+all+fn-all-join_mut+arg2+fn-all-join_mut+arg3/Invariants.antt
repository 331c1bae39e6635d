use Rattle.std.proofs.Common.{length}
use Rattle.turn_trials.proofs.halves.+all+fn-all-join_mut+arg2+fn-all-join_mut+arg3.Given as goal

abbrev pub decreases-all : goal.decreases-all
decreases-all g l = length l.jobs.now

abbrev pub decreases-join_mut+arg2 : goal.decreases-join_mut+arg2
decreases-join_mut+arg2 g l = length l.a.now

abbrev pub decreases-join_mut+arg3 : goal.decreases-join_mut+arg3
decreases-join_mut+arg3 g l = length l.b.now
