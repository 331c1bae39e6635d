use Rattle.seated_answer.specs.Resting.{Rested}
use Rattle.seated_answer.proofs.jobs.publish_many.Given as goal

abbrev pub invariant-loop-n : goal.invariant-loop-n
invariant-loop-n g l = Rested l.fn.pass l.pass
