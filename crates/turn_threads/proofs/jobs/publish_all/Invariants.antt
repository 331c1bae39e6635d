use Rattle.turn_trials.specs.Resting.{Rested}
use Rattle.turn_threads.proofs.jobs.publish_all.Given as goal

abbrev pub invariant-loop : goal.invariant-loop
invariant-loop g l = Rested l.fn.pass l.pass
