use Rattle.turn_trials.specs.Resting.{Rested}
use Rattle.turn_threads.proofs.speed.take_turns.Given as goal

abbrev pub invariant-loop : goal.invariant-loop
invariant-loop g l = Rested l.fn.pass l.pass
