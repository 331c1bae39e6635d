use Rattle.seated_answer.specs.Resting.{Rests, Rested}
use Rattle.seated_answer.proofs.jobs.ask_many.Given as goal

abbrev pub invariant-loop : goal.invariant-loop
invariant-loop g l =
    Rested l.fn.pass l.pass × Rests (g.D.Shelf.log l.shared.base.shelf) l.shared l.pass
