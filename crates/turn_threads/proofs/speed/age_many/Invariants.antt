use Rattle.std.proofs.Common.{◌≡◌}
use Rattle.st_turn.specs.Passes.{IsSame}
use Rattle.turn_threads.proofs.speed.age_many.Given as goal

abbrev pub invariant-loop : goal.invariant-loop
invariant-loop g l = IsSame l.fn.pass l.pass × (l.pass.state.held ≡ l.fn.pass.state.held)
