use Rattle.std.proofs.Common.{◌≡◌}
use Rattle.st_turn.specs.Passes.{IsSame}
use Rattle.turn_threads.proofs.reading.unread.Given as goal

abbrev pub invariant-loop-i : goal.invariant-loop-i
invariant-loop-i g l = IsSame l.fn.pass l.pass × (l.pass.state.held ≡ l.fn.pass.state.held)
