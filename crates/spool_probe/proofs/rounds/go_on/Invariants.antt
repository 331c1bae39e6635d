use Rattle.std.proofs.Common.{◌≡◌}
use Rattle.spool_probe.proofs.rounds.go_on.Given as goal

abbrev pub invariant-steps : goal.invariant-steps
invariant-steps g l = l.spool.state.holds ≡ l.fn.spool.state.holds
