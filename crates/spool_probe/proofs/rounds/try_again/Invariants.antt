use Rattle.std.proofs.Common.{◌≡◌, []}
use Rattle.spool_probe.proofs.rounds.try_again.Given as goal

abbrev pub invariant-tries : goal.invariant-tries
invariant-tries g l = l.spool.state.holds ≡ []
