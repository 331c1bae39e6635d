use Rattle.std.proofs.Common.{◌≡◌, []}
use Rattle.spool_probe.proofs.rounds.session.Given as goal

abbrev pub invariant-rounds : goal.invariant-rounds
invariant-rounds g l = l.spool.state.holds ≡ []
