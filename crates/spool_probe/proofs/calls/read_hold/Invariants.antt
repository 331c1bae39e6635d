use Rattle.std.proofs.Common.{◌≡◌}
use Rattle.spool_probe.proofs.calls.read_hold.Given as goal

abbrev pub invariant-pairs : goal.invariant-pairs
invariant-pairs g l = l.spool.state ≡ l.fn.spool.state
