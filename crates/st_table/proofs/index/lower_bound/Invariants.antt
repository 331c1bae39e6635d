use Rattle.std.proofs.Common.{◌-◌}
use Rattle.st_table.proofs.Finding.{Half}
use Rattle.st_table.proofs.index.lower_bound.Given as goal

abbrev pub invariant-halves : goal.invariant-halves
invariant-halves l = Half l.key l.entries l.low l.high

abbrev pub decreases-halves : goal.decreases-halves
decreases-halves l = l.high - l.low
