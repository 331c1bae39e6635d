use Rattle.st_table.proofs.Finding.{half_found, half_before}
use Rattle.st_table.proofs.index.lower_bound.Goals as goal

pub returns-clause-found : goal.returns-clause-found
returns-clause-found c = half_found c.args.key.now c.args.entries.now c.halves.low c.halves.high c.halves.invariant c.halves-test.false

pub returns-clause-before : goal.returns-clause-before
returns-clause-before c = half_before c.args.key.now c.args.entries.now c.halves.low c.halves.high c.halves.invariant c.halves-test.false
