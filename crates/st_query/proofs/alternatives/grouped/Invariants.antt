use Rattle.std.proofs.Common.{take}
use Rattle.st_query.proofs.Groups.{Members, Covers}
use Rattle.st_query.proofs.alternatives.grouped.Given as goal

abbrev pub invariant-loop-pattern : goal.invariant-loop-pattern
invariant-loop-pattern l = Members l.patterns l.groups.items × Covers (take l.pattern-index l.patterns) l.groups.items
