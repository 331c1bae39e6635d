use Rattle.std.proofs.Common.{take}
use Rattle.st_query.specs.Alternatives.{AreNumbers}
use Rattle.st_query.proofs.alternatives.numbers_of.Given as goal

abbrev pub invariant-loop-pattern : goal.invariant-loop-pattern
invariant-loop-pattern l = AreNumbers l.kind l.dropped (take l.pattern-index l.patterns) l.numbers.items
