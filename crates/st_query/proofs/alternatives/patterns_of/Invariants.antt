use Rattle.st_query.specs.Trees.{tree}
use Rattle.st_query.proofs.Chains.{SoFar}
use Rattle.st_query.proofs.alternatives.patterns_of.Given as goal

abbrev pub invariant-parts : goal.invariant-parts
invariant-parts l = SoFar (tree l.fn.node) (tree l.rest) l.patterns.items
