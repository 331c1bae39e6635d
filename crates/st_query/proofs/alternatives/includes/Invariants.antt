use Rattle.st_query.specs.declared.patterns.Group.{Group}
use Rattle.st_query.specs.Alternatives.{GroupIncludes}
use Rattle.st_query.proofs.Groups.{NoneYet}
use Rattle.st_query.proofs.alternatives.includes.Given as goal

abbrev pub invariant-loop-group : goal.invariant-loop-group
invariant-loop-group l = NoneYet (λ (g : Group). GroupIncludes g l.kind l.number) l.groups l.group-index
