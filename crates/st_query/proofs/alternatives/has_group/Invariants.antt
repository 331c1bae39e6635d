use Rattle.std.proofs.Common.{◌≡◌}
use Rattle.st_query.specs.declared.patterns.Group.{Group}
use Rattle.st_query.proofs.Groups.{NoneYet}
use Rattle.st_query.proofs.alternatives.has_group.Given as goal

abbrev pub invariant-loop-group : goal.invariant-loop-group
invariant-loop-group l = NoneYet (λ (g : Group). (g.kind ≡ l.kind) × (g.dropped ≡ l.dropped)) l.groups l.group-index
