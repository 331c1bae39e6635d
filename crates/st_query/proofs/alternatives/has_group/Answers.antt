use Rattle.std.proofs.Common.{◌≡◌, refl, arith, true, false}
use Rattle.st_query.specs.declared.patterns.Group.{Group}
use Rattle.st_query.proofs.Groups.{none_more, some_here, none_there}
use Rattle.st_query.proofs.alternatives.has_group.Goals as goal

pub loop-group-init : goal.loop-group-init
loop-group-init c k below d h = absurd (omega arith)

pub loop-group-preserved : goal.loop-group-preserved
loop-group-preserved c =
    none_more (λ (g : Group). (g.kind ≡ c.args.kind) × (g.dropped ≡ c.args.dropped)) c.args.groups.now c.loop-group.group-index c.group-item.result c.loop-group-test.true c.group-item.is c.loop-group.invariant
    (λ h. let yes = c.is_group.ensures.1 h in absurd (cc))

pub returns-then-is_group : goal.returns-then-is_group
returns-then-is_group c = (
  λ e. some_here (λ (g : Group). (g.kind ≡ c.args.kind) × (g.dropped ≡ c.args.dropped)) c.args.groups.now c.loop-group.group-index c.group-item.result c.loop-group-test.true c.group-item.is (c.is_group.ensures.0 c.if-is_group.true),
  λ h. refl,
)

pub returns : goal.returns
returns c = (
  λ e. let never : false ≡ true = e in cc,
  λ h. absurd (none_there (λ (g : Group). (g.kind ≡ c.args.kind) × (g.dropped ≡ c.args.dropped)) c.args.groups.now c.loop-group.group-index c.loop-group-test.false c.loop-group.invariant h),
)
