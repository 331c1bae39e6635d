use Rattle.std.proofs.Common.{◌≡◌, ℕ, refl, sym, subst, arith, true, false}
use Rattle.st_query.specs.declared.patterns.KeyKind.{KeyKind}
use Rattle.st_query.specs.declared.patterns.Group.{Group}
use Rattle.st_query.specs.Alternatives.{kind_of, number_of, GroupIncludes, Included}
use Rattle.st_query.proofs.Groups.{none_more, some_here, none_there}
use Rattle.st_query.proofs.alternatives.includes.Goals as goal

-- the group includes the key of this kind and number
at : (g : Group) (k l : KeyKind) (m n : ℕ) → k ≡ l → m ≡ n → GroupIncludes g k m → GroupIncludes g l n
at g k l m n e f h = subst (λ (x : ℕ). GroupIncludes g l x) f (subst (λ (x : KeyKind). GroupIncludes g x m) e h)

pub loop-group-init : goal.loop-group-init
loop-group-init c k below d h = absurd (omega arith)

pub loop-group-preserved : goal.loop-group-preserved
loop-group-preserved c =
    none_more (λ (g : Group). GroupIncludes g c.kind_of-kind.result c.number_of-number.result) c.args.groups.now c.loop-group.group-index c.group-item.result c.loop-group-test.true c.group-item.is c.loop-group.invariant
    (λ h. let yes = c.group_includes.ensures.1 h in absurd (cc))

pub returns-then-group_includes : goal.returns-then-group_includes
unfolding Included
returns-then-group_includes c = (
  λ e. some_here (λ (g : Group). GroupIncludes g (kind_of c.args.key) (number_of c.args.key)) c.args.groups.now c.loop-group.group-index c.group-item.result c.loop-group-test.true c.group-item.is
      (at c.group-item.result _ _ _ _ c.kind_of-kind.ensures c.number_of-number.ensures (c.group_includes.ensures.0 c.if-group_includes.true)),
  λ h. refl,
)

pub returns : goal.returns
unfolding Included
returns c = (
  λ e. let never : false ≡ true = e in cc,
  λ (g, is, there). absurd (none_there (λ (g : Group). GroupIncludes g c.kind_of-kind.result c.number_of-number.result) c.args.groups.now c.loop-group.group-index c.loop-group-test.false c.loop-group.invariant
      (g, at g _ _ _ _ (sym c.kind_of-kind.ensures) (sym c.number_of-number.ensures) is, there)),
)
