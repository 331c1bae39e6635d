use Rattle.std.proofs.Common.{◌∙◌, ap, refl, subst, List, get_or}
use Rattle.st_query.specs.declared.patterns.KeyKind.TheVariants as kind
use Rattle.st_query.specs.declared.patterns.Pattern.{Pattern}
use Rattle.st_query.specs.declared.patterns.Group.{Group}
use Rattle.st_query.specs.Alternatives.{HasGroup}
use Rattle.st_query.proofs.Groups.{Covers, groups_push, groups_pass, all_taken}
use Rattle.st_query.proofs.alternatives.grouped.Goals as goal
use Rattle.st_query.proofs.alternatives.grouped.Goals.{then-not-has_group+in_ok-numbers+in_ok-push, else-not-has_group}

none : Pattern
none = record { kind = kind.Proto; dropped = 0; number = 0 }

pub loop-pattern-preserved : goal.loop-pattern-preserved
unfolding none
loop-pattern-preserved c =
    let xs = c.args.patterns.now in
    let i = c.loop-pattern.pattern-index in
    elim c.if-not-has_group.branch [
      | then-not-has_group+in_ok-numbers+in_ok-push w ↦ groups_push xs i none c.loop-pattern.groups.items c.if-not-has_group.groups.items _ c.loop-pattern-test.true c.loop-pattern.invariant w.in_ok-numbers.ensures.members refl refl
          (ap (λ v. v.items) w.groups-is ∙ w.in_ok-push.ensures.items)
      | else-not-has_group w ↦ groups_pass xs i none c.loop-pattern.groups.items c.if-not-has_group.groups.items c.loop-pattern-test.true c.loop-pattern.invariant
          (subst (λ (gs : List Group). HasGroup gs (get_or xs i none).kind (get_or xs i none).dropped) c.deref.ensures.value (c.has_group.ensures.0 w.if-not-has_group.false)) (ap (λ v. v.items) w.groups-is)
    ]

pub returns : goal.returns
returns c =
    let xs = c.args.patterns.now in
    let gs = c.loop-pattern.groups.items in
    record {
      members = c.loop-pattern.invariant.0;
      whole = subst (λ (ps : List Pattern). Covers ps gs) (all_taken xs c.loop-pattern.pattern-index c.loop-pattern-test.false c.loop-pattern.auto.pattern-index-end) c.loop-pattern.invariant.1;
    }
