use Rattle.std.proofs.Common.{◌∙◌, ap, subst, List}
use Rattle.std.proofs.lemmas.List.Sorted.{IsNonDecreasingBy-from_sort}
use Rattle.st_query.specs.declared.patterns.KeyKind.TheVariants as kind
use Rattle.st_query.specs.declared.patterns.Pattern.{Pattern}
use Rattle.st_query.specs.Alternatives.{AreNumbers}
use Rattle.st_query.proofs.Groups.{no_numbers, numbers_push, numbers_pass, numbers_sorted, all_taken}
use Rattle.st_query.proofs.alternatives.numbers_of.Goals as goal
use Rattle.st_query.proofs.alternatives.numbers_of.Goals.{then-is_of+in_ok-push, else-is_of}

none : Pattern
none = record { kind = kind.Proto; dropped = 0; number = 0 }

pub loop-pattern-init : goal.loop-pattern-init
loop-pattern-init c = no_numbers c.args.kind c.args.dropped c.new-numbers.result.items c.new-numbers.ensures.items

pub loop-pattern-preserved : goal.loop-pattern-preserved
unfolding none
loop-pattern-preserved c =
    let xs = c.args.patterns.now in
    let i = c.loop-pattern.pattern-index in
    elim c.if-is_of.branch [
      | then-is_of+in_ok-push w ↦ numbers_push c.args.kind c.args.dropped xs i none c.loop-pattern.numbers.items c.if-is_of.numbers.items c.loop-pattern-test.true c.loop-pattern.invariant (c.is_of.ensures.0 w.if-is_of.true)
          (ap (λ v. v.items) w.numbers-is ∙ w.in_ok-push.ensures.items)
      | else-is_of w ↦ numbers_pass c.args.kind c.args.dropped xs i none c.loop-pattern.numbers.items c.if-is_of.numbers.items c.loop-pattern-test.true c.loop-pattern.invariant
          (λ h. let yes = c.is_of.ensures.1 h in absurd (cc)) (ap (λ v. v.items) w.numbers-is)
    ]

pub returns-clause-sorted : goal.returns-clause-sorted
returns-clause-sorted c = IsNonDecreasingBy-from_sort (λ x. x) c.sort_unstable.new.self.items c.sort_unstable.ensures.sorted

pub returns-clause-members : goal.returns-clause-members
returns-clause-members c =
    let xs = c.args.patterns.now in
    let i = c.loop-pattern.pattern-index in
    numbers_sorted c.args.kind c.args.dropped xs c.loop-pattern.numbers.items c.sort_unstable.new.self.items
    (subst (λ (ps : List Pattern). AreNumbers c.args.kind c.args.dropped ps c.loop-pattern.numbers.items) (all_taken xs i c.loop-pattern-test.false c.loop-pattern.auto.pattern-index-end) c.loop-pattern.invariant)
    c.sort_unstable.ensures.permutation
