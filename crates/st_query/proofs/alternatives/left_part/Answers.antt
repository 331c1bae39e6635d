use Rattle.std.proofs.Common.{◌≡◌, ◌-◌, ◌∙◌, sym, ap, arith}
use Rattle.st_query.specs.Trees.{tree}
use Rattle.st_query.specs.Alternatives.{left_part}
use Rattle.st_query.proofs.Chains.{left_on, left_zero}
use Rattle.st_query.proofs.alternatives.left_part.Goals as goal

pub loop-step-init : goal.loop-step-init
loop-step-init c = let same : c.args.following - 0 ≡ c.args.following = omega arith in ap (left_part (tree c.args.node.now)) same

pub loop-step-preserved : goal.loop-step-preserved
loop-step-preserved c =
    left_on (tree c.args.node.now) (tree c.loop-step.rest.now) (tree c.in-Some.left.now) c.args.following c.loop-step.step (omega arith) c.loop-step.invariant c.in-Some.ensures

pub returns-in_default : goal.returns-in_default
returns-in_default c = sym (c.in_default.ensures (c.args.following - c.loop-step.step)) ∙ c.loop-step.invariant

pub returns : goal.returns
returns c =
    let none : 0 ≡ c.args.following - c.loop-step.step = omega arith in
    sym (left_zero (tree c.loop-step.rest.now)) ∙ ap (left_part (tree c.loop-step.rest.now)) none ∙ c.loop-step.invariant
