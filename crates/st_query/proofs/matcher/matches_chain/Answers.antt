use Rattle.std.proofs.Common.{◌≡◌, ◌-◌, ◌∙◌, ap, arith}
use Rattle.st_base.specs.Records.{Rec}
use Rattle.st_query.specs.Trees.{tree, both, either}
use Rattle.st_query.specs.Alternatives.{left_part}
use Rattle.st_query.proofs.NodeTrees.{and_tree, or_tree}
use Rattle.st_query.proofs.Chains.{left_or, left_and, chain_decides}
use Rattle.st_query.proofs.matcher.matches_chain.Goals as goal
use Rattle.st_query.proofs.matcher.matches_chain.Goals.{in-Or+else-matches_part, in-And+else-not-matches_part}

pub loop-step-init : goal.loop-step-init
loop-step-init c =
    let same : c.args.chain.now.following - 0 ≡ c.args.chain.now.following = omega arith in
    (ap (left_part (tree c.args.node.now)) same, (λ m. m, λ m. m))

pub loop-step-preserved : goal.loop-step-preserved
loop-step-preserved c =
    let q = tree c.args.node.now in
    let rest = tree c.loop-step.rest.now in
    let new = tree c.match-rest.rest.now in
    let r = c.args.packet.now.record.now in
    let n = c.args.chain.now.following in
    elim c.match-rest.branch [
      | in-Or+else-matches_part w ↦
          let is : rest ≡ either (tree w.get-rest.result.now) (tree w.get.result.now) = rw (w.get.ensures, w.get-rest.ensures) (ap tree w.in-Or.is ∙ or_tree w.in-Or.left w.in-Or.right) in
          left_or n c.args.now r q rest new (tree w.get-rest.result.now) (tree w.get.result.now) c.loop-step.step w.matches_part.result c.loop-step-test.true c.loop-step.invariant is (ap (λ b. tree b.now) w.rest-is) w.matches_part.ensures w.if-matches_part.false
      | in-And+else-not-matches_part w ↦
          let is : rest ≡ both (tree w.get-rest-in-And.result.now) (tree w.get-in-And.result.now) = rw (w.get-in-And.ensures, w.get-rest-in-And.ensures) (ap tree w.in-And.is ∙ and_tree w.in-And.left w.in-And.right) in
          left_and n c.args.now r q rest new (tree w.get-rest-in-And.result.now) (tree w.get-in-And.result.now) c.loop-step.step w.matches_part-in-And.result c.loop-step-test.true c.loop-step.invariant is (ap (λ b. tree b.now) w.rest-is) w.matches_part-in-And.ensures w.if-not-matches_part.false
    ]

pub returns : goal.returns
returns c =
    chain_decides (tree c.args.node.now) (tree c.loop-step.rest.now) c.args.chain.now c.loop-step.step c.args.now c.args.packet.now.record.now c.deref.result.now c.record.inside.body.now c.includes_any.result
    c.requires.chain c.loop-step.invariant c.loop-step-test.false c.deref.ensures.value (ap (λ (q : Rec). q.body) c.record.view_is) c.includes_any.ensures
