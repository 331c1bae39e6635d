use Rattle.std.proofs.Common.{◌≡◌, ◌∙◌, sym, ap, Some}
use Rattle.st_query.specs.Trees.{tree, either}
use Rattle.st_query.proofs.NodeTrees.{or_tree}
use Rattle.st_query.specs.Alternatives.{pattern_in}
use Rattle.st_query.proofs.Chains.{so_far_on, so_far_end}
use Rattle.st_query.proofs.alternatives.patterns_of.Goals as goal

pub parts-preserved : goal.parts-preserved
parts-preserved c =
    let is : tree c.parts.rest.now ≡ either (tree c.get-rest.result.now) (tree c.get.result.now) = rw (c.get.ensures, c.get-rest.ensures) (ap tree c.in-Or.is ∙ or_tree c.in-Or.left c.in-Or.right) in
    so_far_on (tree c.args.node.now) (tree c.parts.rest.now) (tree c.get-rest.result.now) (tree c.get.result.now) c.parts.patterns.items c.push.new.self.items c.in-Some.pattern c.parts.invariant is
    (sym c.pattern_in.ensures ∙ c.in-Some.is) c.in_ok-push-in-Or.ensures.items

pub returns-in_default : goal.returns-in_default
returns-in_default c =
    let e : pattern_in (tree c.parts.rest.now) ≡ Some c.in-Some-pattern_in.pattern = cc in
    so_far_end (tree c.args.node.now) (tree c.parts.rest.now) c.parts.patterns.items c.push-in_default.new.self.items c.in-Some-pattern_in.pattern c.parts.invariant e c.in_ok-push-in_default.ensures.items
