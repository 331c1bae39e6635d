use Rattle.st_query.specs.Trees.{tree}
use Rattle.st_query.proofs.Chains.{chain_made}
use Rattle.st_query.proofs.alternatives.chain_of.Goals as goal

pub returns : goal.returns
returns c =
    chain_made (tree c.args.node.now) (tree c.left_part.result.now) c.in-Some.following c.in-Some-2.patterns.items c.deref.result.now c.in_ok-groups.groups.items c.left_part.ensures
    (rw c.in-Some-2.is at c.in_ok-patterns.ensures) c.deref.ensures.value c.in_ok-groups.ensures
