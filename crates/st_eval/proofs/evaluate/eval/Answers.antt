use Rattle.std.proofs.Common.{subst}
use Rattle.st_query.specs.declared.nodes.Node.{Node}
use Rattle.st_query.specs.Trees.{tree}
use Rattle.st_eval.specs.Selecting.{selects}
use Rattle.st_eval.specs.Lookups.{Finds, HasSoundValues}
use Rattle.st_eval.proofs.Evaluating.{selects_found}
use Rattle.st_eval.proofs.evaluate.eval.Goals as goal

pub returns-clause-selects : goal.returns-clause-selects
returns-clause-selects g c rows given over is =
    selects_found given rows c.args.query.now c.args.now c.find.result is c.node.ensures.sound.in_range c.find.ensures.rising
    (subst (λ (q : Node). Finds (selects rows (tree q) c.args.now) (HasSoundValues rows) c.find.result) c.node.ensures.same (c.find.ensures.finds rows over))
