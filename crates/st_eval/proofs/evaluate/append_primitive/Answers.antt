use Rattle.std.proofs.Common.{◌≡◌, Some}
use Rattle.st_query.specs.Trees.{tree}
use Rattle.st_eval.specs.Ranges.{range_in}
use Rattle.st_eval.proofs.Gathering.{appends_selected}
use Rattle.st_eval.proofs.evaluate.append_primitive.Goals as goal

pub returns-in-Some-clause-appends : goal.returns-in-Some-clause-appends
returns-in-Some-clause-appends g c rows over =
    let asked : Some (c.in-Some.low, c.in-Some.high) ≡ range_in (tree c.args.node.now) c.args.now = c.in-Some.ensures in
    appends_selected rows (tree c.args.node.now) c.args.now (c.in-Some.low, c.in-Some.high) c.args.all.now.items c.append_between.new.all.items c.append_between.result asked (c.append_between.ensures.appends rows over)
