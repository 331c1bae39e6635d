use Rattle.std.proofs.Common.{ap, ◌∙◌}
use Rattle.std.specs.Str.{bytes_eq}
use Rattle.st_plan.proofs.Standing.{at_place}
use Rattle.st_plan.proofs.places.is_at.Goals as goal

pub returns : goal.returns
returns c =
    at_place c.args.words.now c.args.i c.index-words-i.result c.args.argument.now c.eq.result c.requires c.index-words-i.is
    (c.eq.ensures ∙ ap (λ t. bytes_eq t c.args.argument.now) c.as_str.ensures.value)
