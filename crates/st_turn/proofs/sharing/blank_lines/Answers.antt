use Rattle.std.proofs.Common.{◌∷◌, [], ◌++◌, ◌∙◌, ap, List}
use Rattle.st_turn.specs.declared.book.Line.{Line}
use Rattle.st_turn.specs.Parts.{blank}
use Rattle.st_turn.proofs.Started.{blank_more}
use Rattle.st_turn.proofs.sharing.blank_lines.Goals as goal

pub loop-preserved : goal.loop-preserved
loop-preserved c =
    c.in_default.ensures.items ∙ ap (λ (ls : List Line). ls ++ blank ∷ []) c.loop.invariant ∙ blank_more c.loop.counter
