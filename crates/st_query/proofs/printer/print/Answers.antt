use Rattle.std.proofs.Common.{◌≡◌, ◌++◌, List, ℕ, ap, sym, ◌∙◌, subst}
use Rattle.st_query.specs.declared.nodes.Node.{Node}
use Rattle.st_query.specs.Trees.{tree}
use Rattle.st_query.specs.Spelling.{IsSpelled}
use Rattle.st_query.specs.PrintedForm.{printed}
use Rattle.st_query.proofs.Printed.{printed_spells}
use Rattle.st_query.proofs.printer.print.Goals as goal

pub returns-in-Ok-clause-spells : goal.returns-in-Ok-clause-spells
returns-in-Ok-clause-spells c = λ short.
    let q = c.args.query.now in
    let text : c.of.result ≡ printed (tree q) = c.of.ensures ∙ c.in-Ok.ensures ∙ ap (λ (xs : List ℕ). xs ++ printed (tree c.node.result.now)) c.new-out.ensures.items ∙ ap (λ (n : Node). printed (tree n)) c.node.ensures.same in
    (short, subst (λ (xs : List ℕ). IsSpelled xs (tree q)) (sym text) (printed_spells (tree q) c.node.ensures.sound))
