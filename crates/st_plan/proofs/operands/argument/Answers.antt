use Rattle.std.proofs.Common.{◌∙◌, sym}
use Rattle.st_plan.proofs.Named.{two_are, named, other_named}
use Rattle.st_plan.proofs.operands.argument.Goals as goal

pub returns-then-eq : goal.returns-then-eq
returns-then-eq c = two_are c.args.operands.now _ c.if-operands-ne2.false ∙ named _ c.args.name.now _ (sym c.eq.ensures ∙ c.if-eq.true)

pub returns-else-eq : goal.returns-else-eq
returns-else-eq c = λ a is. other_named _ c.args.name.now _ _ (sym c.eq.ensures ∙ c.if-eq.false) (sym (two_are c.args.operands.now _ c.if-operands-ne2.false) ∙ is)
