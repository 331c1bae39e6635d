use Rattle.std.proofs.Common.{◌-◌, ◌∙◌, sym, arith}
use Rattle.st_eval.proofs.Risings.{rises_next, rises_not, rises_end}
use Rattle.st_eval.proofs.positions.rises.Goals as goal

pub loop-i-preserved : goal.loop-i-preserved
loop-i-preserved c = c.loop-i.invariant ∙ rises_next c.args.items.now c.loop-i.i c.loop-i.auto.i c.loop-i-test.true c.if-items-i.false

pub returns-then-items-i : goal.returns-then-items-i
returns-then-items-i c = sym (c.loop-i.invariant ∙ rises_not c.args.items.now c.loop-i.i c.loop-i.auto.i c.loop-i-test.true c.if-items-i.true)

pub returns : goal.returns
returns c = sym (c.loop-i.invariant ∙ rises_end c.args.items.now (c.loop-i.i - 1) (omega (arith, c.loop-i-test.false)))
