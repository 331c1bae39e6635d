use Rattle.std.proofs.Common.{sym, ◌∙◌}
use Rattle.st_index.proofs.Remembering.{again, begun, passed, checked}
use Rattle.st_index.proofs.checker.content.Content.after.Goals as goal

pub returns-then-self : goal.returns-then-self
returns-then-self c rows m =
    again c.args.self rows c.args.key.now c.args.value.now (sym c.is_summary.ensures ∙ c.if-is_summary.true) c.if-self.true m

pub returns-then-is_summary : goal.returns-then-is_summary
returns-then-is_summary c rows m =
    begun c.args.self rows c.args.key.now c.args.value.now c.summary_damage.result (sym c.is_summary.ensures ∙ c.if-is_summary.true) c.if-self.false c.summary_damage.ensures m

pub returns-then-is_some : goal.returns-then-is_some
returns-then-is_some c rows m =
    passed c.args.self rows c.args.key.now c.args.value.now (sym c.is_summary.ensures ∙ c.if-is_summary.false) (sym c.is_some.ensures ∙ c.if-is_some.true) m

pub returns : goal.returns
returns c rows m =
    checked c.args.self rows c.args.key.now c.args.value.now c.positions_damage.result (sym c.is_summary.ensures ∙ c.if-is_summary.false) (sym c.is_some.ensures ∙ c.if-is_some.false) c.positions_damage.ensures m
