use Rattle.std.proofs.Common.{ap, ◌∙◌}
use Rattle.st_eval.specs.Selection.{IsOver}
use Rattle.st_answer.proofs.Indexes.{over}
use Rattle.st_answer.proofs.choosing.select.Goals as goal

pub returns-in-Err-clause-selects : goal.returns-in-Err-clause-selects
returns-in-Err-clause-selects g c bytes rows given known table index few =
    c.table_failed.ensures.unhurt (c.in-Err.ensures.table bytes rows (ap g.F.Reader.content c.over-table.ensures.same ∙ known) table)

pub returns-in-Err-summary-clause-selects : goal.returns-in-Err-summary-clause-selects
returns-in-Err-summary-clause-selects g c bytes rows given known table index few =
    let start = ap g.F.Reader.content c.over-table.ensures.same ∙ known in
    let entered = c.in-Ok.ensures.enters bytes start in
    let is = over (g.F.Reader.content c.enter.new.self.file.now) c.enter.new.self.kept.entries.items c.enter.new.self.kept.checked.items bytes rows (c.enter.ensures.same.content ∙ start) entered (c.in-Ok.ensures.checked bytes) table in
    c.eval_failed.ensures.unhurt (c.in-Err-summary.ensures.summarizes rows given is index few)

pub returns-in-Ok-eval-clause-selects : goal.returns-in-Ok-eval-clause-selects
returns-in-Ok-eval-clause-selects g c bytes rows given known table index few =
    let start = ap g.F.Reader.content c.over-table.ensures.same ∙ known in
    let entered = c.in-Ok.ensures.enters bytes start in
    let is = over (g.F.Reader.content c.enter.new.self.file.now) c.enter.new.self.kept.entries.items c.enter.new.self.kept.checked.items bytes rows (c.enter.ensures.same.content ∙ start) entered (c.in-Ok.ensures.checked bytes) table in
    let later : IsOver (g.F.Reader.content c.summary.new.table.file.now) c.summary.new.table.kept.entries.items c.summary.new.table.kept.checked.items rows =
    record { bytes = is.bytes; index = is.index; is = c.summary.ensures.stays is.bytes is.index is.is; table = is.table } in
    c.in-Ok-eval.ensures.selects rows given later index

pub returns-clause-selects : goal.returns-clause-selects
returns-clause-selects g c bytes rows given known table index few =
    let start = ap g.F.Reader.content c.over-table.ensures.same ∙ known in
    let entered = c.in-Ok.ensures.enters bytes start in
    let is = over (g.F.Reader.content c.enter.new.self.file.now) c.enter.new.self.kept.entries.items c.enter.new.self.kept.checked.items bytes rows (c.enter.ensures.same.content ∙ start) entered (c.in-Ok.ensures.checked bytes) table in
    let later : IsOver (g.F.Reader.content c.summary.new.table.file.now) c.summary.new.table.kept.entries.items c.summary.new.table.kept.checked.items rows =
    record { bytes = is.bytes; index = is.index; is = c.summary.ensures.stays is.bytes is.index is.is; table = is.table } in
    c.eval_failed-in-Err-eval.ensures.unhurt (c.in-Err-eval.ensures.selects rows given later index)
