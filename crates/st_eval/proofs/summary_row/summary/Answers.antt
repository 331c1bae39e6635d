use Rattle.std.proofs.Common.{◌≡◌, ◌∙◌, ap, subst, List, ℕ, Option, Some, None, Ok, Err}
use Rattle.st_rows.specs.Rows.{summary_key}
use Rattle.st_eval.specs.Refusals.{Answers}
use Rattle.st_eval.proofs.Gathering.{entered, gets_row, no_damage}
use Rattle.st_eval.proofs.SummaryRows.{summarized, never_missing, refuses_summary, refuses_read, refuses_block}
use Rattle.st_eval.proofs.summary_row.summary.Goals as goal

pub returns-in-Ok-Some-clause-summarizes : goal.returns-in-Ok-Some-clause-summarizes
returns-in-Ok-Some-clause-summarizes g c rows given over is few =
    let got = gets_row _ _ _ summary_key rows (Ok c.in-Ok-Some.field-0) c.in-Ok-Some.ensures.table over in
    let value : Some c.bytes.result.now ≡ c.in-Ok-Some.field-0 = cc in
    summarized given rows c.bytes.result.now c.summary_in.result is few (value ∙ got) c.summary_in.ensures.says c.summary_in.ensures.refuses

pub returns-in-Ok-Some-clause-refuses : goal.returns-in-Ok-Some-clause-refuses
returns-in-Ok-Some-clause-refuses g c bytes index is =
    let named = c.in-Ok-Some.ensures.gets bytes is.known (entered _ _ _ bytes index is) is.marks in
    let value : c.in-Ok-Some.field-0 ≡ Some c.bytes.result.now = cc in
    refuses_read bytes index c.bytes.result.now c.summary_in.result
    (subst (λ (o : Option (List ℕ)). Answers bytes index summary_key o) value named) c.summary_in.ensures.refuses

pub returns-in-Ok-None-clause-summarizes : goal.returns-in-Ok-None-clause-summarizes
returns-in-Ok-None-clause-summarizes g c rows given over is few =
    let got = gets_row _ _ _ summary_key rows (Ok c.in-Ok-None.field-0) c.in-Ok-None.ensures.table over in
    let none : None ≡ c.in-Ok-None.field-0 = cc in
    never_missing given rows is (none ∙ got)

pub returns-in-Ok-None-clause-refuses : goal.returns-in-Ok-None-clause-refuses
returns-in-Ok-None-clause-refuses g c bytes index is =
    let named = c.in-Ok-None.ensures.gets bytes is.known (entered _ _ _ bytes index is) is.marks in
    let none : c.in-Ok-None.field-0 ≡ None = cc in
    refuses_summary bytes index None _ (subst (λ (o : Option (List ℕ)). Answers bytes index summary_key o) none named) (ap (λ d. Some d) c.broken.ensures)

pub returns-in-Err-clause-summarizes : goal.returns-in-Err-clause-summarizes
returns-in-Err-clause-summarizes g c rows given over is few =
    no_damage c.in-Err.error c.refused_by.result c.refused_by.ensures.says (gets_row _ _ _ summary_key rows (Err c.in-Err.error) c.in-Err.ensures.table over)

pub returns-in-Err-clause-refuses : goal.returns-in-Err-clause-refuses
returns-in-Err-clause-refuses g c bytes index is =
    refuses_block bytes index c.in-Err.error c.refused_by.result c.refused_by.ensures.says (c.in-Err.ensures.gets bytes is.known (entered _ _ _ bytes index is) is.marks)
