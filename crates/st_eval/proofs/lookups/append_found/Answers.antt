use Rattle.std.proofs.Common.{◌≡◌, ◌∙◌, subst, List, ℕ, Option, Some, None, Ok, Err}
use Rattle.st_eval.specs.Refusals.{Answers}
use Rattle.st_eval.proofs.Gathering.{entered, gets_row, rows_rise, appends_one, appends_none, refuses_value, refuses_named, no_damage}
use Rattle.st_eval.proofs.lookups.append_found.Goals as goal

pub returns-in-Ok-Some-clause-appends : goal.returns-in-Ok-Some-clause-appends
returns-in-Ok-Some-clause-appends g c rows over =
    let got = gets_row _ _ _ c.args.key.now rows (Ok c.in-Ok-Some.field-0) c.in-Ok-Some.ensures.table over in
    let value : Some c.bytes.result.now ≡ c.in-Ok-Some.field-0 = cc in
    appends_one c.args.key.now c.bytes.result.now rows c.args.all.now.items c.append_positions.new.all.items c.append_positions.result
    (rows_rise _ _ _ rows over) (value ∙ got) c.append_positions.ensures.positions c.append_positions.ensures.refuses

pub returns-in-Ok-Some-clause-refuses : goal.returns-in-Ok-Some-clause-refuses
returns-in-Ok-Some-clause-refuses g c bytes index is =
    let named = c.in-Ok-Some.ensures.gets bytes is.known (entered _ _ _ bytes index is) is.marks in
    let value : c.in-Ok-Some.field-0 ≡ Some c.bytes.result.now = cc in
    refuses_value bytes index c.args.key.now c.bytes.result.now c.append_positions.result c.requires
    (subst (λ (o : Option (List ℕ)). Answers bytes index c.args.key.now o) value named) c.append_positions.ensures.refuses

pub returns-in-Ok-None-clause-appends : goal.returns-in-Ok-None-clause-appends
returns-in-Ok-None-clause-appends g c rows over =
    let got = gets_row _ _ _ c.args.key.now rows (Ok c.in-Ok-None.field-0) c.in-Ok-None.ensures.table over in
    let none : None ≡ c.in-Ok-None.field-0 = cc in
    appends_none c.args.key.now rows c.args.all.now.items (rows_rise _ _ _ rows over) (none ∙ got)

pub returns-in-Err-clause-appends : goal.returns-in-Err-clause-appends
returns-in-Err-clause-appends g c rows over sound =
    no_damage c.in-Err.error c.refused_by.result c.refused_by.ensures.says (gets_row _ _ _ c.args.key.now rows (Err c.in-Err.error) c.in-Err.ensures.table over)

pub returns-in-Err-clause-refuses : goal.returns-in-Err-clause-refuses
returns-in-Err-clause-refuses g c bytes index is =
    refuses_named bytes index c.args.key.now c.in-Err.error c.refused_by.result c.refused_by.ensures.says (c.in-Err.ensures.gets bytes is.known (entered _ _ _ bytes index is) is.marks)
