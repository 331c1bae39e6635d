use Rattle.std.proofs.Common.{◌≡◌, ◌∙◌, refl, ap, subst, List, ℕ, Option, Some, None, Ok, Err, ⊎_elim, ◌++◌}
use Rattle.st_tblock.specs.Block.{RowView}
use Rattle.st_table.specs.Cursor.{StepsRow, GivesNamed}
use Rattle.st_table.specs.RowOrder.{in_range}
use Rattle.st_table.specs.TableFile.{footer_at}
use Rattle.st_rows.specs.Positions.{positions_in}
use Rattle.st_rows.specs.Values.{positions_wrong}
use Rattle.st_eval.specs.Refusals.{Answers}
use Rattle.st_eval.proofs.Gathering.{entered, no_damage, refuses_row}
use Rattle.st_eval.proofs.Reading.{collects_more, collects_all, next_sound, holds_unread, step_says, step_named, step_refused}
use Rattle.st_eval.proofs.AfterSummary.{after_low, from_unread, step_from}
use Rattle.st_eval.proofs.lookups.append_range.Goals as goal

pub rows-init : goal.rows-init
rows-init g c = (
  refl,
  refl,
  refl,
  refl,
  record { content = refl; extent = refl; beside = refl },
  λ bytes index rows is table. record {
    more = in_range c.args.low.now c.args.high.now rows;
    coming = c.in-Ok.ensures.table bytes rows (entered _ _ _ bytes index is) table;
    test = λ p. refl;
    sound = λ s. s;
  },
  λ bytes index is. holds_unread _ bytes index _ _ _ c.in-Ok.cursor c.in-Ok.ensures.unread,
  λ bytes index is. from_unread _ _ _ c.in-Ok.cursor c.in-Ok.ensures.unread,
)

pub rows-preserved : goal.rows-preserved
rows-preserved g c =
    let row = c.in-Ok-Some.row in
    let step = c.in-Ok-Some.ensures in
    let before = c.rows.invariant in
    let same = before.4 in
    let is_row : c.in-Ok-Some.field-0 ≡ Some row = cc in
    let value : c.bytes.result.now ≡ row.1 = c.bytes.ensures ∙ ap (λ (r : RowView). r.1) c.row.view_is in
    let added : c.append_positions.new.all.items ≡ c.rows.all.items ++ positions_in row.1 =
    c.in-Ok-append_positions.ensures.positions ∙ ap (λ (v : List ℕ). c.rows.all.items ++ positions_in v) value in (
      step.kept.0 ∙ before.0,
      step.kept.1 ∙ before.1,
      step.same_reference ∙ before.2,
      step.cause.still ∙ before.3,
      record { content = step.same.content ∙ same.content; extent = step.same.extent ∙ same.extent; beside = step.same.beside ∙ same.beside },
      λ bytes index rows is table.
          collects_more bytes index c.rows.cursor c.step.new.cursor c.args.all.now.items c.rows.all.items c.append_positions.new.all.items row (in_range c.args.low.now c.args.high.now rows)
          (λ more coming. subst (λ (o : Option RowView). StepsRow (footer_at bytes) bytes index more c.step.new.cursor (Ok o)) is_row
          (step_says _ _ _ _ _ c.rows.cursor c.step.new.cursor bytes index (Ok c.in-Ok-Some.field-0) same.content (ap (λ v. v.items) before.0) step.table is more coming))
          added (before.5 bytes index rows is table),
      λ bytes index is.
          (step_named _ _ _ _ _ c.rows.cursor c.step.new.cursor bytes index (Ok c.in-Ok-Some.field-0) same.content (ap (λ v. v.items) before.0) step.sound is (before.6 bytes index is)).0,
      λ bytes index is.
          (step_from _ _ _ _ _ c.rows.cursor c.step.new.cursor bytes index c.args.low.now c.in-Ok-Some.field-0 row same.content (ap (λ v. v.items) before.0) step.steps is is_row (before.7 bytes index is)).1,
    )

pub returns-in-Ok-None-clause-appends : goal.returns-in-Ok-None-clause-appends
returns-in-Ok-None-clause-appends g c rows over p =
    let before = c.rows.invariant in
    let is = over.is in
    let none : c.in-Ok-None.field-0 ≡ None = cc in
    collects_all over.bytes over.index c.rows.cursor c.step.new.cursor c.args.all.now.items c.rows.all.items (in_range c.args.low.now c.args.high.now rows)
    (λ more coming. subst (λ (o : Option RowView). StepsRow (footer_at over.bytes) over.bytes over.index more c.step.new.cursor (Ok o)) none
    (step_says _ _ _ _ _ c.rows.cursor c.step.new.cursor over.bytes over.index (Ok c.in-Ok-None.field-0) before.4.content (ap (λ v. v.items) before.0) c.in-Ok-None.ensures.table is more coming))
    (before.5 over.bytes over.index rows is over.table) p

pub returns-in-Err-step-clause-appends : goal.returns-in-Err-step-clause-appends
returns-in-Err-step-clause-appends g c rows over sound =
    let before = c.rows.invariant in
    let collected = before.5 over.bytes over.index rows over.is over.table in
    no_damage c.in-Err-step.error c.refused_by.result c.refused_by.ensures.says
    (step_says _ _ _ _ _ c.rows.cursor c.step.new.cursor over.bytes over.index (Err c.in-Err-step.error) before.4.content (ap (λ v. v.items) before.0) c.in-Err-step.ensures.table over.is collected.more collected.coming).0

pub returns-in-Err-step-clause-refuses : goal.returns-in-Err-step-clause-refuses
returns-in-Err-step-clause-refuses g c bytes index is =
    let before = c.rows.invariant in
    step_refused _ _ _ _ _ c.rows.cursor c.step.new.cursor bytes index c.in-Err-step.error c.refused_by.result before.4.content (ap (λ v. v.items) before.0) c.in-Err-step.ensures.steps is c.refused_by.ensures.says

pub returns-in-Err-append_positions-clause-appends : goal.returns-in-Err-append_positions-clause-appends
returns-in-Err-append_positions-clause-appends g c rows over sound =
    let row = c.in-Ok-Some.row in
    let step = c.in-Ok-Some.ensures in
    let before = c.rows.invariant in
    let is = over.is in
    let is_row : c.in-Ok-Some.field-0 ≡ Some row = cc in
    let value : c.bytes.result.now ≡ row.1 = c.bytes.ensures ∙ ap (λ (r : RowView). r.1) c.row.view_is in
    let good : positions_wrong row.1 ≡ None =
    next_sound over.bytes over.index c.rows.cursor c.step.new.cursor c.args.all.now.items c.rows.all.items row (in_range c.args.low.now c.args.high.now rows)
    (λ more coming. subst (λ (o : Option RowView). StepsRow (footer_at over.bytes) over.bytes over.index more c.step.new.cursor (Ok o)) is_row
    (step_says _ _ _ _ _ c.rows.cursor c.step.new.cursor over.bytes over.index (Ok c.in-Ok-Some.field-0) before.4.content (ap (λ v. v.items) before.0) step.table is more coming))
    (before.5 over.bytes over.index rows is over.table) sound in
    ⊎_elim (λ n. n) (λ w. w ∙ (ap positions_wrong value ∙ good)) c.in-Err-append_positions.ensures.refuses

pub returns-in-Err-append_positions-clause-refuses : goal.returns-in-Err-append_positions-clause-refuses
returns-in-Err-append_positions-clause-refuses g c bytes index is =
    let row = c.in-Ok-Some.row in
    let before = c.rows.invariant in
    let is_row : c.in-Ok-Some.field-0 ≡ Some row = cc in
    let value : c.bytes.result.now ≡ row.1 = c.bytes.ensures ∙ ap (λ (r : RowView). r.1) c.row.view_is in
    let named = (step_named _ _ _ _ _ c.rows.cursor c.step.new.cursor bytes index (Ok c.in-Ok-Some.field-0) before.4.content (ap (λ v. v.items) before.0) c.in-Ok-Some.ensures.sound is (before.6 bytes index is)).1 in
    let given : Answers bytes index row.0 (Some row.1) = subst (λ (o : Option RowView). GivesNamed (footer_at bytes) bytes index (Ok o)) is_row named in
    let from = (step_from _ _ _ _ _ c.rows.cursor c.step.new.cursor bytes index c.args.low.now c.in-Ok-Some.field-0 row before.4.content (ap (λ v. v.items) before.0) c.in-Ok-Some.ensures.steps is is_row (before.7 bytes index is)).0 in
    refuses_row bytes index row.0 row.1 c.bytes.result.now c.in-Err-append_positions.error value (after_low c.args.low.now row.0 c.requires from) given c.in-Err-append_positions.ensures.refuses
