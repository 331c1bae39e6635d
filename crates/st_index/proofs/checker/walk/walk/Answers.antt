use Rattle.st_index.specs.RowList.{rows_left}
use Rattle.std.proofs.Common.{◌≡◌, [], ◌∷◌, ◌++◌, Some, None, Ok, Err, ap, ◌∙◌, subst, inl}
use Rattle.st_tblock.specs.Block.{RowView}
use Rattle.st_table.specs.TableFile.{footer_at}
use Rattle.st_table.proofs.Joining.{goes_joined}
use Rattle.st_index.specs.CheckContent.{Remembers}
use Rattle.st_index.proofs.Reading.{step_over, goes_nothing}
use Rattle.st_index.proofs.checker.walk.walk.Goals as goal

pub returns-in-Err-clause-walks : goal.returns-in-Err-clause-walks
returns-in-Err-clause-walks g c bytes told entered =
    let (rows, went, m, k) = c.rows.invariant.walked bytes told entered in
    let here = c.rows.invariant.same.content ∙ told in
    let s = step_over bytes _ _ c.rows.cursor c.step.new.cursor (Err c.in-Err.error) (ap (λ v. v.items) c.rows.invariant.entries) (c.in-Err.ensures.steps bytes here) entered in
    (rows, goes_nothing (footer_at bytes) bytes entered.index c.args.cursor.now c.rows.cursor c.step.new.cursor rows went s.0, s.1)

pub returns-clause-walks : goal.returns-clause-walks
returns-clause-walks g c bytes told entered =
    let (rows, went, m, k) = c.rows.invariant.walked bytes told entered in
    (rows, went, inl tt)

pub returns-in-Ok-compare_end-clause-walks : goal.returns-in-Ok-compare_end-clause-walks
returns-in-Ok-compare_end-clause-walks g c bytes told entered =
    let (rows, went, m, k) = c.rows.invariant.walked bytes told entered in
    let here = c.rows.invariant.same.content ∙ told in
    let says = rw c.in-Ok-None.field-0-is at (c.in-Ok-None.ensures.steps bytes here) in
    let s = step_over bytes _ _ c.rows.cursor c.step.new.cursor (Ok None) (ap (λ v. v.items) c.rows.invariant.entries) says entered in
    (rows, goes_nothing (footer_at bytes) bytes entered.index c.args.cursor.now c.rows.cursor c.step.new.cursor rows went s.0, s.1, s.2, m, c.in-Ok-compare_end.ensures rows (rows_left c.args.wanted.now) k)

pub returns-in-Err-compare_end-clause-walks : goal.returns-in-Err-compare_end-clause-walks
returns-in-Err-compare_end-clause-walks g c bytes told entered =
    let (rows, went, m, k) = c.rows.invariant.walked bytes told entered in
    let here = c.rows.invariant.same.content ∙ told in
    let says = rw c.in-Ok-None.field-0-is at (c.in-Ok-None.ensures.steps bytes here) in
    let s = step_over bytes _ _ c.rows.cursor c.step.new.cursor (Ok None) (ap (λ v. v.items) c.rows.invariant.entries) says entered in
    (rows, goes_nothing (footer_at bytes) bytes entered.index c.args.cursor.now c.rows.cursor c.step.new.cursor rows went s.0, inl tt)

pub returns-in-Err-compare_row-clause-walks : goal.returns-in-Err-compare_row-clause-walks
returns-in-Err-compare_row-clause-walks g c bytes told entered =
    let (rows, went, m, k) = c.rows.invariant.walked bytes told entered in
    let here = c.rows.invariant.same.content ∙ told in
    let says = rw c.in-Ok-Some.field-0-is at (c.in-Ok-Some.ensures.steps bytes here) in
    let s = step_over bytes _ _ c.rows.cursor c.step.new.cursor (Ok (Some c.in-Ok-Some.row)) (ap (λ v. v.items) c.rows.invariant.entries) says entered in
    (rows ++ c.in-Ok-Some.row ∷ [], goes_joined (footer_at bytes) bytes entered.index c.args.cursor.now c.rows.cursor c.step.new.cursor rows (c.in-Ok-Some.row ∷ []) went s.0, inl tt)

pub rows-preserved : goal.rows-preserved
rows-preserved g c =
    let v = c.rows.invariant in
    let e = c.in-Ok-Some.ensures in
    let key : c.bytes.result.now ≡ c.in-Ok-Some.row.0 = c.bytes.ensures ∙ ap (λ (r : RowView). r.0) c.row.view_is in
    let value : c.bytes-in-Ok-Some.result.now ≡ c.in-Ok-Some.row.1 = c.bytes-in-Ok-Some.ensures ∙ ap (λ (r : RowView). r.1) c.row.view_is in
    let row : ◌≡◌ {A = RowView} (c.bytes.result.now, c.bytes-in-Ok-Some.result.now) c.in-Ok-Some.row = λ i. (key i, value i) in
    record {
      entries = e.kept.0 ∙ v.entries;
      same_reference = e.same_reference ∙ v.same_reference;
      faults = e.cause.still ∙ v.faults;
      same = record { content = e.same.content ∙ v.same.content; extent = e.same.extent ∙ v.same.extent; beside = e.same.beside ∙ v.same.beside };
      walked = λ bytes told entered.
          let (rows, went, m, k) = v.walked bytes told entered in
          let here = v.same.content ∙ told in
          let says = rw c.in-Ok-Some.field-0-is at (c.in-Ok-Some.ensures.steps bytes here) in
          let s = step_over bytes _ _ c.rows.cursor c.step.new.cursor (Ok (Some c.in-Ok-Some.row)) (ap (λ v. v.items) v.entries) says entered in
          (rows ++ c.in-Ok-Some.row ∷ [], goes_joined (footer_at bytes) bytes entered.index c.args.cursor.now c.rows.cursor c.step.new.cursor rows (c.in-Ok-Some.row ∷ []) went s.0, subst (λ (r : RowView). Remembers c.after-content.result (rows ++ r ∷ [])) row (c.after-content.ensures rows m), c.in-Ok.ensures rows (rows_left c.args.wanted.now) k);
    }
