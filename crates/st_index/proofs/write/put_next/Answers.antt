use Rattle.std.proofs.Common.{◌≡◌, List, ◌∷◌, Bool, Some, Ok, sym, ap, ◌∙◌, subst, ◌+◌}
use Rattle.st_base.specs.Pieces.{AppendsPrefix}
use Rattle.st_base.specs.declared.failures.NoMemory.{NoMemory}
use Rattle.st_base.proofs.Putting.{prefix-more}
use Rattle.st_tblock.specs.Block.{RowView}
use Rattle.st_table.specs.TableBuilderView.{room_of, written_by, after_row}
use Rattle.st_table.specs.Builder.{MayAdd}
use Rattle.st_index.specs.KeyLists.{lists_left}
use Rattle.st_index.specs.RowList.{rows_left, held_row, IsNextOf, RowFits, NextRow}
use Rattle.st_index.specs.Write.{rows_text}
use Rattle.st_index.proofs.Writing.{may_add, ready_on}
use Rattle.st_index.proofs.write.put_next.Goals as goal

pub add-requires : goal.add-requires
add-requires g c =
    let w = c.next.new.self in
    let fits : IsNextOf c.args.rows.now.summary (lists_left c.args.rows.now.lists) w = subst (λ (b : Bool). RowFits {E = NoMemory} c.args.rows.now w (Ok b)) c.in-Ok-true.field-0-test c.in-Ok-true.ensures.fits in
    let row : ◌≡◌ {A = RowView} (c.key.result.now, c.value.result.now) (held_row w) = λ i. (c.key.ensures i, c.value.ensures i) in
    subst (λ (r : RowView). MayAdd c.args.builder.now r) (sym row) (may_add c.args.builder.now c.args.rows.now.summary (lists_left c.args.rows.now.lists) w c.requires fits)

pub returns-in-Ok-clause-ready : goal.returns-in-Ok-clause-ready
returns-in-Ok-clause-ready g c same =
    let w = c.next.new.self in
    let fits : IsNextOf c.args.rows.now.summary (lists_left c.args.rows.now.lists) w = subst (λ (b : Bool). RowFits {E = NoMemory} c.args.rows.now w (Ok b)) c.in-Ok-true.field-0-test c.in-Ok-true.ensures.fits in
    let row : ◌≡◌ {A = RowView} (c.key.result.now, c.value.result.now) (held_row w) = λ i. (c.key.ensures i, c.value.ensures i) in
    ready_on c.args.builder.now c.add.new.self c.args.rows.now.summary (lists_left c.args.rows.now.lists) w c.requires fits
    (c.in-Ok.ensures.last ∙ ap (λ (r : RowView). Some r.0) row) (c.in-Ok.ensures.spent ∙ ap (λ (r : RowView). c.args.builder.now.spent + room_of r) row)

pub returns-in-Err-add-clause-row : goal.returns-in-Err-add-clause-row
returns-in-Err-add-clause-row g c =
    let w = c.next.new.self in
    let k = c.args.builder.now in
    let old = g.S.Sink.written c.args.sink.now in
    let new = g.S.Sink.written c.add.new.sink in
    let left : rows_left c.args.rows.now ≡ held_row w ∷ rows_left w = subst (λ (b : Bool). NextRow {E = NoMemory} (rows_left c.args.rows.now) (rows_left w) w (Ok b)) c.in-Ok-true.field-0-test c.in-Ok-true.ensures.row in
    let row : ◌≡◌ {A = RowView} (c.key.result.now, c.value.result.now) (held_row w) = λ i. (c.key.ensures i, c.value.ensures i) in
    let put : AppendsPrefix old new (written_by k (held_row w)) = subst (λ (r : RowView). AppendsPrefix old new (written_by k r)) row c.in-Err-add.ensures.bytes in
    subst (λ (rs : List RowView). AppendsPrefix old new (rows_text k rs)) (sym left) (prefix-more old new (written_by k (held_row w)) (rows_text (after_row k (held_row w)) (rows_left w)) put)
