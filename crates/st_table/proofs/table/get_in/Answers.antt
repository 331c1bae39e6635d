use Rattle.std.proofs.Common.{Ok, Err, sym, ◌∙◌, arith}
use Rattle.st_table.specs.TableFile.{footer_at}
use Rattle.st_table.proofs.Finding.{decodes_length}
use Rattle.st_table.proofs.Values.{gets_none, gets_value}
use Rattle.st_table.proofs.Marking.{gets_found, checked_on}
use Rattle.st_table.proofs.table.get_in.Goals as goal

pub returns-then-i-entries-clause-gets : goal.returns-then-i-entries-clause-gets
returns-then-i-entries-clause-gets g c = λ bytes index known d r w.
    let size = decodes_length index c.args.entries.now d in
    let past = c.if-i-entries.true in
    gets_none (footer_at bytes) bytes c.args.key.now index c.lower_bound-i.result (c.lower_bound-i.ensures.found index d r) (omega arith)

pub returns-then-is_checked-clause-gets : goal.returns-then-is_checked-clause-gets
returns-then-is_checked-clause-gets g c = λ bytes index known d r w.
    gets_found (footer_at bytes) bytes c.args.key.now c.read_block.new.block.items c.as_slice.result.now index c.args.entries.now c.args.marks.now c.lower_bound-i.result _ _ c.value_found.result
    (c.lower_bound-i.ensures.found index d r) (c.block_at-bounds.ensures index d) d w (sym c.is_checked.ensures ∙ c.if-is_checked.true)
    (c.in-Ok.ensures.block bytes known) c.as_slice.ensures.value c.value_found.ensures.value c.value_found.ensures.error

pub returns-in-Ok-value_in-clause-gets : goal.returns-in-Ok-value_in-clause-gets
returns-in-Ok-value_in-clause-gets g c = λ bytes index known d r w.
    gets_value (footer_at bytes) bytes c.args.key.now c.read_block.new.block.items c.as_slice-2.result.now index c.lower_bound-i.result _ _ (Ok c.in-Ok-value_in.value)
    (omega arith) (c.lower_bound-i.ensures.found index d r) (c.block_at-bounds.ensures index d) (c.in-Ok.ensures.block bytes known) c.as_slice-2.ensures.value c.in-Ok-value_in.ensures.value

pub returns-in-Ok-value_in-clause-checked : goal.returns-in-Ok-value_in-clause-checked
returns-in-Ok-value_in-clause-checked g c = λ bytes index known d w.
    checked_on (footer_at bytes) bytes c.args.key.now c.read_block.new.block.items c.as_slice-2.result.now index c.args.entries.now c.args.marks.now c.mark.new.marks c.lower_bound-i.result _ _ c.in-Ok-value_in.value
    (omega arith) (c.block_at-bounds.ensures index d) d (c.in-Ok.ensures.block bytes known) c.as_slice-2.ensures.value c.in-Ok-value_in.ensures.value c.mark.ensures w

pub returns-in-Err-value_in-clause-gets : goal.returns-in-Err-value_in-clause-gets
returns-in-Err-value_in-clause-gets g c = λ bytes index known d r w.
    gets_value (footer_at bytes) bytes c.args.key.now c.read_block.new.block.items c.as_slice-2.result.now index c.lower_bound-i.result _ _ (Err c.in-Err-value_in.refusal)
    (omega arith) (c.lower_bound-i.ensures.found index d r) (c.block_at-bounds.ensures index d) (c.in-Ok.ensures.block bytes known) c.as_slice-2.ensures.value c.in-Err-value_in.ensures.value
