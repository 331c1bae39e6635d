use Rattle.std.proofs.Common.{false, refl, sym, ap}
use Rattle.st_tblock.specs.Block.{key_or_empty}
use Rattle.st_table.specs.Errors as view
use Rattle.st_table.specs.declared.errors.TableErr.TheVariants.{Damaged}
use Rattle.st_table.specs.Index.{holds_handle}
use Rattle.st_table.proofs.Entries.{refused, repeated}
use Rattle.st_table.proofs.index.next_entry.Goals as goal

pub returns-in-None-clause-steps : goal.returns-in-None-clause-steps
returns-in-None-clause-steps c =
    let s = rw c.in-Ok-Some.field-0-is at c.in-Ok-Some.ensures.steps in
    refused holds_handle c.args.cursor.now c.step.new.self c.in-Ok-Some.value (key_or_empty c.step.new.self.reading.last) false c.offset-place.result (Damaged c.broken.result) s refl (sym c.in-None.ensures) refl c.offset-place.ensures (ap view.Damaged c.broken.ensures)

pub returns-in-Err-clause-steps : goal.returns-in-Err-clause-steps
returns-in-Err-clause-steps c =
    repeated holds_handle c.args.cursor.now c.step.new.self c.in-Err.error c.refused_by.result c.in-Err.ensures.steps c.refused_by.ensures
