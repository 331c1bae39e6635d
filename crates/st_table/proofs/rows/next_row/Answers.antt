use Rattle.std.proofs.Common.{ap}
use Rattle.st_table.specs.Rows.{lies_in}
use Rattle.st_table.specs.Errors as view
use Rattle.st_table.specs.declared.errors.TableErr.TheVariants.{Damaged}
use Rattle.st_table.proofs.Entries.{stepped, refused, repeated}
use Rattle.st_table.proofs.rows.next_row.Goals as goal

pub returns-then-is_within-clause-steps : goal.returns-then-is_within-clause-steps
returns-then-is_within-clause-steps c =
    let s = rw c.in-Ok-Some.field-0-is at c.in-Ok-Some.ensures.steps in
    stepped (lies_in c.args.bounds.now) c.args.cursor.now c.step.new.self c.in-Ok-Some.value c.key.result.now c.is_within.result s c.key.ensures (c.is_within.ensures c.in-Ok-Some.value.now) c.if-is_within.true

pub returns-else-is_within-clause-steps : goal.returns-else-is_within-clause-steps
returns-else-is_within-clause-steps c =
    let s = rw c.in-Ok-Some.field-0-is at c.in-Ok-Some.ensures.steps in
    refused (lies_in c.args.bounds.now) c.args.cursor.now c.step.new.self c.in-Ok-Some.value c.key.result.now c.is_within.result c.offset-place.result (Damaged c.broken.result) s c.key.ensures (c.is_within.ensures c.in-Ok-Some.value.now) c.if-is_within.false c.offset-place.ensures (ap view.Damaged c.broken.ensures)

pub returns-in-Err-clause-steps : goal.returns-in-Err-clause-steps
returns-in-Err-clause-steps c =
    repeated (lies_in c.args.bounds.now) c.args.cursor.now c.step.new.self c.in-Err.error c.refused_by.result c.in-Err.ensures.steps c.refused_by.ensures
