use Rattle.std.proofs.Common.{◌<◌, length, refl, arith}
use Rattle.st_table.specs.Rows.{lies_in}
use Rattle.st_table.specs.declared.errors.TableErr.TheVariants.{Damaged}
use Rattle.st_table.proofs.Walking.{not_begun}
use Rattle.st_table.proofs.Ranges.{ranged_on}
use Rattle.st_table.proofs.rows.rows_in.Goals as goal

pub returns-in-Err-clause-rows : goal.returns-in-Err-clause-rows
returns-in-Err-clause-rows c =
    not_begun (lies_in c.args.bounds.now) c.args.block.now c.args.base c.in-Err.damage (Damaged c.in-Err.damage) c.in-Err.ensures.begins refl

pub rows-preserved : goal.rows-preserved
rows-preserved c =
    let s = rw c.in-Ok-Some.field-0-is at c.in-Ok-Some.ensures.steps in
    let shorter : length c.next_row.new.cursor.reading.rest < length c.rows.cursor.reading.rest = rw c.in-Ok-Some.field-0-is at c.in-Ok-Some.ensures.shorter in
    let one = c.in-Ok-keep.ensures.one in
    let few = c.rows.invariant.few in
    record {
      ranged = ranged_on (lies_in c.args.bounds.now) c.args.block.now c.args.base c.args.low.now c.args.high.now c.rows.cursor c.next_row.new.cursor c.rows.kept.items c.keep.new.kept.items c.in-Ok-Some.value c.key.result.now c.rows.invariant.ranged s c.key.ensures c.in-Ok-keep.ensures.rows;
      few = omega arith;
    }
