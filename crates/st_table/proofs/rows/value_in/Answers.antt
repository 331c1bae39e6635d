use Rattle.std.proofs.Common.{refl, option_map}
use Rattle.st_table.specs.Rows.{lies_in}
use Rattle.st_table.specs.declared.errors.TableErr.TheVariants.{Damaged}
use Rattle.st_table.proofs.Walking.{not_begun}
use Rattle.st_table.proofs.Lookups.{found_on}
use Rattle.st_table.proofs.rows.value_in.Goals as goal

pub returns-in-Err-clause-value : goal.returns-in-Err-clause-value
returns-in-Err-clause-value c =
    not_begun (lies_in c.args.bounds.now) c.args.block.now c.args.base c.in-Err.damage (Damaged c.in-Err.damage) c.in-Err.ensures.begins refl

pub rows-preserved : goal.rows-preserved
rows-preserved c =
    let s = rw c.in-Ok-Some.field-0-is at c.in-Ok-Some.ensures.steps in
    found_on (lies_in c.args.bounds.now) c.args.block.now c.args.base c.args.wanted.now c.rows.cursor c.next_row.new.cursor (option_map (λ v. v.now) c.rows.found) (option_map (λ v. v.now) c.chosen-found.result) c.in-Ok-Some.value c.key.result.now c.rows.invariant s c.key.ensures c.chosen-found.ensures
