use Rattle.std.proofs.Common.{refl}
use Rattle.st_table.specs.Index.{holds_handle}
use Rattle.st_table.specs.declared.errors.TableErr.TheVariants.{Damaged}
use Rattle.st_table.proofs.Walking.{not_begun}
use Rattle.st_table.proofs.Indexes.{collected_on}
use Rattle.st_table.proofs.index.entries_in.Goals as goal

pub returns-in-Err-clause-entries : goal.returns-in-Err-clause-entries
returns-in-Err-clause-entries c =
    not_begun holds_handle c.args.block.now c.args.base c.in-Err.damage (Damaged c.in-Err.damage) c.in-Err.ensures.begins refl

pub entries-preserved : goal.entries-preserved
entries-preserved c =
    let s = rw c.in-Ok-Some.field-0-is at c.in-Ok-Some.ensures.steps in
    collected_on c.args.block.now c.args.base c.entries.cursor c.next_entry.new.cursor c.entries.entries.items c.push.new.self.items c.in-Ok-Some.entry c.entries.invariant s c.in-Ok-push.ensures.items
