use Rattle.std.proofs.Common.{None, sym, subst}
use Rattle.st_table.specs.TableFile.{footer_at}
use Rattle.st_table.specs.Marks.{Checked}
use Rattle.st_table.proofs.Tables.{table_entered}
use Rattle.st_table.proofs.Marking.{none_checked}
use Rattle.st_table.proofs.table.Table+R.enter.Goals as goal

pub returns-in-Err-clause-table : goal.returns-in-Err-clause-table
returns-in-Err-clause-table g c = λ bytes rows known t. table_entered bytes rows c.in-Err.error t (c.in-Err.ensures.entered bytes known)

pub returns-in-Ok-unmarked-clause-checked : goal.returns-in-Ok-unmarked-clause-checked
returns-in-Ok-unmarked-clause-checked g c = λ bytes.
    subst (Checked (footer_at bytes) bytes None c.in-Ok.entries.items) (sym c.in-Ok-unmarked.ensures)
    (none_checked (footer_at bytes) bytes None c.in-Ok.entries.items c.len.result)
