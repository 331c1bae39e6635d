use Rattle.std.proofs.Common.{sym, subst}
use Rattle.st_table.specs.TableFile.{footer_at}
use Rattle.st_table.specs.Index.{Decodes}
use Rattle.st_table.proofs.Tables.{entered_rises}
use Rattle.st_table.proofs.Coming.{steps_row}
use Rattle.st_table.proofs.Naming.{steps_named}
use Rattle.st_table.proofs.table.Table+R.step.Goals as goal

pub returns-clause-table : goal.returns-clause-table
returns-clause-table g c = λ bytes more known n m.
    steps_row (footer_at bytes) bytes n.index more c.args.cursor.now c.step_in.new.cursor c.step_in.result (entered_rises bytes c.args.self.now.kept.entries.items n) m
    (c.step_in.ensures.steps bytes n.index known (subst (Decodes n.index) (sym c.as_slice.ensures.value) n.decoded))

pub returns-clause-sound : goal.returns-clause-sound
returns-clause-sound g c = λ bytes known n s.
    steps_named (footer_at bytes) bytes n.index c.args.cursor.now c.step_in.new.cursor c.step_in.result (entered_rises bytes c.args.self.now.kept.entries.items n) s
    (c.step_in.ensures.steps bytes n.index known (subst (Decodes n.index) (sym c.as_slice.ensures.value) n.decoded))
