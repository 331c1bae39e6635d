use Rattle.std.proofs.Common.{sym, subst}
use Rattle.st_table.specs.TableFile.{footer_at}
use Rattle.st_table.specs.Index.{Decodes}
use Rattle.st_table.proofs.Tables.{entered_rises, gets_row}
use Rattle.st_table.proofs.Marking.{same_checked}
use Rattle.st_table.proofs.table.Table+R.get.Goals as goal

pub returns-clause-gets : goal.returns-clause-gets
returns-clause-gets g c = λ bytes known n w.
    let entries = c.args.self.now.kept.entries.items in
    let checked = same_checked (footer_at bytes) bytes entries c.as_slice.result.now c.args.self.now.kept.checked.items c.as_mut_slice.result.now c.as_slice.ensures.value c.as_mut_slice.ensures.value w in
    c.get_in.ensures.gets bytes n.index known (subst (Decodes n.index) (sym c.as_slice.ensures.value) n.decoded) (entered_rises bytes entries n) checked

pub returns-clause-table : goal.returns-clause-table
returns-clause-table g c = λ bytes rows known n w t.
    let entries = c.args.self.now.kept.entries.items in
    let checked = same_checked (footer_at bytes) bytes entries c.as_slice.result.now c.args.self.now.kept.checked.items c.as_mut_slice.result.now c.as_slice.ensures.value c.as_mut_slice.ensures.value w in
    gets_row bytes c.args.key.now rows entries c.get_in.result t n
    (c.get_in.ensures.gets bytes n.index known (subst (Decodes n.index) (sym c.as_slice.ensures.value) n.decoded) (entered_rises bytes entries n) checked)
