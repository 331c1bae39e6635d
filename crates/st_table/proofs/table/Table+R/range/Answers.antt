use Rattle.std.proofs.Common.{◌≡◌, ◌∙◌, sym, subst, ap, None}
use Rattle.std.proofs.lemmas.Result.{IfOk-weaker}
use Rattle.st_table.specs.TableFile.{footer_at}
use Rattle.st_table.specs.IndexLookup.{entry_for, found_at}
use Rattle.st_table.specs.RowOrder.{in_range}
use Rattle.st_table.specs.Index.{Decodes}
use Rattle.st_table.specs.Cursor.{CursorView, Coming, unread}
use Rattle.st_table.proofs.Tables.{entered_rises}
use Rattle.st_table.proofs.Coming.{coming_first}
use Rattle.st_table.proofs.table.Table+R.range.Goals as goal

pub returns-clause-first : goal.returns-clause-first
returns-clause-first g c = λ bytes n.
    let d = subst (Decodes n.index) (sym c.as_slice.ensures.value) n.decoded in
    let f = c.lower_bound-next.ensures.found n.index d (entered_rises bytes c.args.self.now.kept.entries.items n) in
    IfOk-weaker c.begin.result (λ q. q ≡ unread c.args.low.now c.args.high.now c.lower_bound-next.result) (λ q. entry_for c.args.low.now None n.index ≡ found_at n.index q.next)
    (λ q e. f ∙ ap (λ (p : CursorView). found_at n.index p.next) (sym e)) c.begin.ensures

pub returns-clause-table : goal.returns-clause-table
returns-clause-table g c = λ bytes rows n t.
    let d = subst (Decodes n.index) (sym c.as_slice.ensures.value) n.decoded in
    let b = c.lower_bound-next.ensures.before n.index d (entered_rises bytes c.args.self.now.kept.entries.items n) in
    let first = coming_first bytes c.args.low.now c.args.high.now rows c.args.self.now.kept.entries.items c.lower_bound-next.result t n b in
    IfOk-weaker c.begin.result (λ q. q ≡ unread c.args.low.now c.args.high.now c.lower_bound-next.result) (λ q. Coming (footer_at bytes) bytes n.index q (in_range c.args.low.now c.args.high.now rows))
    (λ q e. subst (λ (p : CursorView). Coming (footer_at bytes) bytes n.index p (in_range c.args.low.now c.args.high.now rows)) (sym e) first) c.begin.ensures
