use Rattle.std.proofs.Common.{◌≡◌, ◌∷◌, [], ◌++◌, ◌+◌, ◌∙◌, ap, sym, subst, List, length, set, get_or, arith}
use Rattle.st_disk.specs.Events.{Event}
use Rattle.st_spool.specs.declared.state.Span.{Span}
use Rattle.st_turn.specs.Parts.{PassState, Each}
use Rattle.st_turn.specs.Steps.{starts, gave_out, next_pass}
use Rattle.st_turn.specs.Passes.{PassView, AreStarted, HasNoLoans}
use Rattle.st_turn.proofs.Started.{started_more, lead_is, loans_more}
use Rattle.st_turn.proofs.sharing.number_all.Goals as goal

pub loop-number-preserved : goal.loop-number-preserved
loop-number-preserved g c =
    let desk = c.args.desk.now in
    let base = desk.key.value.spool in
    let h = g.S.Turned.facts base in
    let n = c.args.passes in
    let made = c.loop-number.number in
    let items = c.loop-number.given.items in
    let inv = c.loop-number.invariant in
    let is = lead_is desk.table_id base h n made items inv.2 in
    let old = c.index_mut.result.now in
    let read : old ≡ is.0 = c.index_mut.ensures.value ∙ ap (λ (ps : List (PassView g.row.S.Denot)). get_or ps 0 old) is.2 in
    let state : old.state ≡ starts base h 0 n made = ap (λ (p : PassView g.row.S.Denot). p.state) read ∙ is.4 in
    let table : old.table ≡ desk.table_id = ap (λ (p : PassView g.row.S.Denot). p.table) read ∙ is.3 in
    let lead = c.number_next-next.new.lead in
    let next = c.number_next-next.result in
    let none : HasNoLoans is.0 = (subst (Each HasNoLoans) is.2 inv.3).0 in
    let loans : Each HasNoLoans (set items 0 lead ++ next ∷ []) = loans_more items lead next inv.3 (c.number_next-next.ensures.lead.3 ∙ ap (λ (p : PassView g.row.S.Denot). p.loans) read ∙ none) c.number_next-next.ensures.next.2 in
    let len : length items ≡ made = omega (arith, inv.0, c.loop-number.given.ok.0) in
    let more : AreStarted desk.table_id base h n (made + 1) (set items 0 lead ++ next ∷ []) =
    started_more desk.table_id base h n made items lead next lead inv.2 len
    (c.number_next-next.ensures.lead.0 ∙ table)
    (c.number_next-next.ensures.lead.2 ∙ ap (λ (s : PassState g.row.S.Denot Event Span). gave_out s) state)
    (c.number_next-next.ensures.next.0 ∙ table)
    (c.number_next-next.ensures.next.1 ∙ ap (λ (s : PassState g.row.S.Denot Event Span). next_pass s) state) in (
      omega (arith, inv.0, c.in-Ok.ensures.len),
      omega (arith, inv.1, c.in-Ok.ensures.capacity),
      subst (λ (ps : List (PassView g.row.S.Denot)). AreStarted desk.table_id base h n (made + 1) ps) (sym c.in-Ok.ensures.items) more,
      subst (λ (ps : List (PassView g.row.S.Denot)). Each HasNoLoans ps) (sym c.in-Ok.ensures.items) loans,
    )
