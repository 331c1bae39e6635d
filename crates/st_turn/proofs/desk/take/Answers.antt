use Rattle.std.proofs.Common.{rules, ◌≡◌, ◌∷◌, [], Some, ◌∙◌, ap, sym, subst}
use Rattle.atomic_table.specs.Table.{rest}
use Rattle.st_disk.specs.Events.{Event}
use Rattle.st_spool.specs.declared.state.Span.{Span}
use Rattle.st_turn.specs.Turn.{idle, SeatState}
use Rattle.st_turn.specs.Parts.{Booked, PassState, HasNumber}
use Rattle.st_turn.proofs.Stepping.{may_take}
use Rattle.st_turn.proofs.desk.take.Goals as goal

pub compare_exchange-requires : goal.compare_exchange-requires
compare_exchange-requires g c =
    let place = c.loop.place in
    let waits = subst (λ (m : SeatState (Booked g.row.S.Denot) (PassState g.row.S.Denot Event Span)). (m ≡ (idle m.0.pass, [])) × HasNumber m.0.pass) (sym c.loop.invariant.4) c.requires.waits in (
      c.loop.invariant.2 ∙ c.requires.table.0,
      search rules,
      may_take g.S.Turned.facts g.S.Turned.keeps c.args.desk.now.key.value c.args.desk.now.table_id.slots place.id place.me waits.0 waits.1,
    )

pub exchange-requires : goal.exchange-requires
exchange-requires g c =
    let taken = c.compare_exchange.ensures.2.hit c.if-compare_exchange-eq0.true in
    let slot = ap (λ (m : SeatState (Booked g.row.S.Denot) (PassState g.row.S.Denot Event Span)). m.1) taken.1 in (
      c.compare_exchange.ensures.0 ∙ c.loop.invariant.2 ∙ c.requires.table.0,
      (Some taken.0, slot ∙ ap (λ l. (0, Some taken.0) ∷ rest l) (sym slot)),
    )
