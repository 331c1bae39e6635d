use Rattle.std.proofs.Common.{rules, ◌≡◌, ◌<◌, Some, length, ◌∙◌, ap}
use Rattle.st_disk.specs.Events.{Event}
use Rattle.st_spool.specs.declared.state.Span.{Span}
use Rattle.st_turn.specs.Turn.{SeatState}
use Rattle.st_turn.specs.Parts.{Booked, PassState}
use Rattle.st_turn.specs.Passes.{PassView}
use Rattle.st_turn.proofs.Stepping.{may_number}
use Rattle.st_turn.proofs.sharing.number_next.Goals as goal

pub split_seat-place-requires : goal.split_seat-place-requires
split_seat-place-requires g c =
    let place = c.lead.inside.place in
    let key = c.args.desk.now.key.value in
    let is = ap (λ (m : SeatState (Booked g.row.S.Denot) (PassState g.row.S.Denot Event Span)). m.0) c.lead.invariant.0 in
    let zero_is : place.me.0.pass.card.number ≡ Some 0 = ap (λ (v : PassView g.row.S.Denot). v.state.card.number) c.lead.view_is ∙ c.requires.number.0 in
    let made : place.me.0.pass.made ≡ c.args.number = ap (λ (v : PassView g.row.S.Denot). v.state.made) c.lead.view_is ∙ c.requires.number.1 in
    let below : place.me.0.pass.made < length key.lines = rw made c.requires.number.2 in (
      ap (λ (v : PassView g.row.S.Denot). v.table) c.lead.view_is ∙ c.requires.table.0,
      search rules,
      may_number g.S.Turned.facts g.S.Turned.keeps key place.id place.me.0 is zero_is below,
    )
