use Rattle.std.proofs.Common.{rules, ◌≡◌, ◌∙◌, ap}
use Rattle.st_disk.specs.Events.{Event}
use Rattle.st_spool.specs.declared.state.Span.{Span}
use Rattle.st_turn.specs.Turn.{SeatState}
use Rattle.st_turn.specs.Parts.{Booked, PassState, is_number}
use Rattle.st_turn.specs.Passes.{PassView}
use Rattle.st_turn.proofs.Stepping.{may_join}
use Rattle.st_turn.proofs.finishing.merge.Goals as goal

pub join_seat-requires : goal.join_seat-requires
join_seat-requires g c =
    let place = c.pass.inside.place in
    let other = c.other.inside.place in
    let first = λ (m : SeatState (Booked g.row.S.Denot) (PassState g.row.S.Denot Event Span)). m.0 in
    let not_lead : is_number 0 other.me.0.pass.card.number ≡ 0 = ap (λ (v : PassView g.row.S.Denot). is_number 0 v.state.card.number) c.other.view_is ∙ c.requires.other in (
      ap (λ (v : PassView g.row.S.Denot). v.table) c.pass.view_is ∙ c.requires.table.0,
      ap (λ (v : PassView g.row.S.Denot). v.table) c.other.view_is ∙ c.requires.table.1,
      ap (λ (m : SeatState (Booked g.row.S.Denot) (PassState g.row.S.Denot Event Span)). m.1) c.other.invariant.0,
      search rules,
      may_join g.S.Turned.facts g.S.Turned.keeps c.args.desk.now.key.value place.id other.id place.me.0 other.me.0 (ap first c.pass.invariant.0) (ap first c.other.invariant.0) (c.pass.inside.number, c.pass.invariant.1) not_lead,
    )
