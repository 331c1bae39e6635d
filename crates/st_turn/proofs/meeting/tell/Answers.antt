use Rattle.std.proofs.Common.{rules, ◌≡◌, ◌∙◌, ap, sym}
use Rattle.st_disk.specs.Events.{Event}
use Rattle.st_spool.specs.declared.state.Span.{Span}
use Rattle.st_turn.specs.Turn.{Caller, SeatState, idle}
use Rattle.st_turn.specs.Parts.{Booked, PassState, is_number}
use Rattle.st_turn.specs.Steps.{visitor}
use Rattle.st_turn.specs.Passes.{PassView}
use Rattle.st_turn.proofs.Stepping.{may_visit, may_join}
use Rattle.st_turn.proofs.meeting.tell.Goals as goal

pub split_seat-visitor-requires : goal.split_seat-visitor-requires
split_seat-visitor-requires g c =
    let place = c.from.inside.place in (
      ap (λ (v : PassView g.row.S.Denot). v.table) c.from.view_is ∙ c.requires.0,
      search rules,
      may_visit g.S.Turned.facts g.S.Turned.keeps c.args.desk.now.key.value place.id place.me.0 (ap (λ (m : SeatState (Booked g.row.S.Denot) (PassState g.row.S.Denot Event Span)). m.0) c.from.invariant.0),
    )

pub join_seat-requires : goal.join_seat-requires
join_seat-requires g c =
    let place = c.to.inside.place in
    let other = c.split_seat-visitor.result in
    let first = λ (m : SeatState (Booked g.row.S.Denot) (PassState g.row.S.Denot Event Span)). m.0 in
    let is : other.me.0 ≡ idle (visitor c.from.inside.place.me.0.pass.card.seen) = ap first c.split_seat-visitor.ensures.4 in
    let its : other.me.0 ≡ idle other.me.0.pass = is ∙ ap (λ (d : Caller (Booked g.row.S.Denot) (PassState g.row.S.Denot Event Span)). idle d.pass) (sym is) in
    let not_lead : is_number 0 other.me.0.pass.card.number ≡ 0 = ap (λ (d : Caller (Booked g.row.S.Denot) (PassState g.row.S.Denot Event Span)). is_number 0 d.pass.card.number) is in (
      ap (λ (v : PassView g.row.S.Denot). v.table) c.to.view_is ∙ c.requires.1,
      c.split_seat-visitor.ensures.3 ∙ ap (λ (v : PassView g.row.S.Denot). v.table) c.from.view_is ∙ c.requires.0,
      ap (λ (m : SeatState (Booked g.row.S.Denot) (PassState g.row.S.Denot Event Span)). m.1) c.split_seat-visitor.ensures.4,
      search rules,
      may_join g.S.Turned.facts g.S.Turned.keeps c.args.desk.now.key.value place.id other.id place.me.0 other.me.0 (ap first c.to.invariant.0) its (c.to.inside.number, c.to.invariant.1) not_lead,
    )
