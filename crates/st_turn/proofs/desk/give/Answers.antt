use Rattle.std.proofs.Common.{rules, ◌≡◌, ◌∷◌, [], Some, ◌∙◌, ap, sym, subst}
use Rattle.atomic_table.specs.Table.{rest}
use Rattle.st_disk.specs.Events.{Event}
use Rattle.st_spool.specs.declared.state.Span.{Span}
use Rattle.st_turn.specs.Turn.{turning, SeatState}
use Rattle.st_turn.specs.Parts.{Booked, PassState}
use Rattle.st_turn.specs.Steps.{Moves}
use Rattle.st_turn.proofs.Stepping.{may_give}
use Rattle.st_turn.proofs.desk.give.Goals as goal

pub store-requires : goal.store-requires
store-requires g c =
    let seat = c.exchange-old.new.seat in
    let before = c.args.place.now in
    let turn = c.requires.turn in
    let x = turn.0 in
    let q = turn.1 in
    let has : seat.me ≡ (turning x before.me.0.pass, (0, Some c.args.home) ∷ []) =
    c.exchange-old.ensures.3 ∙ ap (λ (m : SeatState (Booked g.row.S.Denot) (PassState g.row.S.Denot Event Span)). (m.0, (0, Some c.args.home) ∷ rest m.1)) turn.2 in
    let pass : before.me.0.pass ≡ seat.me.0.pass = sym (ap (λ (m : SeatState (Booked g.row.S.Denot) (PassState g.row.S.Denot Event Span)). m.0.pass) has) in
    let is : seat.me ≡ (turning x seat.me.0.pass, (0, Some c.args.home) ∷ []) = subst (λ (p : PassState g.row.S.Denot Event Span). seat.me ≡ (turning x p, (0, Some c.args.home) ∷ [])) pass has in
    let moved : Moves g.S.Turned.facts g.S.Turned.keeps x c.args.home seat.me.0.pass q = subst (λ (p : PassState g.row.S.Denot Event Span). Moves g.S.Turned.facts g.S.Turned.keeps x c.args.home p q) pass turn.3 in
    let made : g.C.Call.makes x c.args.home seat.me.0.pass q = subst (λ (p : PassState g.row.S.Denot Event Span). g.C.Call.makes x c.args.home p q) pass turn.4 in (
      c.exchange-old.ensures.0 ∙ c.requires.table.0,
      search rules,
      may_give g.S.Turned.facts g.S.Turned.keeps c.args.desk.now.key.value g.C.Call.makes c.args.desk.now.table_id.slots seat.id seat.me x c.args.home q is moved made,
    )
