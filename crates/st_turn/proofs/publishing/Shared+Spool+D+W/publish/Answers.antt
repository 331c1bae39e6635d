use Rattle.std.proofs.Common.{◌∙◌, refl, ap, sym, subst, Bool}
use Rattle.st_spool.specs.States.{SpoolView}
use Rattle.st_turn.specs.Passes.{PassView}
use Rattle.st_turn.specs.Spools.{facts_of, KeepsOf}
use Rattle.st_turn.specs.Calls.{MayTurn}
use Rattle.st_turn.proofs.Spooled.{spare_turn, room_stands, room_is_turn}
use Rattle.st_turn.proofs.Counted.{shared_turn, shared_refuses, room_keeps}
use Rattle.st_turn.proofs.Released.{kept_home, held_stays, publish_holds}
use Rattle.st_turn.proofs.Ready.{ready, done}
use Rattle.st_turn.proofs.publishing.Shared+Spool+D+W.publish.Goals as goal

pub end-requires-clause-turn : goal.end-requires-clause-turn
end-requires-clause-turn g c =
    let d = g.D.Shelf in
    let v = c.spool.inside.spool in
    let w = c.publish_with_room-answer.new.spool in
    let p = c.pass.inside.place.me.0.pass in
    let by = c.publish_with_room-answer.ensures in
    let r : SpoolView g.row.D.Denot = record v { spare = by.0 } in
    let stands = room_stands d.log d.faults d.id g.W.PairRule.is_whole d.loans v r by.0 refl c.recall.ensures in
    let may = spare_turn d.log d.faults d.id g.W.PairRule.is_whole d.loans v r w by.0 p.held p.held _ refl (shared_turn g.W.PairRule.is_whole d.log d.faults d.id d.loans g.D.Draft.Draft.sealed_bytes r w p.held c.args.pair c.args.floor c.publish_with_room-answer.result by.1 stands) in
    ready (facts_of d.log d.faults d.id) (KeepsOf d.log d.faults d.id) c.take.new.place.me p c.take.result v c.spool.inside.lines.items c.fault_count-before.result w p.held c.is_stopped-stop.result
    c.take.ensures.turn c.take.ensures.learns c.spool.view_is c.fault_count-before.ensures
    (subst (λ (b : Bool). MayTurn (facts_of d.log d.faults d.id) (KeepsOf d.log d.faults d.id) v w p.held p.held b) (sym c.is_stopped-stop.ensures) may)

pub returns-clause-same : goal.returns-clause-same
returns-clause-same g c =
    let d = g.D.Shelf in
    let v = c.spool.inside.spool in
    let w = c.publish_with_room-answer.new.spool in
    let q = c.end.new.place.me.0.pass in
    let turn = done (facts_of d.log d.faults d.id) (KeepsOf d.log d.faults d.id) c.take.new.place.me c.pass.inside.place.me.0.pass q c.args.pass.now.state c.take.result v c.spool.inside.lines.items w
    c.take.ensures.turn c.spool.view_is (ap (λ (a : PassView (SpoolView g.row.D.Denot)). a.state) c.pass.view_is) c.end.ensures.turn in (
      c.end.ensures.same.0 ∙ c.take.ensures.same.0 ∙ ap (λ (a : PassView (SpoolView g.row.D.Denot)). a.table) c.pass.view_is,
      c.end.ensures.same.1 ∙ c.take.ensures.same.1 ∙ ap (λ (a : PassView (SpoolView g.row.D.Denot)). a.id) c.pass.view_is,
      turn.rest.1,
      turn.rest.0,
    )

pub returns-clause-holds : goal.returns-clause-holds
returns-clause-holds g c =
    let d = g.D.Shelf in
    let v = c.spool.inside.spool in
    let w = c.publish_with_room-answer.new.spool in
    let q = c.end.new.place.me.0.pass in
    let turn = done (facts_of d.log d.faults d.id) (KeepsOf d.log d.faults d.id) c.take.new.place.me c.pass.inside.place.me.0.pass q c.args.pass.now.state c.take.result v c.spool.inside.lines.items w
    c.take.ensures.turn c.spool.view_is (ap (λ (a : PassView (SpoolView g.row.D.Denot)). a.state) c.pass.view_is) c.end.ensures.turn in
    let by = c.publish_with_room-answer.ensures in
    let r : SpoolView g.row.D.Denot = record v { spare = by.0 } in
    held_stays v.state.holds w.state.holds c.args.pass.now.state.held q.held turn.held
    (publish_holds d.log d.faults d.id g.W.PairRule.is_whole d.loans g.D.Draft.Draft.sealed_bytes r w c.args.pair c.args.floor c.publish_with_room-answer.result by.1)

pub returns-clause-turn : goal.returns-clause-turn
returns-clause-turn g c =
    let d = g.D.Shelf in
    let v = c.spool.inside.spool in
    let w = c.publish_with_room-answer.new.spool in
    let p = c.pass.inside.place.me.0.pass in
    let by = c.publish_with_room-answer.ensures in
    let r : SpoolView g.row.D.Denot = record v { spare = by.0 } in
    let stands = room_stands d.log d.faults d.id g.W.PairRule.is_whole d.loans v r by.0 refl c.recall.ensures in
    let turn = room_is_turn d.log d.faults d.id g.W.PairRule.is_whole d.loans v r by.0 w c.args.pass.now.state c.end.new.place.me.0.pass refl
    (done (facts_of d.log d.faults d.id) (KeepsOf d.log d.faults d.id) c.take.new.place.me p c.end.new.place.me.0.pass c.args.pass.now.state c.take.result v c.spool.inside.lines.items w
    c.take.ensures.turn c.spool.view_is (ap (λ (a : PassView (SpoolView g.row.D.Denot)). a.state) c.pass.view_is) c.end.ensures.turn) in
    let b = c.args.self.now.base in
    let kept = kept_home (facts_of d.log d.faults d.id) (KeepsOf d.log d.faults d.id) c.take.result v b c.spool.inside.lines.items p c.args.pass.now.state c.spool.view_is c.take.ensures.learns (ap (λ (a : PassView (SpoolView g.row.D.Denot)). a.state) c.pass.view_is) c.requires.of.1 in (
      r,
      w,
      record { stands = stands; keeps = room_keeps g.W.PairRule.is_whole d.log d.faults d.id d.loans b v r by.0 refl kept },
      turn,
      by.1,
      shared_refuses g.W.PairRule.is_whole d.log d.faults d.id d.loans b r w c.args.pass.now.state c.end.new.place.me.0.pass turn stands (room_keeps g.W.PairRule.is_whole d.log d.faults d.id d.loans b v r by.0 refl kept)
          g.D.Draft.Draft.sealed_bytes c.args.pair c.args.floor c.publish_with_room-answer.result by.1,
    )
