use Rattle.std.proofs.Common.{◌∙◌, ap, false}
use Rattle.st_spool.specs.States.{SpoolView}
use Rattle.st_turn.specs.Passes.{PassView}
use Rattle.st_turn.specs.Spools.{facts_of, KeepsOf}
use Rattle.st_turn.proofs.Spooled.{hold_turn}
use Rattle.st_turn.proofs.Released.{kept_home, hold_held}
use Rattle.st_turn.proofs.Ready.{ready, done}
use Rattle.st_turn.proofs.holding.Shared+Spool+D+W.hold.Goals as goal

pub end-requires-clause-turn : goal.end-requires-clause-turn
end-requires-clause-turn g c =
    let d = g.D.Shelf in
    let v = c.spool.inside.spool in
    let w = c.hold-answer.new.self in
    let p = c.pass.inside.place.me.0.pass in
    let may = hold_turn d.log d.faults d.id g.W.PairRule.is_whole d.loans v w p.held c.hold-answer.result c.hold-answer.ensures.state in
    ready (facts_of d.log d.faults d.id) (KeepsOf d.log d.faults d.id) c.take.new.place.me p c.take.result v c.spool.inside.lines.items c.fault_count-before.result w may.0 false
    c.take.ensures.turn c.take.ensures.learns c.spool.view_is c.fault_count-before.ensures may.1

pub returns-clause-same : goal.returns-clause-same
returns-clause-same g c =
    let d = g.D.Shelf in
    let turn = done (facts_of d.log d.faults d.id) (KeepsOf d.log d.faults d.id) c.take.new.place.me c.pass.inside.place.me.0.pass c.end.new.place.me.0.pass c.args.pass.now.state c.take.result c.spool.inside.spool c.spool.inside.lines.items c.hold-answer.new.self
    c.take.ensures.turn c.spool.view_is (ap (λ (a : PassView (SpoolView g.row.D.Denot)). a.state) c.pass.view_is) c.end.ensures.turn in (
      c.end.ensures.same.0 ∙ c.take.ensures.same.0 ∙ ap (λ (a : PassView (SpoolView g.row.D.Denot)). a.table) c.pass.view_is,
      c.end.ensures.same.1 ∙ c.take.ensures.same.1 ∙ ap (λ (a : PassView (SpoolView g.row.D.Denot)). a.id) c.pass.view_is,
      turn.rest.1,
      turn.rest.0,
    )

pub returns-clause-holds : goal.returns-clause-holds
returns-clause-holds g c =
    let d = g.D.Shelf in
    let v = c.spool.inside.spool in
    let w = c.hold-answer.new.self in
    let q = c.end.new.place.me.0.pass in
    let turn = done (facts_of d.log d.faults d.id) (KeepsOf d.log d.faults d.id) c.take.new.place.me c.pass.inside.place.me.0.pass q c.args.pass.now.state c.take.result v c.spool.inside.lines.items w
    c.take.ensures.turn c.spool.view_is (ap (λ (a : PassView (SpoolView g.row.D.Denot)). a.state) c.pass.view_is) c.end.ensures.turn in
    hold_held d.log d.faults d.id g.W.PairRule.is_whole d.loans v w c.args.pass.now.state.held q.held c.hold-answer.result c.hold-answer.ensures.state turn.held

pub returns-clause-turn : goal.returns-clause-turn
returns-clause-turn g c =
    let d = g.D.Shelf in
    let v = c.spool.inside.spool in
    let w = c.hold-answer.new.self in
    let p = c.pass.inside.place.me.0.pass in
    let keeps = kept_home (facts_of d.log d.faults d.id) (KeepsOf d.log d.faults d.id) c.take.result v c.args.self.now.base c.spool.inside.lines.items p c.args.pass.now.state c.spool.view_is c.take.ensures.learns (ap (λ (a : PassView (SpoolView g.row.D.Denot)). a.state) c.pass.view_is) c.requires.1 in (
      v,
      w,
      record { stands = c.recall.ensures; keeps = keeps },
      done (facts_of d.log d.faults d.id) (KeepsOf d.log d.faults d.id) c.take.new.place.me p c.end.new.place.me.0.pass c.args.pass.now.state c.take.result v c.spool.inside.lines.items w
          c.take.ensures.turn c.spool.view_is (ap (λ (a : PassView (SpoolView g.row.D.Denot)). a.state) c.pass.view_is) c.end.ensures.turn,
      record { stands = c.hold-answer.ensures.stands; held_is = c.hold-answer.ensures.held; state = c.hold-answer.ensures.state },
    )
