use Rattle.std.proofs.Common.{◌∙◌, ap, false}
use Rattle.st_spool.specs.States.{SpoolView}
use Rattle.st_turn.specs.Passes.{PassView}
use Rattle.st_turn.specs.Spools.{facts_of, KeepsOf}
use Rattle.st_turn.specs.SpoolCalls.{StaysAs}
use Rattle.st_turn.proofs.Spooled.{still_turn}
use Rattle.st_turn.proofs.Released.{kept_home, held_stays}
use Rattle.st_turn.proofs.Ready.{ready, done}
use Rattle.st_turn.proofs.drafting.Shared+Spool+D+W.create.Goals as goal

pub end-requires-clause-turn : goal.end-requires-clause-turn
end-requires-clause-turn g c =
    let d = g.D.Shelf in
    let v = c.spool.inside.spool in
    let w = c.create-answer.new.self in
    let p = c.pass.inside.place.me.0.pass in
    let stays : StaysAs g.W.PairRule.is_whole d.log d.faults d.id d.loans v w = record { keeps = c.create-answer.ensures.keeps; state = c.create-answer.ensures.state; shelf = c.create-answer.ensures.rest.0 } in
    ready (facts_of d.log d.faults d.id) (KeepsOf d.log d.faults d.id) c.take.new.place.me p c.take.result v c.spool.inside.lines.items c.fault_count-before.result w p.held false
    c.take.ensures.turn c.take.ensures.learns c.spool.view_is c.fault_count-before.ensures
    (still_turn d.log d.faults d.id g.W.PairRule.is_whole d.loans v w p.held stays c.recall.ensures c.create-answer.ensures.cause.later)

pub returns-clause-same : goal.returns-clause-same
returns-clause-same g c =
    let d = g.D.Shelf in
    let turn = done (facts_of d.log d.faults d.id) (KeepsOf d.log d.faults d.id) c.take.new.place.me c.pass.inside.place.me.0.pass c.end.new.place.me.0.pass c.args.pass.now.state c.take.result c.spool.inside.spool c.spool.inside.lines.items c.create-answer.new.self
    c.take.ensures.turn c.spool.view_is (ap (λ (a : PassView (SpoolView g.row.D.Denot)). a.state) c.pass.view_is) c.end.ensures.turn in (
      c.end.ensures.same.0 ∙ c.take.ensures.same.0 ∙ ap (λ (a : PassView (SpoolView g.row.D.Denot)). a.table) c.pass.view_is,
      c.end.ensures.same.1 ∙ c.take.ensures.same.1 ∙ ap (λ (a : PassView (SpoolView g.row.D.Denot)). a.id) c.pass.view_is,
      turn.rest.1,
      turn.rest.0,
    )

pub returns-clause-holds : goal.returns-clause-holds
returns-clause-holds g c =
    let d = g.D.Shelf in
    let v = c.spool.inside.spool in
    let w = c.create-answer.new.self in
    let q = c.end.new.place.me.0.pass in
    let turn = done (facts_of d.log d.faults d.id) (KeepsOf d.log d.faults d.id) c.take.new.place.me c.pass.inside.place.me.0.pass q c.args.pass.now.state c.take.result v c.spool.inside.lines.items w
    c.take.ensures.turn c.spool.view_is (ap (λ (a : PassView (SpoolView g.row.D.Denot)). a.state) c.pass.view_is) c.end.ensures.turn in
    held_stays v.state.holds w.state.holds c.args.pass.now.state.held q.held turn.held (ap (λ (s : SpoolView g.row.D.Denot). s.state.holds) c.create-answer.ensures.state)

pub returns-clause-turn : goal.returns-clause-turn
returns-clause-turn g c =
    let d = g.D.Shelf in
    let v = c.spool.inside.spool in
    let w = c.create-answer.new.self in
    let p = c.pass.inside.place.me.0.pass in
    let keeps = kept_home (facts_of d.log d.faults d.id) (KeepsOf d.log d.faults d.id) c.take.result v c.args.self.now.base c.spool.inside.lines.items p c.args.pass.now.state c.spool.view_is c.take.ensures.learns (ap (λ (a : PassView (SpoolView g.row.D.Denot)). a.state) c.pass.view_is) c.requires.1 in (
      v,
      w,
      record { stands = c.recall.ensures; keeps = keeps },
      done (facts_of d.log d.faults d.id) (KeepsOf d.log d.faults d.id) c.take.new.place.me p c.end.new.place.me.0.pass c.args.pass.now.state c.take.result v c.spool.inside.lines.items w
          c.take.ensures.turn c.spool.view_is (ap (λ (a : PassView (SpoolView g.row.D.Denot)). a.state) c.pass.view_is) c.end.ensures.turn,
      record {
        stays = record { keeps = c.create-answer.ensures.keeps; state = c.create-answer.ensures.state; shelf = c.create-answer.ensures.rest.0 };
        origin_is = c.create-answer.ensures.origin;
        empty = c.create-answer.ensures.empty;
        cause = c.create-answer.ensures.cause;
        loans_are = c.create-answer.ensures.rest.1;
      },
    )
