use Rattle.std.proofs.Common.{◌∙◌, ap, false}
use Rattle.st_spool.specs.States.{SpoolView}
use Rattle.st_turn.specs.Passes.{PassView}
use Rattle.st_turn.specs.Spools.{facts_of, KeepsOf}
use Rattle.st_turn.proofs.Spooled.{still_turn}
use Rattle.st_turn.proofs.Released.{held_at_home, kept_home, held_stays}
use Rattle.st_turn.proofs.Loaned.{lent_file}
use Rattle.st_turn.proofs.Ready.{ready, done}
use Rattle.st_turn.proofs.reading.Shared+Spool+D+W.lend_by.Goals as goal

pub file_of-answer-requires-clause-held : goal.file_of-answer-requires-clause-held
file_of-answer-requires-clause-held g c =
    let d = g.D.Shelf in
    let v = c.spool.inside.spool in
    let lines = c.spool.inside.lines.items in
    let p = c.pass.inside.place.me.0.pass in
    let same = (ap (λ (a : PassView (SpoolView g.row.D.Denot)). a.state) c.pass.view_is) in
    (held_at_home (facts_of d.log d.faults d.id) (KeepsOf d.log d.faults d.id) c.take.result v lines p c.args.pass.now.state c.args.hold.now c.spool.view_is c.take.ensures.learns same c.requires.held).1

pub end-requires-clause-turn : goal.end-requires-clause-turn
end-requires-clause-turn g c =
    let d = g.D.Shelf in
    let v = c.spool.inside.spool in
    let lines = c.spool.inside.lines.items in
    let p = c.pass.inside.place.me.0.pass in
    let same = (ap (λ (a : PassView (SpoolView g.row.D.Denot)). a.state) c.pass.view_is) in
    let w = c.file_of-answer.new.spool in
    let e = c.file_of-answer.ensures in
    ready (facts_of d.log d.faults d.id) (KeepsOf d.log d.faults d.id) c.take.new.place.me p c.take.result v lines c.fault_count-before.result w p.held false
    c.take.ensures.turn c.take.ensures.learns c.spool.view_is c.fault_count-before.ensures
    (still_turn d.log d.faults d.id g.W.PairRule.is_whole d.loans v w p.held e.stays c.recall.ensures e.cause.later)

pub returns-clause-same : goal.returns-clause-same
returns-clause-same g c =
    let d = g.D.Shelf in
    let turn = done (facts_of d.log d.faults d.id) (KeepsOf d.log d.faults d.id) c.take.new.place.me c.pass.inside.place.me.0.pass c.end.new.place.me.0.pass c.args.pass.now.state c.take.result c.spool.inside.spool c.spool.inside.lines.items c.file_of-answer.new.spool
    c.take.ensures.turn c.spool.view_is (ap (λ (a : PassView (SpoolView g.row.D.Denot)). a.state) c.pass.view_is) c.end.ensures.turn in (
      c.end.ensures.same.0 ∙ c.take.ensures.same.0 ∙ ap (λ (a : PassView (SpoolView g.row.D.Denot)). a.table) c.pass.view_is,
      c.end.ensures.same.1 ∙ c.take.ensures.same.1 ∙ ap (λ (a : PassView (SpoolView g.row.D.Denot)). a.id) c.pass.view_is,
      turn.rest.1,
      turn.rest.0,
    )

pub returns-clause-holds : goal.returns-clause-holds
returns-clause-holds g c =
    let d = g.D.Shelf in
    let v = c.spool.inside.spool in
    let w = c.file_of-answer.new.spool in
    let q = c.end.new.place.me.0.pass in
    let turn = done (facts_of d.log d.faults d.id) (KeepsOf d.log d.faults d.id) c.take.new.place.me c.pass.inside.place.me.0.pass q c.args.pass.now.state c.take.result v c.spool.inside.lines.items w
    c.take.ensures.turn c.spool.view_is (ap (λ (a : PassView (SpoolView g.row.D.Denot)). a.state) c.pass.view_is) c.end.ensures.turn in
    held_stays v.state.holds w.state.holds c.args.pass.now.state.held q.held turn.held (ap (λ (s : SpoolView g.row.D.Denot). s.state.holds) c.file_of-answer.ensures.stays.state)

pub returns-clause-loans : goal.returns-clause-loans
returns-clause-loans g c = lent_file g.D.Shelf.file_origin g.D.File.Reader.reads g.D.File.Reader.asked c.pass.inside.files.items c.note_lent.new.files.items c.args.pass.now.loans c.file_of-answer.result c.note_lent.ensures (ap (λ (a : PassView (SpoolView g.row.D.Denot)). a.loans) c.pass.view_is)

pub returns-clause-turn : goal.returns-clause-turn
returns-clause-turn g c =
    let d = g.D.Shelf in
    let v = c.spool.inside.spool in
    let lines = c.spool.inside.lines.items in
    let p = c.pass.inside.place.me.0.pass in
    let same = (ap (λ (a : PassView (SpoolView g.row.D.Denot)). a.state) c.pass.view_is) in
    let w = c.file_of-answer.new.spool in
    let keeps = kept_home (facts_of d.log d.faults d.id) (KeepsOf d.log d.faults d.id) c.take.result v c.args.self.now.base lines p c.args.pass.now.state c.spool.view_is c.take.ensures.learns same c.requires.of.1 in (
      v,
      w,
      record { stands = c.recall.ensures; keeps = keeps },
      done (facts_of d.log d.faults d.id) (KeepsOf d.log d.faults d.id) c.take.new.place.me p c.end.new.place.me.0.pass c.args.pass.now.state c.take.result v lines w
          c.take.ensures.turn c.spool.view_is same c.end.ensures.turn,
      c.file_of-answer.ensures,
    )
