use Rattle.std.proofs.Common.{◌<◌, sym, subst}
use Rattle.st_spool.specs.States.{SpoolView}
use Rattle.st_answer.specs.Spools.{times_in}
use Rattle.st_answer.proofs.SpoolHolds.{is_out}
use Rattle.st_seated.specs.Seats.{SeatView}
use Rattle.st_seated.proofs.Stored.{still_of, release_sees, release_holds, release_held, release_becomes}
use Rattle.st_seated.proofs.seated.SeatedStore.release.Goals as goal

pub release-requires-clause-hold : goal.release-requires-clause-hold
release-requires-clause-hold g c = is_out c.args.hold c.self.inside.pass.state.held (subst (λ (x : SeatView (SpoolView g.row.D.Denot)). 0 < times_in x.pass.state.held c.args.hold) (sym c.self.view_is) c.requires)

pub invariant_of-self : goal.invariant_of-self
invariant_of-self g c =
    let t = c.release.ensures.turn in
    record { of = still_of c.self.inside.shared.now c.self.inside.pass c.release.new.pass c.self.invariant.of c.release.ensures.same; sees = release_sees g.W.PairRule.is_whole g.D.Shelf.log g.D.Shelf.faults g.D.Shelf.id g.D.Shelf.loans c.self.inside.shared.now c.self.inside.pass c.release.new.pass t.0 t.1 t.2 t.3 c.release.ensures.same c.self.invariant.sees c.args.hold t.4 c.release.ensures.holds }

pub returns-clause-holds : goal.returns-clause-holds
returns-clause-holds g c =
    let t = c.release.ensures.turn in
    release_holds g.W.PairRule.is_whole g.D.Shelf.log g.D.Shelf.faults g.D.Shelf.id g.D.Shelf.loans c.self.inside.shared.now c.self.inside.pass c.release.new.pass t.0 t.1 t.2 t.3 c.release.ensures.same c.self.invariant.sees c.args.self.now c.self.view_is c.args.hold t.4 c.release.ensures.holds c.requires

pub returns-clause-held : goal.returns-clause-held
returns-clause-held g c =
    let t = c.release.ensures.turn in
    release_held g.W.PairRule.is_whole g.D.Shelf.log g.D.Shelf.faults g.D.Shelf.id g.D.Shelf.loans c.self.inside.shared.now c.self.inside.pass c.release.new.pass t.0 t.1 t.2 t.3 c.release.ensures.same c.self.invariant.sees c.args.self.now c.self.view_is c.args.hold t.4 c.release.ensures.holds

pub returns-clause-becomes : goal.returns-clause-becomes
returns-clause-becomes g c =
    let t = c.release.ensures.turn in
    release_becomes g.W.PairRule.is_whole g.D.Shelf.log g.D.Shelf.faults g.D.Shelf.id g.D.Shelf.loans c.self.inside.shared.now c.self.inside.pass c.release.new.pass t.0 t.1 t.2 t.3 c.release.ensures.same c.self.invariant.sees c.args.self.now c.self.view_is c.args.hold t.4 c.release.ensures.holds
