use Rattle.std.proofs.Common.{◌<◌, sym, subst}
use Rattle.st_spool.specs.States.{SpoolView}
use Rattle.st_answer.specs.Spools.{times_in}
use Rattle.st_answer.proofs.SpoolHolds.{is_out}
use Rattle.st_seated.specs.Seats.{SeatView}
use Rattle.st_seated.proofs.Stored.{still_of, reads_sees, stays_by_reading, size_by}
use Rattle.st_seated.proofs.seated.SeatedStore.count.Goals as goal

pub count-requires-clause-held : goal.count-requires-clause-held
count-requires-clause-held g c = is_out c.args.hold.now c.self.inside.pass.state.held (subst (λ (x : SeatView (SpoolView g.row.D.Denot)). 0 < times_in x.pass.state.held c.args.hold.now) (sym c.self.view_is) c.requires)

pub invariant_of-self : goal.invariant_of-self
invariant_of-self g c =
    let t = c.count.ensures.turn in
    record { of = still_of c.self.inside.shared.now c.self.inside.pass c.count.new.pass c.self.invariant.of c.count.ensures.same; sees = reads_sees g.W.PairRule.is_whole g.D.Shelf.log g.D.Shelf.faults g.D.Shelf.id g.D.Shelf.loans c.self.inside.shared.now c.self.inside.pass c.count.new.pass t.0 t.1 t.2 t.3 c.count.ensures.same c.self.invariant.sees t.4.same c.count.ensures.holds }

pub returns-clause-set : goal.returns-clause-set
returns-clause-set g c =
    let t = c.count.ensures.turn in
    size_by g.W.PairRule.is_whole g.D.Shelf.log g.D.Shelf.faults g.D.Shelf.id g.D.Shelf.loans c.self.inside.shared.now c.self.inside.pass c.count.new.pass t.0 t.1 t.2 t.3 c.count.ensures.same c.self.invariant.sees c.args.self.now c.self.view_is t.4.same c.args.hold.now c.requires

pub returns-clause-stays : goal.returns-clause-stays
returns-clause-stays g c =
    let t = c.count.ensures.turn in
    stays_by_reading g.W.PairRule.is_whole g.D.Shelf.log g.D.Shelf.faults g.D.Shelf.id g.D.Shelf.loans c.self.inside.shared.now c.self.inside.pass c.count.new.pass t.0 t.1 t.2 t.3 c.count.ensures.same c.self.invariant.sees c.args.self.now c.self.view_is t.4.same c.count.ensures.holds
