use Rattle.std.proofs.Common.{◌≡◌, ◌<◌, sym, subst}
use Rattle.st_spool.specs.States.{SpoolView}
use Rattle.st_answer.specs.Spools.{times_in}
use Rattle.st_answer.proofs.SpoolHolds.{is_out}
use Rattle.st_seated.specs.Seats.{SeatView}
use Rattle.st_disk.specs.Pairs.{Entry}
use Rattle.st_seated.proofs.Stored.{still_of, reads_sees, stays_by_reading, read_entry}
use Rattle.st_seated.proofs.seated.SeatedStore.stamp_of.Goals as goal

pub stamp_of-requires-clause-held : goal.stamp_of-requires-clause-held
stamp_of-requires-clause-held g c = is_out c.args.hold.now c.self.inside.pass.state.held (subst (λ (x : SeatView (SpoolView g.row.D.Denot)). 0 < times_in x.pass.state.held c.args.hold.now) (sym c.self.view_is) c.requires.held)

pub invariant_of-self : goal.invariant_of-self
invariant_of-self g c =
    let t = c.stamp_of.ensures.turn in
    record { of = still_of c.self.inside.shared.now c.self.inside.pass c.stamp_of.new.pass c.self.invariant.of c.stamp_of.ensures.same; sees = reads_sees g.W.PairRule.is_whole g.D.Shelf.log g.D.Shelf.faults g.D.Shelf.id g.D.Shelf.loans c.self.inside.shared.now c.self.inside.pass c.stamp_of.new.pass t.0 t.1 t.2 t.3 c.stamp_of.ensures.same c.self.invariant.sees t.4.same c.stamp_of.ensures.holds }

pub returns-clause-stamp : goal.returns-clause-stamp
returns-clause-stamp g c =
    let t = c.stamp_of.ensures.turn in
    read_entry g.W.PairRule.is_whole g.D.Shelf.log g.D.Shelf.faults g.D.Shelf.id g.D.Shelf.loans c.self.inside.shared.now c.self.inside.pass c.stamp_of.new.pass t.0 t.1 t.2 t.3 c.stamp_of.ensures.same c.self.invariant.sees c.args.self.now c.self.view_is t.4.same c.args.hold.now c.requires.held c.args.i (λ (e : Entry). c.stamp_of.result ≡ e.stamp)
    (λ log earlier h f e after known stands at. t.4.stamp_is earlier h f e after stands at)

pub returns-clause-stays : goal.returns-clause-stays
returns-clause-stays g c =
    let t = c.stamp_of.ensures.turn in
    stays_by_reading g.W.PairRule.is_whole g.D.Shelf.log g.D.Shelf.faults g.D.Shelf.id g.D.Shelf.loans c.self.inside.shared.now c.self.inside.pass c.stamp_of.new.pass t.0 t.1 t.2 t.3 c.stamp_of.ensures.same c.self.invariant.sees c.args.self.now c.self.view_is t.4.same c.stamp_of.ensures.holds
