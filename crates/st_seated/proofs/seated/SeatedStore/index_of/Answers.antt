use Rattle.std.proofs.Common.{◌≡◌, ◌<◌, sym, subst, Some}
use Rattle.st_spool.specs.States.{SpoolView}
use Rattle.st_answer.specs.Spools.{times_in}
use Rattle.st_answer.proofs.SpoolHolds.{is_out}
use Rattle.st_seated.specs.Seats.{SeatView, pass_set}
use Rattle.st_disk.specs.Pairs.{Entry}
use Rattle.std.specs.Prelude.{Result, IfOk}
use Rattle.st_base.specs.declared.failures.Failed.{Failed}
use Rattle.st_answer.specs.Stores.{OfEntry}
use Rattle.st_seated.proofs.seated.SeatedStore.index_of.Goals.{in-Ok, in-Err}
use Rattle.st_seated.proofs.Stored.{still_of, lends_sees, stays_by_lending, lent_entry}
use Rattle.st_seated.proofs.seated.SeatedStore.index_of.Goals as goal

pub index_of-requires-clause-held : goal.index_of-requires-clause-held
index_of-requires-clause-held g c = is_out c.args.hold.now c.self.inside.pass.state.held (subst (λ (x : SeatView (SpoolView g.row.D.Denot)). 0 < times_in x.pass.state.held c.args.hold.now) (sym c.self.view_is) c.requires.held)

pub invariant_of-self : goal.invariant_of-self
invariant_of-self g c =
    let t = c.index_of.ensures.turn in
    record { of = still_of c.self.inside.shared.now c.self.inside.pass c.index_of.new.pass c.self.invariant.of c.index_of.ensures.same; sees = lends_sees g.W.PairRule.is_whole g.D.Shelf.log g.D.Shelf.faults g.D.Shelf.id g.D.Shelf.loans c.self.inside.shared.now c.self.inside.pass c.index_of.new.pass t.0 t.1 t.2 t.3 c.index_of.ensures.same c.self.invariant.sees t.4.stays c.index_of.ensures.holds }

pub returns-clause-content : goal.returns-clause-content
returns-clause-content g c =
    elim c.match-index_of.branch [
      | in-Ok w ↦
          let t = w.in-Ok.ensures.turn in
          subst (λ (r : Result g.row.D-File.Denot Failed). IfOk r (λ f. OfEntry (pass_set (g.D.Shelf.log c.args.self.now.shared.base.shelf) c.args.self.now.pass.state c.args.hold.now) c.args.i (λ (e : Entry). g.D.File.Reader.content f ≡ Some e.index)))
          (sym w.result-is)
          (lent_entry g.W.PairRule.is_whole g.D.Shelf.log g.D.Shelf.faults g.D.Shelf.id g.D.Shelf.loans c.self.inside.shared.now c.self.inside.pass c.index_of.new.pass t.0 t.1 t.2 t.3 c.index_of.ensures.same c.self.invariant.sees c.args.self.now c.self.view_is t.4.stays c.args.hold.now c.requires.held c.args.i (λ (e : Entry). g.D.File.Reader.content w.in-Ok.index ≡ Some e.index)
          (λ log earlier h f e after known stands at. t.4.content_is log earlier h f e after known stands at))
      | in-Err w ↦
          subst (λ (r : Result g.row.D-File.Denot Failed). IfOk r (λ f. OfEntry (pass_set (g.D.Shelf.log c.args.self.now.shared.base.shelf) c.args.self.now.pass.state c.args.hold.now) c.args.i (λ (e : Entry). g.D.File.Reader.content f ≡ Some e.index)))
          (sym w.result-is) tt
    ]

pub returns-clause-stays : goal.returns-clause-stays
returns-clause-stays g c =
    let t = c.index_of.ensures.turn in
    stays_by_lending g.W.PairRule.is_whole g.D.Shelf.log g.D.Shelf.faults g.D.Shelf.id g.D.Shelf.loans c.self.inside.shared.now c.self.inside.pass c.index_of.new.pass t.0 t.1 t.2 t.3 c.index_of.ensures.same c.self.invariant.sees c.args.self.now c.self.view_is t.4.stays c.index_of.ensures.holds
