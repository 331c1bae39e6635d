use Rattle.st_seated.proofs.Stored.{still_of, lends_sees, stays_by_lending}
use Rattle.st_seated.proofs.seated.SeatedStore.close_file.Goals as goal

pub invariant_of-self : goal.invariant_of-self
invariant_of-self g c =
    let t = c.close_file.ensures.turn in
    record { of = still_of c.self.inside.shared.now c.self.inside.pass c.close_file.new.pass c.self.invariant.of c.close_file.ensures.same; sees = lends_sees g.W.PairRule.is_whole g.D.Shelf.log g.D.Shelf.faults g.D.Shelf.id g.D.Shelf.loans c.self.inside.shared.now c.self.inside.pass c.close_file.new.pass t.0 t.1 t.2 t.3 c.close_file.ensures.same c.self.invariant.sees t.4.stays c.close_file.ensures.holds }

pub returns-clause-stays : goal.returns-clause-stays
returns-clause-stays g c =
    let t = c.close_file.ensures.turn in
    stays_by_lending g.W.PairRule.is_whole g.D.Shelf.log g.D.Shelf.faults g.D.Shelf.id g.D.Shelf.loans c.self.inside.shared.now c.self.inside.pass c.close_file.new.pass t.0 t.1 t.2 t.3 c.close_file.ensures.same c.self.invariant.sees c.args.self.now c.self.view_is t.4.stays c.close_file.ensures.holds
