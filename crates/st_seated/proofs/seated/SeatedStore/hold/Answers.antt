use Rattle.st_seated.proofs.Stored.{still_of, hold_sees_all, hold_holds, hold_held, hold_becomes}
use Rattle.st_seated.proofs.seated.SeatedStore.hold.Goals as goal

pub invariant_of-self : goal.invariant_of-self
invariant_of-self g c =
    let t = c.hold.ensures.turn in
    record { of = still_of c.self.inside.shared.now c.self.inside.pass c.hold.new.pass c.self.invariant.of c.hold.ensures.same; sees = hold_sees_all g.W.PairRule.is_whole g.D.Shelf.log g.D.Shelf.faults g.D.Shelf.id g.D.Shelf.loans c.self.inside.shared.now c.self.inside.pass c.hold.new.pass t.0 t.1 t.2 t.3 c.hold.ensures.same c.self.invariant.sees c.args.self.now c.self.view_is c.hold.result t.4 c.hold.ensures.holds }

pub returns-clause-holds : goal.returns-clause-holds
returns-clause-holds g c =
    let t = c.hold.ensures.turn in
    hold_holds g.W.PairRule.is_whole g.D.Shelf.log g.D.Shelf.faults g.D.Shelf.id g.D.Shelf.loans c.self.inside.shared.now c.self.inside.pass c.hold.new.pass t.0 t.1 t.2 t.3 c.hold.ensures.same c.self.invariant.sees c.args.self.now c.self.view_is c.hold.result t.4 c.hold.ensures.holds

pub returns-clause-held : goal.returns-clause-held
returns-clause-held g c =
    let t = c.hold.ensures.turn in
    hold_held g.W.PairRule.is_whole g.D.Shelf.log g.D.Shelf.faults g.D.Shelf.id g.D.Shelf.loans c.self.inside.shared.now c.self.inside.pass c.hold.new.pass t.0 t.1 t.2 t.3 c.hold.ensures.same c.self.invariant.sees c.args.self.now c.self.view_is c.hold.result t.4 c.hold.ensures.holds

pub returns-clause-becomes : goal.returns-clause-becomes
returns-clause-becomes g c =
    let t = c.hold.ensures.turn in
    hold_becomes g.W.PairRule.is_whole g.D.Shelf.log g.D.Shelf.faults g.D.Shelf.id g.D.Shelf.loans c.self.inside.shared.now c.self.inside.pass c.hold.new.pass t.0 t.1 t.2 t.3 c.hold.ensures.same c.self.invariant.sees c.args.self.now c.self.view_is c.hold.result t.4 c.hold.ensures.holds
