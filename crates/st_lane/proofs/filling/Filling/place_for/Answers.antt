use Rattle.std.proofs.Common.{◌+◌, ◌≤◌, ◌<◌, subst, arith}
use Rattle.st_block.specs.BlockText.{IsShort, room}
use Rattle.st_lane.specs.Filling.{FillingView, IsFull}
use Rattle.st_lane.specs.contracts.filling.Filling.{the_view}
use Rattle.st_lane.proofs.Pushing.{no_place}
use Rattle.st_lane.proofs.filling.Filling.place_for.Goals as goal

pub returns-then-self : goal.returns-then-self
returns-then-self c r e =
    let f : FillingView = the_view c.self.inside in
    let k = no_place f r c.args.len e c.self.invariant (omega (arith, c.if-from.false, c.from.ensures, c.from-2.ensures)) c.if-fits.ensures.1 in
    subst (λ (x : FillingView). IsFull x r) c.self.view_is (record { short = k.0; others = k.2; room = k.1; last = c.if-self.true })

pub returns : goal.returns
returns c r e =
    let f : FillingView = the_view c.self.inside in
    let k = no_place f r c.args.len e c.self.invariant (omega (arith, c.if-from.false, c.from.ensures, c.from-2.ensures)) c.if-fits.ensures.1 in
    let less : f.done < f.most = c.self.invariant.done in
    let other : f.done + 1 < f.most = omega (arith, c.if-self.false) in
    subst (λ (x : FillingView). IsShort x.size r × (x.size < x.here.used + room r) × (1 ≤ x.records) × (x.done + 1 < x.most)) c.self.view_is (k.0, k.1, k.2, other)
