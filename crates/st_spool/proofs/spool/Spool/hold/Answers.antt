use Rattle.std.proofs.Common.{◌≡◌, length, arith}
use Rattle.st_spool.proofs.Kept.{stands_from}
use Rattle.st_spool.proofs.Holds.{hold_stands, long_list}
use Rattle.st_spool.proofs.spool.Spool.hold.Goals as goal

pub invariant_of-self-2 : goal.invariant_of-self-2
invariant_of-self-2 g c =
    let W = g.W.PairRule.is_whole in
    let known = g.D.Shelf.log c.self.inside.shelf in
    let i = c.self.invariant in
    let n : c.len.result ≡ length c.self.inside.stamps.items = omega (arith, c.self.inside.stamps.ok.0) in
    (i.0, i.1, i.2, hold_stands W known _ i.0 i.1 i.2 c.push.new.self.items c.len.result _ i.3 (long_list W known _ i.0 i.1 i.2 c.len.result i.3 n) c.in_default.ensures.items)

pub returns-clause-stands : goal.returns-clause-stands
returns-clause-stands g c = λ earlier h k stands.
    let W = g.W.PairRule.is_whole in
    let known = g.D.Shelf.log c.self.inside.shelf in
    let here = stands_from W g.D.Shelf.log _ _ earlier h k c.self.view_is stands in
    let n : c.len.result ≡ length c.self.inside.stamps.items = omega (arith, c.self.inside.stamps.ok.0) in
    hold_stands W known _ earlier h k c.push.new.self.items c.len.result _ here (long_list W known _ earlier h k c.len.result here n) c.in_default.ensures.items
