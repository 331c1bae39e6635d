use Rattle.std.proofs.Common.{◌≡◌, List, length, arith}
use Rattle.st_disk.specs.Events.{Event}
use Rattle.st_disk.specs.Pairs.{Files}
use Rattle.st_spool.specs.Standing.{StandsFor}
use Rattle.st_spool.specs.Entering.{Enters}
use Rattle.st_spool.proofs.Opened.{enters, opened_stands, opened_at}
use Rattle.st_spool.proofs.spool.Spool.enter.Goals as goal

pub invariant_of-result : goal.invariant_of-result
invariant_of-result g c =
    let W = g.W.PairRule.is_whole in
    let D = g.D.Shelf in
    let v = c.in-Ok.field-0.stamps in
    let long : c.len-found.result ≡ length v.items = omega (arith, v.ok.0) in
    opened_at (λ st. (earlier : List Event) × (h : List Event) × (k : Files) × StandsFor W (D.log c.open.new.shelf) st earlier h k) c.args.limit c.in-Ok.field-0.last c.len-found.result v.items c.new.result.items c.new.ensures.items long
    (opened_stands W (D.log c.args.shelf) (D.log c.open.new.shelf) c.args.limit v.items c.in-Ok.field-0.last c.in-Ok.ensures.known c.in-Ok.ensures.opened c.in-Ok.ensures.stamps)

pub returns-in-Ok-clause-entered : goal.returns-in-Ok-clause-entered
returns-in-Ok-clause-entered g c = λ log known.
    let W = g.W.PairRule.is_whole in
    let D = g.D.Shelf in
    let v = c.in-Ok.field-0.stamps in
    let long : c.len-found.result ≡ length v.items = omega (arith, v.ok.0) in
    opened_at (λ st. Enters W log (D.log c.open.new.shelf) st) c.args.limit c.in-Ok.field-0.last c.len-found.result v.items c.new.result.items c.new.ensures.items long
    (enters W log (D.log c.open.new.shelf) c.args.limit v.items c.in-Ok.field-0.last (c.in-Ok.ensures.opened log known))
