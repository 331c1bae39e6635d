use Rattle.st_spool.proofs.Kept.{stands_from, keeps_moved}
use Rattle.st_spool.proofs.Released.{released}
use Rattle.st_spool.proofs.spool.Spool.release.Goals as goal

pub invariant_of-self : goal.invariant_of-self
invariant_of-self g c =
    let W = g.W.PairRule.is_whole in
    let D = g.D.Shelf in
    let i = c.self.invariant in
    (i.0, i.1, i.2, (released W (D.log c.self.inside.shelf) (D.log c.sweep-self-inside.new.shelf) _ i.0 i.1 i.2 c.hold.inside.span c.take_out.new.holds.items c.as_slice.result.now c.as_slice-2.result.now c.sweep-self-inside.result c.take_out.ensures c.as_slice.ensures.value c.as_slice-2.ensures.value c.sweep-self-inside.ensures.known c.sweep-self-inside.ensures.spares c.sweep-self-inside.ensures.swept i.3).stands)

pub returns-clause-keeps : goal.returns-clause-keeps
returns-clause-keeps g c = λ earlier h k stands.
    let W = g.W.PairRule.is_whole in
    let D = g.D.Shelf in
    keeps_moved W D.log _ _ (D.log c.sweep-self-inside.new.shelf) _ earlier h k c.self.view_is
    (released W (D.log c.self.inside.shelf) (D.log c.sweep-self-inside.new.shelf) _ earlier h k c.hold.inside.span c.take_out.new.holds.items c.as_slice.result.now c.as_slice-2.result.now c.sweep-self-inside.result c.take_out.ensures c.as_slice.ensures.value c.as_slice-2.ensures.value c.sweep-self-inside.ensures.known c.sweep-self-inside.ensures.spares c.sweep-self-inside.ensures.swept (stands_from W D.log _ _ earlier h k c.self.view_is stands))
