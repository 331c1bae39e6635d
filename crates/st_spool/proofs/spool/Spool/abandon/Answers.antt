use Rattle.st_spool.proofs.Kept.{keeps_some, keeps_from, abandon_keeps}
use Rattle.st_spool.proofs.spool.Spool.abandon.Goals as goal

pub invariant_of-self : goal.invariant_of-self
invariant_of-self g c = keeps_some g.W.PairRule.is_whole (g.D.Shelf.log c.self.inside.shelf) (g.D.Shelf.log c.abandon.new.self) _ (abandon_keeps (g.D.Shelf.log c.self.inside.shelf) (g.D.Shelf.log c.abandon.new.self) _ _ _ _ _ c.abandon.ensures.log) c.self.invariant

pub returns-clause-keeps : goal.returns-clause-keeps
returns-clause-keeps g c = λ earlier h k stands. keeps_from g.W.PairRule.is_whole g.D.Shelf.log _ _ (g.D.Shelf.log c.abandon.new.self) earlier h k c.self.view_is (abandon_keeps (g.D.Shelf.log c.self.inside.shelf) (g.D.Shelf.log c.abandon.new.self) _ _ _ _ _ c.abandon.ensures.log) stands
