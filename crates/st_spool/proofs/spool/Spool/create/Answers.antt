use Rattle.st_spool.proofs.Kept.{keeps_some, keeps_from, make_keeps_rows}
use Rattle.st_spool.proofs.spool.Spool.create.Goals as goal

pub invariant_of-self : goal.invariant_of-self
invariant_of-self g c = keeps_some g.W.PairRule.is_whole (g.D.Shelf.log c.self.inside.shelf) (g.D.Shelf.log c.create.new.self) _ (make_keeps_rows (g.D.Shelf.log c.self.inside.shelf) (g.D.Shelf.log c.create.new.self) c.create.result c.args.kind (λ d. (g.D.Draft.Draft.origin d).number) c.create.ensures.log) c.self.invariant

pub returns-clause-keeps : goal.returns-clause-keeps
returns-clause-keeps g c = λ earlier h k stands. keeps_from g.W.PairRule.is_whole g.D.Shelf.log _ _ (g.D.Shelf.log c.create.new.self) earlier h k c.self.view_is (make_keeps_rows (g.D.Shelf.log c.self.inside.shelf) (g.D.Shelf.log c.create.new.self) c.create.result c.args.kind (λ d. (g.D.Draft.Draft.origin d).number) c.create.ensures.log) stands
