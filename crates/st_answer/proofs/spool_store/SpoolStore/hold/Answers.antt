use Rattle.st_answer.proofs.SpoolHolding.{has_taken}
use Rattle.st_answer.proofs.SpoolCalls.{not_taken}
use Rattle.st_answer.proofs.spool_store.SpoolStore.hold.Goals as goal

pub returns-in-Ok-clause-holds : goal.returns-in-Ok-clause-holds
returns-in-Ok-clause-holds g c =
    (has_taken g.W.PairRule.is_whole g.D.Shelf.log c.args.self.now c.hold.new.self c.in-Ok.hold c.recall.ensures c.in-Ok.ensures.state c.hold.ensures.stands c.in-Ok.ensures.held).0

pub returns-in-Ok-clause-held : goal.returns-in-Ok-clause-held
returns-in-Ok-clause-held g c =
    (has_taken g.W.PairRule.is_whole g.D.Shelf.log c.args.self.now c.hold.new.self c.in-Ok.hold c.recall.ensures c.in-Ok.ensures.state c.hold.ensures.stands c.in-Ok.ensures.held).1

pub returns-in-Ok-clause-becomes : goal.returns-in-Ok-clause-becomes
returns-in-Ok-clause-becomes g c =
    (has_taken g.W.PairRule.is_whole g.D.Shelf.log c.args.self.now c.hold.new.self c.in-Ok.hold c.recall.ensures c.in-Ok.ensures.state c.hold.ensures.stands c.in-Ok.ensures.held).2

pub returns-in-Err-clause-holds : goal.returns-in-Err-clause-holds
returns-in-Err-clause-holds g c = (not_taken g.W.PairRule.is_whole g.D.Shelf.log c.args.self.now c.hold.new.self c.in-Err.ensures.state).0

pub returns-in-Err-clause-held : goal.returns-in-Err-clause-held
returns-in-Err-clause-held g c = (not_taken g.W.PairRule.is_whole g.D.Shelf.log c.args.self.now c.hold.new.self c.in-Err.ensures.state).1

pub returns-in-Err-clause-becomes : goal.returns-in-Err-clause-becomes
returns-in-Err-clause-becomes g c = (not_taken g.W.PairRule.is_whole g.D.Shelf.log c.args.self.now c.hold.new.self c.in-Err.ensures.state).2
