use Rattle.st_answer.proofs.SpoolHolds.{is_out}
use Rattle.st_answer.proofs.SpoolHolding.{release_remains, gives_back, holds_one_less}
use Rattle.st_answer.proofs.spool_store.SpoolStore.release.Goals as goal

pub returns-clause-holds : goal.returns-clause-holds
returns-clause-holds g c =
    gives_back g.W.PairRule.is_whole g.D.Shelf.log c.args.self.now c.release.new.self c.args.hold c.recall.ensures c.release.ensures.keeps c.release.ensures.without c.release.ensures.state

pub returns-clause-held : goal.returns-clause-held
returns-clause-held g c =
    holds_one_less g.W.PairRule.is_whole g.D.Shelf.log c.args.self.now c.release.new.self c.args.hold c.recall.ensures c.release.ensures.keeps c.release.ensures.without c.release.ensures.state

pub returns-clause-becomes : goal.returns-clause-becomes
returns-clause-becomes g c =
    release_remains g.W.PairRule.is_whole g.D.Shelf.log c.args.self.now c.release.new.self c.args.hold c.recall.ensures c.release.ensures.keeps c.release.ensures.without c.release.ensures.state

pub release-requires : goal.release-requires
release-requires g c = is_out c.args.hold c.args.self.now.state.holds c.requires
