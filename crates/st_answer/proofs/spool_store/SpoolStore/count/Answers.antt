use Rattle.st_answer.proofs.SpoolCalls.{no_call}
use Rattle.st_answer.proofs.SpoolHolds.{is_out}
use Rattle.st_answer.proofs.SpoolSets.{set_of_size}
use Rattle.st_answer.proofs.spool_store.SpoolStore.count.Goals as goal

pub count-requires : goal.count-requires
count-requires g c = is_out c.args.hold.now c.args.self.now.state.holds c.requires

pub returns-clause-set : goal.returns-clause-set
returns-clause-set g c =
    set_of_size g.W.PairRule.is_whole (g.D.Shelf.log c.args.self.now.shelf) c.args.self.now.state c.args.hold.now c.recall.ensures (is_out c.args.hold.now c.args.self.now.state.holds c.requires)

pub returns-clause-stays : goal.returns-clause-stays
returns-clause-stays g c = no_call g.W.PairRule.is_whole g.D.Shelf.log g.D.Shelf.id c.args.self.now
