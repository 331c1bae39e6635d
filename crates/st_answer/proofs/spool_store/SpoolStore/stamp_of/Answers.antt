use Rattle.st_answer.proofs.SpoolCalls.{no_call}
use Rattle.st_answer.proofs.SpoolHolds.{is_out}
use Rattle.st_answer.proofs.SpoolSets.{of_entry}
use Rattle.st_disk.specs.Pairs.{Entry}
use Rattle.std.proofs.Common.{◌≡◌}
use Rattle.st_answer.proofs.spool_store.SpoolStore.stamp_of.Goals as goal

pub stamp_of-requires-clause-held : goal.stamp_of-requires-clause-held
stamp_of-requires-clause-held g c = is_out c.args.hold.now c.args.self.now.state.holds c.requires.held

pub returns-clause-stamp : goal.returns-clause-stamp
returns-clause-stamp g c =
    of_entry g.W.PairRule.is_whole (g.D.Shelf.log c.args.self.now.shelf) c.args.self.now.state c.args.hold.now c.args.i (λ (e : Entry). c.stamp_of.result ≡ e.stamp) c.recall.ensures
    (λ log earlier h f e after known stands at. c.stamp_of.ensures earlier h f e after stands at)

pub returns-clause-stays : goal.returns-clause-stays
returns-clause-stays g c = no_call g.W.PairRule.is_whole g.D.Shelf.log g.D.Shelf.id c.args.self.now
