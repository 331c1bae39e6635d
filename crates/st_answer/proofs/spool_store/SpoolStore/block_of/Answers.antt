use Rattle.std.proofs.Common.{◌≡◌, Some}
use Rattle.st_disk.specs.Pairs.{Entry}
use Rattle.st_answer.proofs.SpoolCalls.{same_store}
use Rattle.st_answer.proofs.SpoolHolds.{is_out}
use Rattle.st_answer.proofs.SpoolSets.{of_entry}
use Rattle.st_answer.proofs.spool_store.SpoolStore.block_of.Goals as goal

pub block_of-requires-clause-held : goal.block_of-requires-clause-held
block_of-requires-clause-held g c = is_out c.args.hold.now c.args.self.now.state.holds c.requires.held

pub returns-in-Ok-clause-content : goal.returns-in-Ok-clause-content
returns-in-Ok-clause-content g c =
    of_entry g.W.PairRule.is_whole (g.D.Shelf.log c.args.self.now.shelf) c.args.self.now.state c.args.hold.now c.args.i (λ (e : Entry). g.D.File.Reader.content c.in-Ok.file ≡ Some e.block) c.recall.ensures
    (λ log earlier h f e after known stands at. c.in-Ok.ensures.content log earlier h f e after known stands at)

pub returns-in-Ok-clause-stays : goal.returns-in-Ok-clause-stays
returns-in-Ok-clause-stays g c = same_store g.W.PairRule.is_whole g.D.Shelf.log g.D.Shelf.id c.args.self.now c.block_of.new.self c.recall.ensures c.block_of.ensures.keeps c.block_of.ensures.state c.block_of.ensures.id

pub returns-in-Err-clause-stays : goal.returns-in-Err-clause-stays
returns-in-Err-clause-stays g c = same_store g.W.PairRule.is_whole g.D.Shelf.log g.D.Shelf.id c.args.self.now c.block_of.new.self c.recall.ensures c.block_of.ensures.keeps c.block_of.ensures.state c.block_of.ensures.id
