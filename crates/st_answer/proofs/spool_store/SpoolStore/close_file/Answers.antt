use Rattle.st_answer.proofs.SpoolCalls.{same_store}
use Rattle.st_answer.proofs.spool_store.SpoolStore.close_file.Goals as goal

pub returns-clause-stays : goal.returns-clause-stays
returns-clause-stays g c = same_store g.W.PairRule.is_whole g.D.Shelf.log g.D.Shelf.id c.args.self.now c.close_file.new.self c.recall.ensures c.close_file.ensures.keeps c.close_file.ensures.state c.close_file.ensures.id
