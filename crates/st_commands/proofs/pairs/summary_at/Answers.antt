use Rattle.st_commands.specs.Commands.{KeepsSpool}
use Rattle.st_commands.proofs.Staying.{kept_then, one_back}
use Rattle.st_commands.proofs.pairs.summary_at.Goals as goal

pub returns-clause-says : goal.returns-clause-says
returns-clause-says g c = λ log earlier h f e after known stands is.
    c.summary_in-said.ensures.says e.block e.index (c.in-Ok.ensures.content log earlier h f e after known stands is)

pub returns-clause-stays : goal.returns-clause-stays
returns-clause-stays g c =
    let D = g.D.Shelf in
    let one : KeepsSpool D.log D.id D.faults c.args.spool.now c.index_of.new.self =
    record { keeps = c.index_of.ensures.keeps; state = c.index_of.ensures.state; id_is = c.index_of.ensures.id; later = c.index_of.ensures.cause.later } in
    let two : KeepsSpool D.log D.id D.faults c.index_of.new.self c.close_file.new.self =
    record { keeps = c.close_file.ensures.keeps; state = c.close_file.ensures.state; id_is = c.close_file.ensures.id; later = c.close_file.ensures.cause.later } in
    record {
      kept = kept_then D.log D.id D.faults _ _ _ one two;
      back = one_back (D.loans c.args.spool.now.shelf) (D.loans c.index_of.new.self.shelf) (D.loans c.close_file.new.self.shelf) _ _ _ c.in-Ok.ensures.lent.5 c.close_file.ensures.loans;
    }
