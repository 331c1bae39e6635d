use Rattle.std.proofs.Common.{◌∙◌}
use Rattle.st_commands.specs.Commands.{KeepsSpool}
use Rattle.st_commands.proofs.Staying.{kept_then, one_back, two_back}
use Rattle.st_commands.proofs.pairs.verdict_at.Goals as goal

pub returns-in-Err-index_of-clause-stays : goal.returns-in-Err-index_of-clause-stays
returns-in-Err-index_of-clause-stays g c =
    let D = g.D.Shelf in
    let one : KeepsSpool D.log D.id D.faults c.args.spool.now c.block_of.new.self =
    record { keeps = c.block_of.ensures.keeps; state = c.block_of.ensures.state; id_is = c.block_of.ensures.id; later = c.block_of.ensures.cause.later } in
    let two : KeepsSpool D.log D.id D.faults c.block_of.new.self c.index_of.new.self =
    record { keeps = c.index_of.ensures.keeps; state = c.index_of.ensures.state; id_is = c.index_of.ensures.id; later = c.index_of.ensures.cause.later } in
    let three : KeepsSpool D.log D.id D.faults c.index_of.new.self c.close_file.new.self =
    record { keeps = c.close_file.ensures.keeps; state = c.close_file.ensures.state; id_is = c.close_file.ensures.id; later = c.close_file.ensures.cause.later } in
    record {
      kept = kept_then D.log D.id D.faults _ _ _ (kept_then D.log D.id D.faults _ _ _ one two) three;
      back = one_back (D.loans c.args.spool.now.shelf) (D.loans c.index_of.new.self.shelf) (D.loans c.close_file.new.self.shelf) _ _ _ (c.in-Err-index_of.ensures.lent ∙ c.in-Ok.ensures.lent.5) c.close_file.ensures.loans;
    }

pub returns-in-Ok-checked-clause-judges : goal.returns-in-Ok-checked-clause-judges
returns-in-Ok-checked-clause-judges g c = λ log earlier h f e after known stands is.
    let first = c.block_of.ensures.keeps earlier h f stands in
    let run = first.images log known in
    c.in-Ok-checked.ensures.judges e.block e.index
    (c.in-Ok.ensures.content log earlier h f e after known stands is)
    (c.in-Ok-index_of.ensures.content run.log earlier h f e after run.is first.stands is)

pub returns-in-Ok-checked-clause-stays : goal.returns-in-Ok-checked-clause-stays
returns-in-Ok-checked-clause-stays g c =
    let D = g.D.Shelf in
    let one : KeepsSpool D.log D.id D.faults c.args.spool.now c.block_of.new.self =
    record { keeps = c.block_of.ensures.keeps; state = c.block_of.ensures.state; id_is = c.block_of.ensures.id; later = c.block_of.ensures.cause.later } in
    let two : KeepsSpool D.log D.id D.faults c.block_of.new.self c.index_of.new.self =
    record { keeps = c.index_of.ensures.keeps; state = c.index_of.ensures.state; id_is = c.index_of.ensures.id; later = c.index_of.ensures.cause.later } in
    let three : KeepsSpool D.log D.id D.faults c.index_of.new.self c.close_file-2.new.self =
    record { keeps = c.close_file-2.ensures.keeps; state = c.close_file-2.ensures.state; id_is = c.close_file-2.ensures.id; later = c.close_file-2.ensures.cause.later } in
    let four : KeepsSpool D.log D.id D.faults c.close_file-2.new.self c.close_file-3.new.self =
    record { keeps = c.close_file-3.ensures.keeps; state = c.close_file-3.ensures.state; id_is = c.close_file-3.ensures.id; later = c.close_file-3.ensures.cause.later } in
    record {
      kept = kept_then D.log D.id D.faults _ _ _ (kept_then D.log D.id D.faults _ _ _ one two) (kept_then D.log D.id D.faults _ _ _ three four);
      back = two_back (D.loans c.args.spool.now.shelf) (D.loans c.block_of.new.self.shelf) (D.loans c.index_of.new.self.shelf) (D.loans c.close_file-2.new.self.shelf) (D.loans c.close_file-3.new.self.shelf)
          _ _ _ _ _ _ c.in-Ok.ensures.lent.5 c.in-Ok-index_of.ensures.lent.5 c.close_file-2.ensures.loans c.close_file-3.ensures.loans;
    }

pub returns-in-Err-ReadFault-clause-stays : goal.returns-in-Err-ReadFault-clause-stays
returns-in-Err-ReadFault-clause-stays g c =
    let D = g.D.Shelf in
    let one : KeepsSpool D.log D.id D.faults c.args.spool.now c.block_of.new.self =
    record { keeps = c.block_of.ensures.keeps; state = c.block_of.ensures.state; id_is = c.block_of.ensures.id; later = c.block_of.ensures.cause.later } in
    let two : KeepsSpool D.log D.id D.faults c.block_of.new.self c.index_of.new.self =
    record { keeps = c.index_of.ensures.keeps; state = c.index_of.ensures.state; id_is = c.index_of.ensures.id; later = c.index_of.ensures.cause.later } in
    let three : KeepsSpool D.log D.id D.faults c.index_of.new.self c.close_file-2.new.self =
    record { keeps = c.close_file-2.ensures.keeps; state = c.close_file-2.ensures.state; id_is = c.close_file-2.ensures.id; later = c.close_file-2.ensures.cause.later } in
    let four : KeepsSpool D.log D.id D.faults c.close_file-2.new.self c.close_file-3.new.self =
    record { keeps = c.close_file-3.ensures.keeps; state = c.close_file-3.ensures.state; id_is = c.close_file-3.ensures.id; later = c.close_file-3.ensures.cause.later } in
    record {
      kept = kept_then D.log D.id D.faults _ _ _ (kept_then D.log D.id D.faults _ _ _ one two) (kept_then D.log D.id D.faults _ _ _ three four);
      back = two_back (D.loans c.args.spool.now.shelf) (D.loans c.block_of.new.self.shelf) (D.loans c.index_of.new.self.shelf) (D.loans c.close_file-2.new.self.shelf) (D.loans c.close_file-3.new.self.shelf)
          _ _ _ _ _ _ c.in-Ok.ensures.lent.5 c.in-Ok-index_of.ensures.lent.5 c.close_file-2.ensures.loans c.close_file-3.ensures.loans;
    }

pub returns-in-Err-NoMemory-clause-stays : goal.returns-in-Err-NoMemory-clause-stays
returns-in-Err-NoMemory-clause-stays g c =
    let D = g.D.Shelf in
    let one : KeepsSpool D.log D.id D.faults c.args.spool.now c.block_of.new.self =
    record { keeps = c.block_of.ensures.keeps; state = c.block_of.ensures.state; id_is = c.block_of.ensures.id; later = c.block_of.ensures.cause.later } in
    let two : KeepsSpool D.log D.id D.faults c.block_of.new.self c.index_of.new.self =
    record { keeps = c.index_of.ensures.keeps; state = c.index_of.ensures.state; id_is = c.index_of.ensures.id; later = c.index_of.ensures.cause.later } in
    let three : KeepsSpool D.log D.id D.faults c.index_of.new.self c.close_file-2.new.self =
    record { keeps = c.close_file-2.ensures.keeps; state = c.close_file-2.ensures.state; id_is = c.close_file-2.ensures.id; later = c.close_file-2.ensures.cause.later } in
    let four : KeepsSpool D.log D.id D.faults c.close_file-2.new.self c.close_file-3.new.self =
    record { keeps = c.close_file-3.ensures.keeps; state = c.close_file-3.ensures.state; id_is = c.close_file-3.ensures.id; later = c.close_file-3.ensures.cause.later } in
    record {
      kept = kept_then D.log D.id D.faults _ _ _ (kept_then D.log D.id D.faults _ _ _ one two) (kept_then D.log D.id D.faults _ _ _ three four);
      back = two_back (D.loans c.args.spool.now.shelf) (D.loans c.block_of.new.self.shelf) (D.loans c.index_of.new.self.shelf) (D.loans c.close_file-2.new.self.shelf) (D.loans c.close_file-3.new.self.shelf)
          _ _ _ _ _ _ c.in-Ok.ensures.lent.5 c.in-Ok-index_of.ensures.lent.5 c.close_file-2.ensures.loans c.close_file-3.ensures.loans;
    }
