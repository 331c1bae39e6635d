use Rattle.std.proofs.Common.{rules}
use Rattle.st_disk.proofs.Keeping.{recorded_block, recorded_index}
use Rattle.st_disk.proofs.book.record_in.Goals as goal

pub returns-in-Block-clause-kept : goal.returns-in-Block-clause-kept
returns-in-Block-clause-kept c b i n m le below kept =
    recorded_block b i c.args.calls.now c.record_change.new.calls c.args.blocks.now.items c.record_change.new.updates.items c.args.indexes.now.items n m c.args.change c.record_change.result (search rules) c.record_change.ensures.calls c.record_change.ensures.updates c.record_change.ensures.err le below kept

pub returns-in-Index-clause-kept : goal.returns-in-Index-clause-kept
returns-in-Index-clause-kept c b i n m le below kept =
    recorded_index b i c.args.calls.now c.record_change-in-Index.new.calls c.args.blocks.now.items c.args.indexes.now.items c.record_change-in-Index.new.updates.items n m c.args.change c.record_change-in-Index.result (search rules) c.record_change-in-Index.ensures.calls c.record_change-in-Index.ensures.updates c.record_change-in-Index.ensures.err le below kept
