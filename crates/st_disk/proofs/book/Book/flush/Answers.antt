use Rattle.st_disk.proofs.Keeping.{kept_flushed}
use Rattle.st_disk.proofs.book.Book.flush.Goals as goal

pub invariant_of-self : goal.invariant_of-self
invariant_of-self c =
    let a = c.self.inside in
    kept_flushed a.start_blocks.items a.start_indexes.items c.args.kind a.calls c.push.new.self a.blocks.items a.indexes.items a.next c.push.result c.push.ensures.ok c.push.ensures.err c.self.invariant
