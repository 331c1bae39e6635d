use Rattle.std.proofs.Common.{arith}
use Rattle.st_disk.proofs.Keeping.{makes_higher}
use Rattle.st_disk.proofs.book.Book.change.Goals as goal

pub invariant_of-self : goal.invariant_of-self
invariant_of-self c =
    let a = c.self.inside in
    c.record_in.ensures.kept a.start_blocks.items a.start_indexes.items a.next a.next (omega arith) (makes_higher 0 a.next c.args.change (omega arith) c.requires) c.self.invariant
