use Rattle.st_disk.proofs.Keeping.{kept_looked}
use Rattle.st_disk.proofs.book.Book.look.Goals as goal

pub invariant_of-self : goal.invariant_of-self
invariant_of-self c =
    let a = c.self.inside in
    kept_looked a.start_blocks.items a.start_indexes.items a.calls c.look.new.self a.blocks.items a.indexes.items a.next c.look.result c.look.ensures.ok c.look.ensures.full c.self.invariant
