use Rattle.st_disk.proofs.Keeping.{kept_nothing}
use Rattle.st_disk.proofs.book.Book.empty.Goals as goal

pub invariant_of-result : goal.invariant_of-result
invariant_of-result c =
    kept_nothing c.new.result.items c.new-2.result.items c.new-3.result c.new-4.result.items c.new-5.result.items c.new.ensures.items c.new-2.ensures.items c.new-3.ensures c.new-4.ensures.items c.new-5.ensures.items
