use Rattle.std.proofs.Common.{◌⊎◌, List, sym, subst, IsSome, Contains}
use Rattle.st_disk.specs.declared.naming.Name.{Name}
use Rattle.st_disk.specs.declared.changes.Update.{Update}
use Rattle.st_disk.specs.Disks.{Log, reads}
use Rattle.st_disk.specs.Book.{IsKept}
use Rattle.st_disk.specs.Names.{AreSorted}
use Rattle.st_disk.specs.Listing.{IsUpdated}
use Rattle.st_disk.proofs.Gathering.{all_listed, rises_none}
use Rattle.st_disk.proofs.book.Book.list.Goals as goal

pub returns-clause-sorted : goal.returns-clause-sorted
returns-clause-sorted c = c.in_ok-gather-2.ensures.rises (c.in_ok-gather.ensures.rises (subst AreSorted (sym c.new-items.ensures.items) rises_none))

pub returns-clause-all : goal.returns-clause-all
returns-clause-all c =
    let a = c.self.inside in
    let log = c.args.self.now in
    let kept = subst (λ (l : Log). IsKept l a.blocks.items a.indexes.items a.next) c.self.view_is c.self.invariant in
    let blocks = subst (λ (xs : List Update). (n : Name) → Contains c.new-items.result.items n ⊎ (IsSome (reads log n) × IsUpdated xs n) → Contains c.gather.new.names.items n) c.deref.ensures.value c.in_ok-gather.ensures.all in
    let indexes = subst (λ (xs : List Update). (n : Name) → Contains c.gather.new.names.items n ⊎ (IsSome (reads log n) × IsUpdated xs n) → Contains c.gather-2.new.names.items n) c.deref-2.ensures.value c.in_ok-gather-2.ensures.all in
    all_listed log a.blocks.items a.indexes.items a.next c.new-items.result.items c.gather.new.names.items c.gather-2.new.names.items c.new-items.ensures.items kept c.in_ok-gather.ensures.there blocks c.in_ok-gather-2.ensures.there indexes
