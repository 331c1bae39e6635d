use Rattle.std.proofs.Common.{◌≡◌, rules, ◌∙◌, ap}
use Rattle.st_disk.specs.declared.naming.Kind.TheVariants as kind
use Rattle.st_disk.specs.Names.{kind_of}
use Rattle.st_disk.specs.Folders.{folder_of}
use Rattle.st_disk.specs.Disks.{Log, reads, log_of}
use Rattle.st_disk.proofs.Keeping.{read_block, read_index}
use Rattle.st_disk.proofs.book.Book.get.Goals as goal

pub returns-in-Block : goal.returns-in-Block
returns-in-Block c =
    let is : kind_of c.args.name ≡ kind.Block = search rules in
    let a = c.self.inside in
    c.find.ensures ∙ ap (λ ps. folder_of ps c.args.name) c.deref.ensures.value ∙ read_block (log_of a.start_blocks.items a.start_indexes.items a.calls) a.blocks.items a.indexes.items a.next c.args.name is c.self.invariant ∙ ap (λ (l : Log). reads l c.args.name) c.self.view_is

pub returns-in-Index : goal.returns-in-Index
returns-in-Index c =
    let is : kind_of c.args.name ≡ kind.Index = search rules in
    let a = c.self.inside in
    c.find-in-Index.ensures ∙ ap (λ ps. folder_of ps c.args.name) c.deref-in-Index.ensures.value ∙ read_index (log_of a.start_blocks.items a.start_indexes.items a.calls) a.blocks.items a.indexes.items a.next c.args.name is c.self.invariant ∙ ap (λ (l : Log). reads l c.args.name) c.self.view_is
