use Rattle.std.proofs.Common.{IsSome, ◌∙◌, ap, rules}
use Rattle.st_disk.specs.declared.naming.Name.TheVariants as name
use Rattle.st_disk.specs.Names.{published}
use Rattle.st_disk.specs.Disks.{Log, reads}
use Rattle.st_disk.proofs.Reading.{reads_settled}
use Rattle.st_disk.proofs.book.Book.settle.Goals as goal

pub returns-in-Ok-clause-there : goal.returns-in-Ok-clause-there
returns-in-Ok-clause-there c =
    let there : IsSome (reads c.args.self.now (name.Draft c.args.kind c.args.draft)) = search rules in
    ap (λ (l : Log). reads l (published c.args.kind c.args.stamp)) c.in-Ok.ensures.ok ∙ reads_settled c.args.self.now c.args.kind c.args.draft c.args.stamp c.args.bytes there
