use Rattle.std.proofs.Common.{IsSome, rules}
use Rattle.st_disk.specs.Disks.{reads}
use Rattle.st_disk.proofs.Gathering.{one_has}
use Rattle.st_disk.proofs.listing.gather_one.Goals as goal

pub returns-in-Some-clause-has : goal.returns-in-Some-clause-has
returns-in-Some-clause-has c =
    let there : IsSome (reads c.args.book.now c.target_name-name.result) = search rules in
    one_has c.insert_name.result c.args.names.now.items c.insert_name.new.names.items c.target_name-name.result _ (reads c.args.book.now) c.target_name-name.ensures there c.insert_name.ensures.has
