use Rattle.std.proofs.Common.{◌≡◌, Some, ap, rules}
use Rattle.st_disk.specs.declared.changes.Change.TheVariants as change
use Rattle.st_disk.specs.declared.changes.Call.TheVariants as call
use Rattle.st_disk.specs.Disks.{Log, and_then}
use Rattle.st_disk.proofs.Reading.{parks}
use Rattle.st_disk.proofs.book.Book.hide.Goals as goal

pub returns-clause-parked : goal.returns-clause-parked
returns-clause-parked c =
    let done : c.change.new.self ≡ and_then c.args.self.now (call.Did (change.Hide c.args.stamp)) = search rules in
    parks c.args.self.now (Some c.change.new.self) c.args.stamp c.requires (ap (λ (l : Log). Some l) done)
