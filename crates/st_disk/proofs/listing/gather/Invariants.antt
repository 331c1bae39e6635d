use Rattle.std.proofs.Common.{◌⊎◌, length, IsSome, Contains}
use Rattle.st_disk.specs.declared.naming.Name.{Name}
use Rattle.st_disk.specs.Disks.{reads}
use Rattle.st_disk.specs.Names.{AreSorted}
use Rattle.st_disk.specs.Listing.{IsUpdated}
use Rattle.st_disk.proofs.listing.gather.Given as goal

abbrev pub invariant-updates : goal.invariant-updates
invariant-updates l = record {
  rises : AreSorted l.fn.names.items → AreSorted l.names.items;
  there : (n : Name) → Contains l.names.items n → Contains l.fn.names.items n ⊎ IsSome (reads l.book n);
  all : (n : Name) → Contains l.fn.names.items n ⊎ (IsSome (reads l.book n) × IsUpdated l.updates n) → Contains l.names.items n ⊎ (IsSome (reads l.book n) × IsUpdated l.rest n);
}

abbrev pub decreases-updates : goal.decreases-updates
decreases-updates l = length l.rest
