use Rattle.std.proofs.Common.{◌⊎◌, ◌↔◌, length, Contains}
use Rattle.st_disk.specs.declared.naming.Name.{Name}
use Rattle.st_disk.specs.Names.{AreSorted}
use Rattle.st_disk.proofs.listing.add_all.Given as goal

abbrev pub invariant-found : goal.invariant-found
invariant-found l = record {
  rises : AreSorted l.fn.names.items → AreSorted l.names.items;
  has : (n : Name) → (Contains l.names.items n ⊎ Contains l.rest n) ↔ (Contains l.fn.names.items n ⊎ Contains l.found n);
}

abbrev pub decreases-found : goal.decreases-found
decreases-found l = length l.rest
