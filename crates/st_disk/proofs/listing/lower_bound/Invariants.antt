use Rattle.std.proofs.Common.{◌<◌, ◌≤◌, ◌-◌, ℕ, get_or, length}
use Rattle.st_disk.specs.declared.naming.Name.{Name}
use Rattle.st_disk.specs.Names.{Before}
use Rattle.st_disk.proofs.listing.lower_bound.Given as goal

abbrev pub invariant-names : goal.invariant-names
invariant-names l = record {
  bound : l.i ≤ length l.names;
  before : (k : ℕ) (d : Name) → k < l.i → Before (get_or l.names k d) l.name;
}

abbrev pub decreases-names : goal.decreases-names
decreases-names l = length l.names - l.i
