use Rattle.std.proofs.Common.{◌≡◌, ◌≤◌, ◌<◌, ◌⊎◌, ℕ, get_or, Contains}
use Rattle.st_disk.specs.declared.naming.Name.{Name}
use Rattle.st_disk.specs.Names.{number_of}
use Rattle.st_spool.specs.Entering.{IsStamped}
use Rattle.st_spool.proofs.opening.last_stamp.Given as goal

abbrev pub invariant-names : goal.invariant-names
invariant-names l = record {
  above : (k : ℕ) (d : Name) → k < l.i → IsStamped (get_or l.names k d) → number_of (get_or l.names k d) ≤ l.last;
  some : (l.last ≡ 0) ⊎ ((n : Name) × IsStamped n × Contains l.names n × (number_of n ≡ l.last));
}
