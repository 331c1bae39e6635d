use Rattle.std.proofs.Common.{◌≡◌, ◌≤◌, ◌+◌, ◌-◌, length, drop}
use Rattle.std.specs.Prelude.{nat_eq}
use Rattle.std.specs.List.{common_prefix_len}
use Rattle.st_tblock.proofs.prefix.common.Given as goal

abbrev pub decreases-bytes : goal.decreases-bytes
decreases-bytes l = length l.last - l.shared

abbrev pub invariant-bytes : goal.invariant-bytes
invariant-bytes l = record {
  last : l.shared ≤ length l.last;
  key : l.shared ≤ length l.key;
  same : l.shared + common_prefix_len nat_eq (drop l.shared l.last) (drop l.shared l.key) ≡ common_prefix_len nat_eq l.last l.key;
}
