use Rattle.std.proofs.Common.{◌≡◌, ◌≤◌, ◌-◌, ◌++◌}
use Rattle.arrayvec.specs.ArrayVec.{array_vec_len}
use Rattle.st_tblock.specs.Varint.{groups_of}
use Rattle.st_tblock.proofs.varint.groups_text.Given as goal

abbrev pub decreases-groups : goal.decreases-groups
decreases-groups l = l.rest

abbrev pub invariant-groups : goal.invariant-groups
invariant-groups l = record {
  room : array_vec_len l.out ≤ 9;
  text : l.out.items ++ groups_of (9 - array_vec_len l.out) l.rest ≡ groups_of 9 l.fn.value;
}
