use Rattle.std.proofs.Common.{◌≡◌, ◌≤◌, ◌+◌, take}
use Rattle.std.specs.List.{sum_by}
use Rattle.st_answer.specs.declared.picked.Picked.{Picked}
use Rattle.st_answer.proofs.order.within.Given as goal

abbrev pub invariant-picks : goal.invariant-picks
invariant-picks l = record {
  at : l.count ≡ l.pick-index;
  few : l.count ≤ l.limits.packets;
  size : sum_by (λ (p : Picked). p.len) (take l.count l.picked) + l.room ≡ l.limits.bytes;
}
