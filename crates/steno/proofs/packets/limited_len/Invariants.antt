use Rattle.std.proofs.Common.{◌≡◌, ◌≤◌, ◌+◌, take}
use Rattle.std.specs.List.{sum_by}
use Rattle.steno.specs.declared.packets.Packet.{Packet}
use Rattle.steno.proofs.packets.limited_len.Given as goal

abbrev pub invariant-packets : goal.invariant-packets
invariant-packets l = record {
  at : l.count ≡ l.packet-index;
  few : l.count ≤ l.limits.packets;
  size : sum_by (λ (p : Packet). p.len) (take l.count l.order) + l.room ≡ l.limits.bytes;
}
