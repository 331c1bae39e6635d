use Rattle.std.proofs.Common.{◌≡◌, ◌+◌, ◌<◌, ◌≤◌, ℕ, false, get_or}
use Rattle.steno.specs.declared.packets.Packet.{Packet}
use Rattle.steno.specs.Packets.{is_earlier}
use Rattle.steno.proofs.packets.is_sorted.Given as goal

abbrev pub invariant-packets : goal.invariant-packets
invariant-packets l = (k : ℕ) (d : Packet) → 0 ≤ k → k + 1 < l.next → is_earlier (get_or l.order (k + 1) d) (get_or l.order k d) ≡ false
