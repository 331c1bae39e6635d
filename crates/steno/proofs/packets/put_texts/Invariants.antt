use Rattle.std.proofs.Common.{◌≡◌, ◌≤◌, length, take}
use Rattle.steno.proofs.Writing.{Owes}
use Rattle.steno.proofs.packets.put_texts.Given as goal

abbrev pub invariant-packets : goal.invariant-packets
invariant-packets g l = record {
  low : l.from ≤ l.to;
  high : l.to ≤ length l.text;
  owes : Owes (g.O.Sink.written l.fn.out) (g.O.Sink.written l.out) l.text l.from l.to (take l.packet-index l.order);
  still : g.O.Sink.faults l.out ≡ g.O.Sink.faults l.fn.out;
  rest : g.O.Sink.beside l.out ≡ g.O.Sink.beside l.fn.out;
}
