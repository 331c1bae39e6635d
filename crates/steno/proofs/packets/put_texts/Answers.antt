use Rattle.std.proofs.Common.{◌≡◌, ◌+◌, get_or, take, sym, ap, subst, ◌∙◌, arith}
use Rattle.std.proofs.lemmas.List.{get_or_default, take_all}
use Rattle.steno.specs.declared.packets.Packet.{Packet}
use Rattle.steno.specs.Packets.{end_of}
use Rattle.steno.proofs.Writing.{Owes, owes-longer, owes-next, owes-none, owes-rest}
use Rattle.steno.proofs.packets.put_texts.Goals as goal
use Rattle.steno.proofs.packets.put_texts.Goals.{then-packet-to+in-Ok, else-packet-to}

abbrev none : Packet
none = record { sec = 0; nsec = 0; orig = 0; len = 0; start = 0 }

pub returns-in-Err-clause-bytes : goal.returns-in-Err-clause-bytes
returns-in-Err-clause-bytes g c =
    owes-rest (g.O.Sink.written c.args.out.now) (g.O.Sink.written c.packets.out) (g.O.Sink.written c.put.new.sink) c.args.text.now c.packets.from c.packets.to c.args.order.now c.packets.packet-index
    c.packets.invariant.owes c.in-Err.ensures.bytes

pub packets-preserved : goal.packets-preserved
packets-preserved g c =
    let order = c.args.order.now in
    let text = c.args.text.now in
    let i = c.packets.packet-index in
    let old = g.O.Sink.written c.args.out.now in
    let mid = g.O.Sink.written c.packets.out in
    let p = get_or order i none in
    let is : p ≡ get_or order i p = get_or_default order i none p c.packets-test.true in
    let more = take (i + 1) order in
    elim c.if-packet-to.branch [
      | then-packet-to+in-Ok w ↦ record {
        low = omega (arith, w.from-is);
        high = c.requires i none c.packets-test.true;
        owes =
            subst (λ n. Owes old (g.O.Sink.written c.if-packet-to.out) text n (end_of p) more) (sym w.from-is)
            (subst (λ o. Owes old (g.O.Sink.written o) text p.start (end_of p) more) (sym w.out-is)
            (owes-next old mid (g.O.Sink.written w.put.new.sink) text c.packets.from c.packets.to order i p c.packets-test.true is c.packets.invariant.owes w.in-Ok.ensures.bytes));
        still = ap (λ o. g.O.Sink.faults o) w.out-is ∙ (w.in-Ok.ensures.cause.still ∙ c.packets.invariant.still);
        rest = ap (λ o. g.O.Sink.beside o) w.out-is ∙ (w.in-Ok.ensures.rest ∙ c.packets.invariant.rest);
      }
      | else-packet-to w ↦ record {
        low = omega (arith, w.from-is, w.if-packet-to.false, c.packets.invariant.low);
        high = c.requires i none c.packets-test.true;
        owes =
            subst (λ n. Owes old (g.O.Sink.written c.if-packet-to.out) text n (end_of p) more) (sym w.from-is)
            (subst (λ o. Owes old (g.O.Sink.written o) text c.packets.from (end_of p) more) (sym w.out-is)
            (owes-longer old mid text c.packets.from c.packets.to order i p c.packets-test.true is c.packets.invariant.low w.if-packet-to.false c.packets.invariant.owes));
        still = ap (λ o. g.O.Sink.faults o) w.out-is ∙ c.packets.invariant.still;
        rest = ap (λ o. g.O.Sink.beside o) w.out-is ∙ c.packets.invariant.rest;
      }
    ]

pub returns-clause-bytes : goal.returns-clause-bytes
returns-clause-bytes g c =
    let order = c.args.order.now in
    let text = c.args.text.now in
    let old = g.O.Sink.written c.args.out.now in
    let mid = g.O.Sink.written c.packets.out in
    owes-none old mid (g.O.Sink.written c.put-2.new.sink) text c.packets.from c.packets.to order c.put-2.result
    (subst (λ ps. Owes old mid text c.packets.from c.packets.to ps) (take_all c.packets.packet-index order c.packets-test.false) c.packets.invariant.owes) c.put-2.ensures.bytes
