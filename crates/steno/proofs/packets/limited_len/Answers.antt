use Rattle.std.proofs.Common.{◌≡◌, ◌<◌, length, get_or, sym, ap, subst, ◌∙◌, arith, inl, inr}
use Rattle.std.proofs.lemmas.List.{get_or_default}
use Rattle.steno.specs.declared.packets.Packet.{Packet}
use Rattle.steno.proofs.Limits.{stops-packets, goes-packets}
use Rattle.steno.proofs.packets.limited_len.Goals as goal

abbrev none : Packet
none = record { sec = 0; nsec = 0; orig = 0; len = 0; start = 0 }

pub returns-then-count-limits : goal.returns-then-count-limits
returns-then-count-limits c = λ u text lie.
    let order = c.args.order.now in
    let i = c.packets.count in
    let below = subst (λ n. n < length order) (sym c.packets.invariant.at) c.packets-test.true in
    let p = get_or order i none in
    stops-packets u text c.args.limits c.packets.room i order p lie below (get_or_default order i none p below) c.packets.invariant.few c.packets.invariant.size
    (inl c.if-count-limits.true)

pub returns-then-len-room : goal.returns-then-len-room
returns-then-len-room c = λ u text lie.
    let order = c.args.order.now in
    let i = c.packets.count in
    let below = subst (λ n. n < length order) (sym c.packets.invariant.at) c.packets-test.true in
    let p = get_or order i none in
    let len : c.from-len.result ≡ p.len = c.from-len.ensures ∙ ap (λ n. (get_or order n none).len) (sym c.packets.invariant.at) in
    stops-packets u text c.args.limits c.packets.room i order p lie below (get_or_default order i none p below) c.packets.invariant.few c.packets.invariant.size
    (inr (subst (λ n. c.packets.room < n) len c.if-len-room.true))

pub returns : goal.returns
returns c = λ u text lie.
    goes-packets u text c.args.limits c.packets.room c.packets.count c.args.order.now lie (omega arith) c.packets.invariant.few c.packets.invariant.size
