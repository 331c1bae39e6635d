use Rattle.std.proofs.Common.{map, take, sym, subst}
use Rattle.st_answer.specs.Limited.{Limited}
use Rattle.steno.specs.PacketsView.{PacketsView}
use Rattle.steno.specs.Packets.{record_of, AllLie}
use Rattle.steno.proofs.packets.Packets.cut.Goals as goal

pub returns-clause-limited : goal.returns-clause-limited
returns-clause-limited c =
    let f = record_of c.self.inside.text.items in
    let order = c.self.inside.order.items in
    let n = c.limited_len-count.result in
    let lie = subst (AllLie c.self.inside.unit c.self.inside.text.items) (sym c.as_slice.ensures.value) c.self.invariant in
    let cut = subst (λ ps. Limited c.args.limits (map f ps) (map f (take n ps))) c.as_slice.ensures.value (c.limited_len-count.ensures c.self.inside.unit c.self.inside.text.items lie) in
    subst (λ (v : PacketsView). Limited c.args.limits v.records (map f c.truncate.new.self.items)) c.self.view_is
    (subst (λ ps. Limited c.args.limits (map f order) (map f ps)) (sym c.truncate.ensures.items) cut)
