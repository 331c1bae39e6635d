use Rattle.std.proofs.Common.{ap}
use Rattle.st_base.specs.Records.{Rec}
use Rattle.st_query.proofs.Matching.{in_net_by, in_net_walked}
use Rattle.st_query.proofs.matcher.is_in_net.Goals as goal

pub returns-then-packet : goal.returns-then-packet
returns-then-packet c =
    let r = c.args.packet.now.record.now in
    in_net_by c.args.net c.args.bits r c.any_in.result c.args.packet.now.keys.now (c.requires c.if-packet.true) c.any_in.ensures

pub returns-else-packet : goal.returns-else-packet
returns-else-packet c =
    let r = c.args.packet.now.record.now in
    in_net_walked c.args.net c.args.bits r c.record.inside.body.now c.walks_into.result (ap (λ (q : Rec). q.body) c.record.view_is) c.walks_into.ensures
