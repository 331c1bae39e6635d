use Rattle.st_query.proofs.Matching.{has_by}
use Rattle.st_query.proofs.matcher.has.Goals as goal

pub returns-then-packet : goal.returns-then-packet
returns-then-packet c =
    let r = c.args.packet.now.record.now in
    has_by r.body r.sec c.args.key c.contains.result c.args.packet.now.keys.now c.requires.lasting (c.requires.keys c.if-packet.true) c.contains.ensures
