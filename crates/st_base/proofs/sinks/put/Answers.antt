use Rattle.std.proofs.Common.{rules, subst, take}
use Rattle.std.specs.Io.KnownBytes.{Appends}
use Rattle.st_base.proofs.Putting.{appends-next}
use Rattle.st_base.proofs.sinks.put.Goals as goal

pub pieces-preserved : goal.pieces-preserved
pieces-preserved g c =
    let (within, put, later, rest) = c.pieces.invariant in
    let start = g.S.Sink.written c.args.sink.now in
    let before = g.S.Sink.written c.pieces.sink in
    let after = g.S.Sink.written c.write.new.self in
    let next = subst (λ xs. Appends before after (take c.in-Ok.taken xs)) c.split_at.ensures.back c.in-Ok.ensures.bytes in
    (search rules, appends-next start before after c.pieces.done c.in-Ok.taken c.args.bytes.now put next, search rules, search rules)
