use Rattle.st_base.proofs.Sending.{sends_put}
use Rattle.st_base.proofs.outlets.PlainOutlet.piece.Goals as goal

pub returns-clause-sends : goal.returns-clause-sends
returns-clause-sends g c =
    sends_put (g.S.Sink.written c.args.self.now.sink.now) (g.S.Sink.written c.put.new.sink) c.args.bytes.now c.put.result c.put.ensures.bytes
