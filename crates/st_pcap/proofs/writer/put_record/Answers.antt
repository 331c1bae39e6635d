use Rattle.std.proofs.Common.{subst, ap}
use Rattle.std.specs.Io.KnownBytes.{Appends}
use Rattle.st_base.specs.Records.{Rec}
use Rattle.st_base.specs.Pieces.{Puts, AppendsPrefix}
use Rattle.st_base.proofs.Putting.{prefix-more}
use Rattle.st_pcap.specs.Text.{record_head}
use Rattle.st_pcap.proofs.Writing.{puts_then}
use Rattle.st_pcap.proofs.writer.put_record.Goals as goal

pub returns-in-Ok-clause-bytes : goal.returns-in-Ok-clause-bytes
returns-in-Ok-clause-bytes g c =
    let first = subst (Appends (g.S.Sink.written c.args.sink.now) (g.S.Sink.written c.put.new.sink)) c.head_of.ensures c.in-Ok.ensures.bytes in
    let same = ap (λ (q : Rec). q.body) c.r.view_is in
    let next = subst (λ l. Puts (g.S.Sink.written c.put.new.sink) (g.S.Sink.written c.put-in-Ok.new.sink) l c.put-in-Ok.result) same c.put-in-Ok.ensures.bytes in
    puts_then _ _ _ (record_head c.args.unit c.args.r) c.args.r.body c.put-in-Ok.result first next

pub returns-in-Err-clause-bytes : goal.returns-in-Err-clause-bytes
returns-in-Err-clause-bytes g c =
    let front = subst (AppendsPrefix (g.S.Sink.written c.args.sink.now) (g.S.Sink.written c.put.new.sink)) c.head_of.ensures c.in-Err.ensures.bytes in
    prefix-more _ _ (record_head c.args.unit c.args.r) c.args.r.body front
