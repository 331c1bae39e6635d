use Rattle.std.proofs.Common.{arith, length-take-le}
use Rattle.st_pcap.proofs.Heads.{form_given}
use Rattle.st_pcap.proofs.records.read_form.Goals as goal

pub returns-in-Ok-clause-gives : goal.returns-in-Ok-clause-gives
returns-in-Ok-clause-gives g c = λ bytes told.
    let came = c.in-Ok.ensures.came in
    let size = length-take-le c.in-Ok.have c.take_bytes.new.out came.0 in
    form_given _ _ bytes _ c.form_in.result told (omega arith) came.2 (λ short. came.3 (omega arith)) c.form_in.ensures.checks
