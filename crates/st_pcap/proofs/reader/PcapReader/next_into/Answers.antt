use Rattle.std.proofs.Common.{rules, arith, ◌≡◌, ◌+◌, length, Ok, ◌∙◌, subst, sym, ap}
use Rattle.st_pcap.specs.declared.numbers.TheConstants.{RECORD_HEAD_SIZE}
use Rattle.st_pcap.specs.Reading.{HasRead, PcapReaderView}
use Rattle.st_pcap.specs.Taking.{Took, TakesHead, TakesRecord}
use Rattle.st_pcap.specs.Checks.{GivesRecord}
use Rattle.st_pcap.proofs.Steps.{reads_more, reads_whole, stops_there}
use Rattle.st_pcap.proofs.Taking.{took-then, takes_on}
use Rattle.st_pcap.proofs.reader.PcapReader.next_into.Goals as goal

pub returns-in-Ok-Some : goal.returns-in-Ok-Some
returns-in-Ok-Some g c =
    let mid = ap (λ (p : PcapReaderView). p.taken) c.self.view_is in
    let took : c.read_record.new.taken ≡ c.self.inside.taken + RECORD_HEAD_SIZE + length c.in-Ok-Some.packet.body =
    subst (λ o. TakesRecord c.self.inside.taken c.read_record.new.taken (Ok o)) c.in-Ok-Some.field-0-is c.in-Ok-Some.ensures.takes in
    let head = subst (λ n. TakesHead c.args.self.now.phase c.args.self.now.taken n (Ok c.in-Ok.form)) (sym mid) c.in-Ok.ensures.count.takes in
    record {
      gives = λ bytes rest rs told read.
          let (here, to_come, stood) = c.in-Ok.ensures.opens bytes rest rs told read in
          let is_open = ap (λ (p : PcapReaderView). p.phase) c.self.view_is ∙ c.in-Ok.ensures.phase in
          let inside = subst (λ p. HasRead p bytes rs here) (sym c.self.view_is) stood in
          let left = g.S.Source.left c.read_record.new.source in
          let given = subst (λ o. GivesRecord c.in-Ok.form c.self.inside.taken (c.self.inside.number + 1) here left (Ok o)) c.in-Ok-Some.field-0-is (c.in-Ok-Some.ensures.gives here to_come) in
          let took = subst (λ o. Took o left c.self.inside.taken c.read_record.new.taken) to_come c.in-Ok-Some.ensures.count.taken in
          reads_more c.self.inside.phase c.in-Ok.form c.self.inside.taken c.self.inside.number c.read_record.new.taken bytes here rs c.in-Ok-Some.packet left is_open inside given took;
      goes = search rules;
      stops = tt;
      again = search rules;
      count = record {
        taken = took-then _ _ _ _ c.open.new.self.taken _ c.in-Ok.ensures.count.later (omega (arith, mid, c.in-Ok-Some.ensures.count.later)) c.in-Ok.ensures.count.taken (subst (λ n. Took (g.S.Source.left c.open.new.source) (g.S.Source.left c.read_record.new.source) n c.read_record.new.taken) mid c.in-Ok-Some.ensures.count.taken);
        later = omega (arith, mid, c.in-Ok-Some.ensures.count.later);
        grows = omega (arith, mid, took);
        bound = c.in-Ok-Some.ensures.count.bound;
      };
      takes = takes_on _ _ c.self.inside.taken _ c.in-Ok.form _ head took;
      limit = search rules;
      memory = search rules;
      cause = search rules;
      rest = search rules;
    }

pub returns-in-Ok-None : goal.returns-in-Ok-None
returns-in-Ok-None g c =
    let mid = ap (λ (p : PcapReaderView). p.taken) c.self.view_is in
    let head = subst (λ n. TakesHead c.args.self.now.phase c.args.self.now.taken n (Ok c.in-Ok.form)) (sym mid) c.in-Ok.ensures.count.takes in
    record {
      gives = λ bytes rest rs told read.
          let (here, to_come, stood) = c.in-Ok.ensures.opens bytes rest rs told read in
          let is_open = ap (λ (p : PcapReaderView). p.phase) c.self.view_is ∙ c.in-Ok.ensures.phase in
          let inside = subst (λ p. HasRead p bytes rs here) (sym c.self.view_is) stood in
          let left = g.S.Source.left c.read_record.new.source in
          let given = subst (λ o. GivesRecord c.in-Ok.form c.self.inside.taken (c.self.inside.number + 1) here left (Ok o)) c.in-Ok-None.field-0-is (c.in-Ok-None.ensures.gives here to_come) in
          let took = subst (λ o. Took o left c.self.inside.taken c.read_record.new.taken) to_come c.in-Ok-None.ensures.count.taken in
          reads_whole c.self.inside.phase c.in-Ok.form c.self.inside.taken c.self.inside.number c.read_record.new.taken bytes here rs left is_open inside given took;
      goes = search rules;
      stops = tt;
      again = search rules;
      count = record {
        taken = took-then _ _ _ _ c.open.new.self.taken _ c.in-Ok.ensures.count.later (omega (arith, mid, c.in-Ok-None.ensures.count.later)) c.in-Ok.ensures.count.taken (subst (λ n. Took (g.S.Source.left c.open.new.source) (g.S.Source.left c.read_record.new.source) n c.read_record.new.taken) mid c.in-Ok-None.ensures.count.taken);
        later = omega (arith, mid, c.in-Ok-None.ensures.count.later);
        grows = tt;
        bound = c.in-Ok-None.ensures.count.bound;
      };
      takes = takes_on _ _ c.self.inside.taken _ c.in-Ok.form _ head (subst (λ o. TakesRecord c.self.inside.taken c.read_record.new.taken (Ok o)) c.in-Ok-None.field-0-is c.in-Ok-None.ensures.takes);
      limit = search rules;
      memory = search rules;
      cause = search rules;
      rest = search rules;
    }

pub returns-in-Err-read_record : goal.returns-in-Err-read_record
returns-in-Err-read_record g c =
    let mid = ap (λ (p : PcapReaderView). p.taken) c.self.view_is in
    let head = subst (λ n. TakesHead c.args.self.now.phase c.args.self.now.taken n (Ok c.in-Ok.form)) (sym mid) c.in-Ok.ensures.count.takes in
    record {
      gives = λ bytes rest rs told read.
          let (here, to_come, stood) = c.in-Ok.ensures.opens bytes rest rs told read in
          let is_open = ap (λ (p : PcapReaderView). p.phase) c.self.view_is ∙ c.in-Ok.ensures.phase in
          let inside = subst (λ p. HasRead p bytes rs here) (sym c.self.view_is) stood in
          let left = g.S.Source.left c.read_record.new.source in
          stops_there c.self.inside.phase c.in-Ok.form c.self.inside.taken c.self.inside.number bytes here rs (g.S.Source.left c.read_record.new.source) c.in-Err-read_record.error is_open inside
          (c.in-Err-read_record.ensures.gives here to_come);
      goes = tt;
      stops = search rules;
      again = search rules;
      count = record {
        taken = took-then _ _ _ _ c.open.new.self.taken _ c.in-Ok.ensures.count.later (omega (arith, mid, c.in-Err-read_record.ensures.count.later)) c.in-Ok.ensures.count.taken (subst (λ n. Took (g.S.Source.left c.open.new.source) (g.S.Source.left c.read_record.new.source) n c.read_record.new.taken) mid c.in-Err-read_record.ensures.count.taken);
        later = omega (arith, mid, c.in-Err-read_record.ensures.count.later);
        grows = tt;
        bound = c.in-Err-read_record.ensures.count.bound;
      };
      takes = takes_on _ _ c.self.inside.taken _ c.in-Ok.form _ head c.in-Err-read_record.ensures.takes;
      limit = search rules;
      memory = search rules;
      cause = search rules;
      rest = search rules;
    }
