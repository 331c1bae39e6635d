use Rattle.std.proofs.Common.{◌≢◌, ◌∙◌, refl, sym, ap, subst, arith}
use Rattle.std.specs.Io.KnownBytes.{Appends}
use Rattle.st_base.specs.Pieces.{AppendsPrefix}
use Rattle.st_pcap.specs.Text.{PcapText}
use Rattle.st_plan.specs.Jobs.{Job}
use Rattle.st_query.specs.declared.errors.QueryErr.TheVariants as refusal
use Rattle.st_query.specs.Spelling.{Spells, Refuses}
use Rattle.st_answer.specs.Limited.{Limited}
use Rattle.steno.specs.Messages.{line_of}
use Rattle.steno.specs.declared.status.Status.TheVariants.{WriteFault, NoMemory}
use Rattle.steno.proofs.Asking.{asked_leaves, refused_leaves}
use Rattle.steno.proofs.Replying.{LeavesReply, stopped_leaves, stopped_says, stopped_reads, stopped_fault, stopped_other, going_says, going_reads, going_other, going_input, plain_input, query_input, stopped_input, written_leaves, failed_leaves, failed_says, memory_leaves, memory_says, reply_answers, reply_cause, reply_reads}
use Rattle.steno.proofs.once.once.Goals as goal

pub returns-in-Err-clause-job : goal.returns-in-Err-clause-job
returns-in-Err-clause-job g c = λ bytes told.
    let job = c.args.plan.now in
    let text = c.as_bytes.ensures.value ∙ ap (λ (j : Job). j.query) c.plan.view_is in
    let refuses = subst (λ t. c.in-Err.error ≢ refusal.NoMemory → Refuses t c.in-Err.error) text c.in-Err.ensures.refuses in
    (c.micros-now.result, c.micros-now.ensures, refused_leaves job c.micros-now.result bytes c.in-Err.error c.query_refused.result (g.O.Sink.written c.args.out.now) refuses c.query_refused.ensures)

pub returns-in-Err-input_ended-clause-job : goal.returns-in-Err-input_ended-clause-job
returns-in-Err-input_ended-clause-job g c = λ bytes told.
    let job = c.args.plan.now in
    let now = c.micros-now.result in
    let q = c.in-Ok.query in
    let old = g.O.Sink.written c.args.out.now in
    let report = c.in-Err-input_ended.report in
    let spelled = subst (λ t. Spells t q) (c.as_bytes.ensures.value ∙ ap (λ (j : Job). j.query) c.plan.view_is) c.in-Ok.ensures.spells in
    let left = stopped_leaves job q now bytes c.gather-gathered.result.packets.records c.gather-gathered.result.end report old (c.gather-gathered.ensures.kept bytes told) c.in-Err-input_ended.ensures in
    (now, c.micros-now.ensures, asked_leaves job q now bytes report.status (line_of report) old old spelled left)

pub returns-in-Err-sort_by_time-clause-job : goal.returns-in-Err-sort_by_time-clause-job
returns-in-Err-sort_by_time-clause-job g c = λ bytes told.
    (c.micros-now.result, c.micros-now.ensures, memory_leaves c.args.plan.now c.micros-now.result bytes (g.O.Sink.written c.args.out.now) c.plain.result c.plain.ensures)

pub returns-in-Ok-write-clause-job : goal.returns-in-Ok-write-clause-job
returns-in-Ok-write-clause-job g c = λ bytes told.
    let job = c.args.plan.now in
    let now = c.micros-now.result in
    let q = c.in-Ok.query in
    let old = g.O.Sink.written c.args.out.now in
    let new = g.O.Sink.written c.write.new.out in
    let report = c.in-Ok-input_ended.report in
    let cut = c.cut.new.self.records in
    let sorted = c.sort_by_time.new.self.records in
    let unit = c.cut.ensures.unit ∙ (c.sort_by_time.ensures.unit ∙ (c.gather-gathered.ensures.unit ∙ ap (λ (j : Job). j.unit) c.plan.view_is)) in
    let spelled = subst (λ t. Spells t q) (c.as_bytes.ensures.value ∙ ap (λ (j : Job). j.query) c.plan.view_is) c.in-Ok.ensures.spells in
    let limited = subst (λ l. Limited l sorted cut) (ap (λ (j : Job). j.limits) c.plan.view_is) c.cut.ensures.limited in
    let put = subst (λ u. Appends old new (PcapText cut u)) unit c.in-Ok-write.ensures.bytes in
    let left = written_leaves job q now bytes c.gather-gathered.result.packets.records sorted cut c.gather-gathered.result.end report old new
    (c.gather-gathered.ensures.kept bytes told) c.in-Ok-input_ended.ensures (c.in-Ok-sort_by_time.ensures.answer q now) limited put in
    (now, c.micros-now.ensures, asked_leaves job q now bytes report.status (line_of report) old new spelled left)

pub returns-clause-job : goal.returns-clause-job
returns-clause-job g c = λ bytes told.
    let job = c.args.plan.now in
    let now = c.micros-now.result in
    let q = c.in-Ok.query in
    let old = g.O.Sink.written c.args.out.now in
    let new = g.O.Sink.written c.write.new.out in
    let report = c.in-Ok-input_ended.report in
    let cut = c.cut.new.self.records in
    let sorted = c.sort_by_time.new.self.records in
    let unit = c.cut.ensures.unit ∙ (c.sort_by_time.ensures.unit ∙ (c.gather-gathered.ensures.unit ∙ ap (λ (j : Job). j.unit) c.plan.view_is)) in
    let spelled = subst (λ t. Spells t q) (c.as_bytes.ensures.value ∙ ap (λ (j : Job). j.query) c.plan.view_is) c.in-Ok.ensures.spells in
    let limited = subst (λ l. Limited l sorted cut) (ap (λ (j : Job). j.limits) c.plan.view_is) c.cut.ensures.limited in
    let put = subst (λ u. AppendsPrefix old new (PcapText cut u)) unit c.in-Err-write.ensures.bytes in
    let left = failed_leaves job q now bytes c.gather-gathered.result.packets.records sorted cut c.gather-gathered.result.end report old new
    (c.gather-gathered.ensures.kept bytes told) c.in-Ok-input_ended.ensures (c.in-Ok-sort_by_time.ensures.answer q now) limited put in
    let failed = subst (LeavesReply job q now bytes old new) (sym c.plain-in-Err-write.ensures) left in
    (now, c.micros-now.ensures, asked_leaves job q now bytes c.plain-in-Err-write.result.status (line_of c.plain-in-Err-write.result) old new spelled failed)

pub returns-in-Err-input_ended-clause-says : goal.returns-in-Err-input_ended-clause-says
returns-in-Err-input_ended-clause-says g c = reply_answers c.args.plan.now c.in-Err-input_ended.report.status (line_of c.in-Err-input_ended.report) (stopped_says c.gather-gathered.result.end c.in-Err-input_ended.report c.in-Err-input_ended.ensures)

pub returns-in-Err-input_ended-clause-asked : goal.returns-in-Err-input_ended-clause-asked
returns-in-Err-input_ended-clause-asked g c =
    let spelled = subst (λ t. Spells t c.in-Ok.query) (c.as_bytes.ensures.value ∙ ap (λ (j : Job). j.query) c.plan.view_is) c.in-Ok.ensures.spells in
    reply_cause c.args.plan.now c.in-Ok.query c.in-Err-input_ended.report.status (line_of c.in-Err-input_ended.report) spelled (stopped_says c.gather-gathered.result.end c.in-Err-input_ended.report c.in-Err-input_ended.ensures)

pub returns-in-Err-input_ended-clause-fault : goal.returns-in-Err-input_ended-clause-fault
returns-in-Err-input_ended-clause-fault g c =
    let end = c.gather-gathered.result.end in
    let report = c.in-Err-input_ended.report in
    record {
      read = λ e. c.gather-gathered.ensures.cause.fault (stopped_reads end report c.in-Err-input_ended.ensures e);
      write = λ e. absurd ((stopped_other end report c.in-Err-input_ended.ensures).1 e);
      reads = c.gather-gathered.ensures.cause.later;
      writes = omega arith;
      unread = λ other. c.gather-gathered.ensures.cause.still (λ e. other (stopped_fault end report c.in-Err-input_ended.ensures e));
      unwritten = λ other. refl;
    }

pub returns-in-Err-input_ended-clause-ended : goal.returns-in-Err-input_ended-clause-ended
returns-in-Err-input_ended-clause-ended g c = λ bytes told. stopped_input bytes (g.I.Source.left c.gather-gathered.new.input) c.gather-gathered.result.end c.in-Err-input_ended.report c.in-Err-input_ended.ensures (c.gather-gathered.ensures.ended bytes told)

pub returns-in-Err-input_ended-clause-alone : goal.returns-in-Err-input_ended-clause-alone
returns-in-Err-input_ended-clause-alone g c = record {
  unread = λ u. absurd (reply_reads c.in-Err-input_ended.report.status (line_of c.in-Err-input_ended.report) (stopped_says c.gather-gathered.result.end c.in-Err-input_ended.report c.in-Err-input_ended.ensures) u);
  unwritten = λ s. refl;
}

pub returns-in-Err-sort_by_time-clause-asked : goal.returns-in-Err-sort_by_time-clause-asked
returns-in-Err-sort_by_time-clause-asked g c =
    let spelled = subst (λ t. Spells t c.in-Ok.query) (c.as_bytes.ensures.value ∙ ap (λ (j : Job). j.query) c.plan.view_is) c.in-Ok.ensures.spells in
    reply_cause c.args.plan.now c.in-Ok.query c.plain.result.status (line_of c.plain.result) spelled (memory_says c.plain.result c.plain.ensures)

pub returns-in-Ok-write-clause-says : goal.returns-in-Ok-write-clause-says
returns-in-Ok-write-clause-says g c = reply_answers c.args.plan.now c.in-Ok-input_ended.report.status (line_of c.in-Ok-input_ended.report) (going_says c.gather-gathered.result.end c.in-Ok-input_ended.report c.in-Ok-input_ended.ensures)

pub returns-in-Ok-write-clause-asked : goal.returns-in-Ok-write-clause-asked
returns-in-Ok-write-clause-asked g c =
    let spelled = subst (λ t. Spells t c.in-Ok.query) (c.as_bytes.ensures.value ∙ ap (λ (j : Job). j.query) c.plan.view_is) c.in-Ok.ensures.spells in
    reply_cause c.args.plan.now c.in-Ok.query c.in-Ok-input_ended.report.status (line_of c.in-Ok-input_ended.report) spelled (going_says c.gather-gathered.result.end c.in-Ok-input_ended.report c.in-Ok-input_ended.ensures)

pub returns-in-Ok-write-clause-fault : goal.returns-in-Ok-write-clause-fault
returns-in-Ok-write-clause-fault g c =
    let other = going_other c.gather-gathered.result.end c.in-Ok-input_ended.report c.in-Ok-input_ended.ensures in
    record {
      read = λ e. absurd (other.0 e);
      write = λ e. absurd (other.1 e);
      reads = c.gather-gathered.ensures.cause.later;
      writes = c.in-Ok-write.ensures.cause.later;
      unread = λ _. c.gather-gathered.ensures.cause.still (going_reads c.gather-gathered.result.end c.in-Ok-input_ended.report c.in-Ok-input_ended.ensures);
      unwritten = λ _. c.in-Ok-write.ensures.cause.still;
    }

pub returns-in-Ok-write-clause-ended : goal.returns-in-Ok-write-clause-ended
returns-in-Ok-write-clause-ended g c = λ bytes told. going_input bytes (g.I.Source.left c.gather-gathered.new.input) c.gather-gathered.result.end c.in-Ok-input_ended.report c.in-Ok-input_ended.ensures (c.gather-gathered.ensures.ended bytes told)

pub returns-in-Ok-write-clause-alone : goal.returns-in-Ok-write-clause-alone
returns-in-Ok-write-clause-alone g c = record {
  unread = λ u. absurd (reply_reads c.in-Ok-input_ended.report.status (line_of c.in-Ok-input_ended.report) (going_says c.gather-gathered.result.end c.in-Ok-input_ended.report c.in-Ok-input_ended.ensures) u);
  unwritten = λ s. absurd ((going_other c.gather-gathered.result.end c.in-Ok-input_ended.report c.in-Ok-input_ended.ensures).2 s);
}

pub returns-clause-asked : goal.returns-clause-asked
returns-clause-asked g c =
    let spelled = subst (λ t. Spells t c.in-Ok.query) (c.as_bytes.ensures.value ∙ ap (λ (j : Job). j.query) c.plan.view_is) c.in-Ok.ensures.spells in
    reply_cause c.args.plan.now c.in-Ok.query c.plain-in-Err-write.result.status (line_of c.plain-in-Err-write.result) spelled (failed_says c.plain-in-Err-write.result c.plain-in-Err-write.ensures)

pub returns-in-Err-clause-ended : goal.returns-in-Err-clause-ended
returns-in-Err-clause-ended g c = λ bytes told. query_input bytes (g.I.Source.left c.args.input.now) c.in-Err.error c.query_refused.result c.query_refused.ensures

pub returns-in-Err-sort_by_time-clause-ended : goal.returns-in-Err-sort_by_time-clause-ended
returns-in-Err-sort_by_time-clause-ended g c = λ bytes told. plain_input bytes (g.I.Source.left c.gather-gathered.new.input) c.plain.result NoMemory tt c.plain.ensures

pub returns-clause-ended : goal.returns-clause-ended
returns-clause-ended g c = λ bytes told. plain_input bytes (g.I.Source.left c.gather-gathered.new.input) c.plain-in-Err-write.result WriteFault tt c.plain-in-Err-write.ensures
