use Rattle.std.specs.Prelude.{OnSome}
use Rattle.st_block.specs.BlockText.{IsShort}
use Rattle.std.proofs.Common.{◌≤◌, ◌++◌, ◌∷◌, [], ℕ, ◌+◌, length, sym, ap, ◌∙◌, subst, arith, inr, Ok, Err, Option}
use Rattle.st_base.specs.Records.{Rec}
use Rattle.st_lane.specs.Lane.{LaneView, Leaves as LaneLeaves, pushed_count}
use Rattle.st_lane.specs.declared.errors.Pushed.{Pushed}
use Rattle.st_lane.specs.declared.errors.LaneErr.{LaneErr}
use Rattle.st_load.specs.Filling.{HasReadTo, HasCome}
use Rattle.st_pcap.specs.Reading.{Gives}
use Rattle.st_load.proofs.Coming.{kept_short, come_more, long_comes, done_comes, stop_comes}
use Rattle.st_load.proofs.Taking.{took_more, starts, ready_fills, long_fills, done_fills, kept_has, stop_fills, same_lane}
use Rattle.st_load.proofs.filling.fill.Goals as goal

pub returns-in-Ok-Ready-clause-fills : goal.returns-in-Ok-Ready-clause-fills
returns-in-Ok-Ready-clause-fills g c = λ empty.
    let took = c.records.invariant.took empty in
    let ready = ap Ok c.in-Ok-Ready.field-0-is in
    let full = c.in-Ok-Ready.ensures.ready.0 ready in
    let ends = (c.in-Ok-Ready.ensures.ends took.rs took.has).0 ready in
    let is = subst (λ (p : Pushed). LaneLeaves c.records.lane c.push.new.self (Ok p)) c.in-Ok-Ready.field-0-is c.in-Ok-Ready.ensures.leaves.0 in
    ready_fills g.T.Sink.written (λ bytes given. HasReadTo c.args.reader.now bytes (given ++ c.args.first ∷ []) (g.S.Source.left c.args.source.now)) (λ bytes rs. HasReadTo c.records.reader bytes rs (g.S.Source.left c.records.source))
    c.args.first c.records.packet c.lend.result c.args.number c.records.lane c.push.new.self c.records.reader (g.S.Source.left c.records.source) took is c.lend.ensures.same full.others ends (λ bytes rs read. read)

pub overflow_add-number : goal.overflow_add-number
overflow_add-number g c =
    let is = subst (λ (e : LaneErr). LaneLeaves c.records.lane c.push.new.self (Err e)) c.in-Err-TooLong.field-0-is c.in-Err-TooLong.ensures.leaves.0 in
    let count = ap (λ (x : LaneView g.row.T.Denot). x.filling.records) is in
    omega (arith, c.records-in-Err-TooLong.ensures, count, c.records.invariant.number.0, c.records.invariant.number.1)

pub returns-in-Err-TooLong-clause-fills : goal.returns-in-Err-TooLong-clause-fills
returns-in-Err-TooLong-clause-fills g c = λ empty.
    let took = c.records.invariant.took empty in
    let is = subst (λ (e : LaneErr). LaneLeaves c.records.lane c.push.new.self (Err e)) c.in-Err-TooLong.field-0-is c.in-Err-TooLong.ensures.leaves.0 in
    let long = c.in-Err-TooLong.ensures.long.only c.in-Err-TooLong.len (ap Err c.in-Err-TooLong.field-0-is) in
    long_fills g.T.Sink.written (λ bytes given. HasReadTo c.args.reader.now bytes (given ++ c.args.first ∷ []) (g.S.Source.left c.args.source.now)) (λ bytes rs. HasReadTo c.records.reader bytes rs (g.S.Source.left c.records.source))
    c.args.first c.records.packet c.args.number c.records-in-Err-TooLong.result c.in-Err-TooLong.len c.records.lane c.push.new.self c.records.reader (g.S.Source.left c.records.source) took is
    (subst (λ (r : Rec). IsShort c.records.lane.filling.size r → ⊥) c.lend.ensures.same long.0) (long.1 ∙ ap (λ (r : Rec). length r.body) c.lend.ensures.same)
    c.records-in-Err-TooLong.ensures c.records.invariant.going (λ bytes rs read. read)

pub records-preserved : goal.records-preserved
records-preserved g c =
    let count = c.in-Ok-Kept.ensures.leaves.1 ∙ ap (λ (p : Pushed). pushed_count c.records.lane.filling.records (Ok p)) c.in-Ok-Kept.field-0-is in
    let grows = subst (λ (o : Option Rec). OnSome o (c.records.reader.taken + 16 ≤ c.next_into.new.self.taken)) c.in-Ok-Some.field-0-is c.in-Ok-Some.ensures.count.grows in
    record {
      took = λ empty.
          let took = c.records.invariant.took empty in
          took_more g.T.Sink.written (λ bytes given. HasReadTo c.args.reader.now bytes (given ++ c.args.first ∷ []) (g.S.Source.left c.args.source.now)) (λ bytes rs. HasReadTo c.records.reader bytes rs (g.S.Source.left c.records.source))
          (λ bytes rs. HasReadTo c.next_into.new.self bytes rs (g.S.Source.left c.next_into.new.source)) c.args.first c.records.packet c.in-Ok-Some.next c.records.lane c.push.new.self took
          (kept_has g.T.Sink.written c.records.lane c.push.new.self took.rs c.lend.result c.records.packet c.in-Ok-Kept.field-0 c.in-Ok-Kept.field-0-is c.lend.ensures.same (c.in-Ok-Kept.ensures.records took.rs took.has))
          (λ bytes rs (rest, left, has).
          subst (λ (o : Option Rec). Gives bytes rs c.next_into.new.self (g.S.Source.left c.next_into.new.source) (Ok o)) c.in-Ok-Some.field-0-is (c.in-Ok-Some.ensures.gives bytes rest rs left has));
      input = λ bytes first.
          let short = subst (λ (n : ℕ). IsShort n c.records.packet) c.records.invariant.lane.2 (kept_short c.records.lane.filling.size c.lend.result c.records.packet c.in-Ok-Kept.field-0 c.in-Ok-Kept.ensures.long c.lend.ensures.same) in
          come_more c.args.lane.now.filling.size (c.args.number + c.records.lane.filling.records) (c.args.number + c.push.new.self.filling.records) bytes c.records.packet c.in-Ok-Some.next c.records.reader c.next_into.new.self
          (g.S.Source.left c.records.source) (g.S.Source.left c.next_into.new.source) short (omega (arith, count)) (c.records.invariant.input bytes first)
          (λ rs (rest, left, has).
          subst (λ (o : Option Rec). Gives bytes rs c.next_into.new.self (g.S.Source.left c.next_into.new.source) (Ok o)) c.in-Ok-Some.field-0-is (c.in-Ok-Some.ensures.gives bytes rest rs left has));
      whole = subst (λ (p : Pushed). LaneLeaves c.records.lane c.push.new.self (Ok p)) c.in-Ok-Kept.field-0-is c.in-Ok-Kept.ensures.leaves.0;
      going = c.in-Ok-Some.ensures.goes;
      number = (omega (arith, count, grows, c.records.invariant.number.0), c.in-Ok-Some.ensures.count.bound);
      later = omega (arith, grows, c.records.invariant.later);
      progress = inr (omega (arith, grows, c.records.invariant.later));
      lane = same_lane g.T.Draft.origin c.args.lane.now c.records.lane c.push.new.self c.records.invariant.lane c.in-Ok-Kept.ensures.rest;
      block = c.in-Ok-Kept.ensures.cause.still ∙ c.records.invariant.block;
      still = c.in-Ok-Some.ensures.cause.still (λ e. cc) ∙ c.records.invariant.still;
      rest = c.in-Ok-Some.ensures.rest ∙ c.records.invariant.rest;
    }

pub returns-in-Ok-None-clause-fills : goal.returns-in-Ok-None-clause-fills
returns-in-Ok-None-clause-fills g c = λ empty.
    let took = c.records.invariant.took empty in
    done_fills g.T.Sink.written (λ bytes given. HasReadTo c.args.reader.now bytes (given ++ c.args.first ∷ []) (g.S.Source.left c.args.source.now)) (λ bytes rs. HasReadTo c.records.reader bytes rs (g.S.Source.left c.records.source))
    c.args.first c.records.packet c.args.number c.records.lane c.push.new.self c.next_into.new.self (g.S.Source.left c.next_into.new.source) took
    (kept_has g.T.Sink.written c.records.lane c.push.new.self took.rs c.lend.result c.records.packet c.in-Ok-Kept.field-0 c.in-Ok-Kept.field-0-is c.lend.ensures.same (c.in-Ok-Kept.ensures.records took.rs took.has))
    (λ bytes rs (rest, left, has).
    (subst (λ (o : Option Rec). Gives bytes rs c.next_into.new.self (g.S.Source.left c.next_into.new.source) (Ok o)) c.in-Ok-None.field-0-is (c.in-Ok-None.ensures.gives bytes rest rs left has)).0)

pub returns-in-Err-clause-fills : goal.returns-in-Err-clause-fills
returns-in-Err-clause-fills g c = λ empty.
    let took = c.records.invariant.took empty in
    let all = took.rs ++ c.records.packet ∷ [] in
    stop_fills g.T.Sink.written (λ bytes given. HasReadTo c.args.reader.now bytes (given ++ c.args.first ∷ []) (g.S.Source.left c.args.source.now)) c.args.first c.args.number c.push.new.self c.next_into.new.self (g.S.Source.left c.next_into.new.source)
    c.in-Err.error c.stopped.result all
    (kept_has g.T.Sink.written c.records.lane c.push.new.self took.rs c.lend.result c.records.packet c.in-Ok-Kept.field-0 c.in-Ok-Kept.field-0-is c.lend.ensures.same (c.in-Ok-Kept.ensures.records took.rs took.has))
    (inr (starts c.args.first c.records.packet took.rs took.from))
    (λ bytes given before.
    let (rest, left, has) = took.read bytes given before in
    c.in-Err.ensures.gives bytes rest (given ++ all) left has)
    c.stopped.ensures

pub returns-in-Ok-Ready-clause-input : goal.returns-in-Ok-Ready-clause-input
returns-in-Ok-Ready-clause-input g c = λ bytes first.
    let is = subst (λ (p : Pushed). LaneLeaves c.records.lane c.push.new.self (Ok p)) c.in-Ok-Ready.field-0-is c.in-Ok-Ready.ensures.leaves.0 in
    subst (λ (x : LaneView g.row.T.Denot). HasCome c.args.lane.now.filling.size (c.args.number + x.filling.records) bytes c.records.packet c.records.reader (g.S.Source.left c.records.source)) (sym is)
    (c.records.invariant.input bytes first)

pub returns-in-Err-TooLong-clause-input : goal.returns-in-Err-TooLong-clause-input
returns-in-Err-TooLong-clause-input g c = λ bytes first.
    let is = subst (λ (e : LaneErr). LaneLeaves c.records.lane c.push.new.self (Err e)) c.in-Err-TooLong.field-0-is c.in-Err-TooLong.ensures.leaves.0 in
    let long = c.in-Err-TooLong.ensures.long.only c.in-Err-TooLong.len (ap Err c.in-Err-TooLong.field-0-is) in
    let here = subst (λ (r : Rec). IsShort c.records.lane.filling.size r → ⊥) c.lend.ensures.same long.0 in
    let count = c.records-in-Err-TooLong.ensures ∙ ap (λ (x : LaneView g.row.T.Denot). x.filling.records) is in
    long_comes c.args.lane.now.filling.size (c.args.number + c.records.lane.filling.records) (c.args.number + c.records-in-Err-TooLong.result) c.in-Err-TooLong.len bytes c.records.packet c.records.reader (g.S.Source.left c.records.source)
    c.records.invariant.going (subst (λ (n : ℕ). IsShort n c.records.packet → ⊥) c.records.invariant.lane.2 here) (long.1 ∙ ap (λ (r : Rec). length r.body) c.lend.ensures.same)
    (ap (λ (n : ℕ). c.args.number + n) count) (c.records.invariant.input bytes first)

pub returns-in-Ok-None-clause-input : goal.returns-in-Ok-None-clause-input
returns-in-Ok-None-clause-input g c = λ bytes first.
    let come = c.records.invariant.input bytes first in
    let (rest, left, has) = come.read in
    let short = subst (λ (n : ℕ). IsShort n c.records.packet) c.records.invariant.lane.2 (kept_short c.records.lane.filling.size c.lend.result c.records.packet c.in-Ok-Kept.field-0 c.in-Ok-Kept.ensures.long c.lend.ensures.same) in
    done_comes c.args.lane.now.filling.size (c.args.number + c.records.lane.filling.records) bytes c.records.packet c.records.reader (g.S.Source.left c.records.source) short come
    (subst (λ (o : Option Rec). Gives bytes (come.before ++ c.records.packet ∷ []) c.next_into.new.self (g.S.Source.left c.next_into.new.source) (Ok o)) c.in-Ok-None.field-0-is
    (c.in-Ok-None.ensures.gives bytes rest (come.before ++ c.records.packet ∷ []) left has)).0

pub returns-in-Err-clause-input : goal.returns-in-Err-clause-input
returns-in-Err-clause-input g c = λ bytes first.
    let come = c.records.invariant.input bytes first in
    let (rest, left, has) = come.read in
    let short = subst (λ (n : ℕ). IsShort n c.records.packet) c.records.invariant.lane.2 (kept_short c.records.lane.filling.size c.lend.result c.records.packet c.in-Ok-Kept.field-0 c.in-Ok-Kept.ensures.long c.lend.ensures.same) in
    stop_comes c.args.lane.now.filling.size (c.args.number + c.records.lane.filling.records) (c.args.number + c.push.new.self.filling.records) bytes c.records.packet c.records.reader c.next_into.new.self
    (g.S.Source.left c.records.source) (g.S.Source.left c.next_into.new.source) c.in-Err.error c.stopped.result short come (c.in-Err.ensures.gives bytes rest (come.before ++ c.records.packet ∷ []) left has) c.stopped.ensures
