use Rattle.std.proofs.Common.{rules, ◌+◌, ◌++◌, ℕ, refl, sym, ap, ◌∙◌, arith}
use Rattle.st_spool.specs.States.{SpoolView}
use Rattle.st_load.specs.Acts.{events_of}
use Rattle.st_load.specs.declared.filling.Filled.TheVariants.{Ready, Ended}
use Rattle.st_load.proofs.Coming.{come_first, come_at, comes_at, failure_stops, finish_stops, fault_stops}
use Rattle.st_load.proofs.Going.{failure_fill}
use Rattle.st_load.proofs.Rounds.{round_none, round_keeps, round_fails, round_long, round_next, round_stops, round_last, round_ends}
use Rattle.st_load.proofs.loading.load_pairs.Goals as goal

pub pairs-init : goal.pairs-init
pairs-init g c = record {
  job = λ log earlier h f known stands. round_none c.args.spool.now.state.limit c.args.layout (g.D.Shelf.log c.args.spool.now.shelf) log c.args.spool.now.state earlier h f _ _ c.args.reader.now _ c.args.first known stands c.requires.running;
  input = λ bytes read. come_first c.args.layout.size bytes c.args.first c.args.reader.now (g.S.Source.left c.args.source.now) read;
  runs = c.requires.running;
  state = (refl, refl);
  going = c.requires.going.0;
  number = c.requires.going.1;
  later = omega arith;
  read = refl;
  write = refl;
  id = refl;
  loans = refl;
  source = refl;
  out = refl;
}

pub returns-in-Err-clause-job : goal.returns-in-Err-clause-job
returns-in-Err-clause-job g c = λ log earlier h f known stands.
    let s = round_keeps g.D.Shelf.log c.pairs.spool c.open_lane.new.spool _ _ _ _ earlier h f _ _ _ _ _ _ _ (c.pairs.invariant.job log earlier h f known stands) c.pairs.invariant.runs c.in-Err.ensures.keeps in
    let runs = ap (λ (v : SpoolView g.row.D.Denot). v.state.halted) c.in-Err.ensures.keeps.state ∙ c.pairs.invariant.runs in
    round_fails _ _ _ _ earlier h f _ _ _ _ _ _ c.pairs.reader _ _ _ s c.in-Err.end runs c.pairs.invariant.going (failure_fill c.in-Err.end c.in-Err.ensures.failed)

pub pairs-preserved : goal.pairs-preserved
pairs-preserved g c = record {
  job = λ log earlier h f known stands.
      let s = round_keeps g.D.Shelf.log c.pairs.spool c.open_lane.new.spool _ _ _ _ earlier h f _ _ _ _ _ _ _ (c.pairs.invariant.job log earlier h f known stands) c.pairs.invariant.runs c.open_lane.ensures.keeps in
      let lim = ap (λ (v : SpoolView g.row.D.Denot). v.state.limit) c.open_lane.ensures.keeps.state ∙ c.pairs.invariant.state.0 in
      let empty = c.in-Ok.ensures.empty s.log s.is in
      round_next _ c.args.layout _ _ earlier h f _ _ _ c.open_lane.new.spool.state _ _ c.pairs.reader (g.S.Source.left c.pairs.source) c.pairs.first c.pairs.number s g.D.Draft.Sink.written c.fill.new.lane
      (c.fill.ensures.rest.0.2 ∙ c.in-Ok.ensures.new.size) (c.fill.ensures.rest.0.3 ∙ c.in-Ok.ensures.new.most) c.pairs.invariant.going lim
      _ c.finish.new.spool.state _ _ c.fill.new.reader (g.S.Source.left c.fill.new.source) c.in-Ready.next c.records-number.result c.records-number.ensures (c.in-Ready.ensures.fills empty)
      (λ rs has. c.in-Ok-finish.ensures.finishes s.log earlier (h ++ events_of s.acts) f rs s.is s.stands has);
  input = λ bytes read.
      come_at c.args.layout.size (c.pairs.number + c.fill.new.lane.filling.records) (c.pairs.number + c.records-number.result) bytes c.in-Ready.next c.fill.new.reader (g.S.Source.left c.fill.new.source)
      (ap (λ (n : ℕ). c.pairs.number + n) (sym c.records-number.ensures))
      (comes_at c.in-Ok.lane.filling.size c.args.layout.size c.pairs.number (c.pairs.number + c.fill.new.lane.filling.records) bytes c.pairs.first c.pairs.reader c.fill.new.reader (g.S.Source.left c.pairs.source) (g.S.Source.left c.fill.new.source)
      (Ready c.in-Ready.next) c.in-Ok.ensures.new.size (c.in-Ready.ensures.input bytes) (c.pairs.invariant.input bytes read));
  runs = search rules;
  state = search rules;
  going = search rules;
  number = search rules;
  later = search rules;
  read = search rules;
  write = search rules;
  id = search rules;
  loans = search rules;
  source = search rules;
  out = search rules;
}

pub returns-in-Err-finish-clause-job : goal.returns-in-Err-finish-clause-job
returns-in-Err-finish-clause-job g c = λ log earlier h f known stands.
    let s = round_keeps g.D.Shelf.log c.pairs.spool c.open_lane.new.spool _ _ _ _ earlier h f _ _ _ _ _ _ _ (c.pairs.invariant.job log earlier h f known stands) c.pairs.invariant.runs c.open_lane.ensures.keeps in
    let lim = ap (λ (v : SpoolView g.row.D.Denot). v.state.limit) c.open_lane.ensures.keeps.state ∙ c.pairs.invariant.state.0 in
    let empty = c.in-Ok.ensures.empty s.log s.is in
    round_stops _ c.args.layout _ _ earlier h f _ _ _ c.open_lane.new.spool.state _ _ c.pairs.reader (g.S.Source.left c.pairs.source) c.pairs.first c.pairs.number s g.D.Draft.Sink.written c.fill.new.lane
    (c.fill.ensures.rest.0.2 ∙ c.in-Ok.ensures.new.size) (c.fill.ensures.rest.0.3 ∙ c.in-Ok.ensures.new.most) c.pairs.invariant.going lim
    _ c.finish.new.spool.state _ _ c.fill.new.reader (g.S.Source.left c.fill.new.source) c.in-Ready.next c.in-Err-finish.end c.in-Ready.ensures.leaves.2 (c.in-Ready.ensures.fills empty)
    (λ rs has. c.in-Err-finish.ensures.finishes s.log earlier (h ++ events_of s.acts) f rs s.is s.stands has)

pub returns-then-records-eq0-clause-job : goal.returns-then-records-eq0-clause-job
returns-then-records-eq0-clause-job g c = λ log earlier h f known stands.
    let one = round_keeps g.D.Shelf.log c.pairs.spool c.open_lane.new.spool _ _ _ _ earlier h f _ _ _ _ _ _ _ (c.pairs.invariant.job log earlier h f known stands) c.pairs.invariant.runs c.open_lane.ensures.keeps in
    let runs = ap (λ (v : SpoolView g.row.D.Denot). v.state.halted) c.open_lane.ensures.keeps.state ∙ c.pairs.invariant.runs in
    let now = ap (λ (v : SpoolView g.row.D.Denot). v.state.halted) c.give_up.ensures.keeps.state ∙ runs in
    let s = round_keeps g.D.Shelf.log c.open_lane.new.spool c.give_up.new.spool _ _ _ _ earlier h f _ _ _ _ _ _ _ one runs c.give_up.ensures.keeps in
    let empty = c.in-Ok.ensures.empty one.log one.is in
    round_long _ c.args.layout _ _ earlier h f _ _ _ c.give_up.new.spool.state _ _ c.pairs.reader (g.S.Source.left c.pairs.source) c.pairs.first c.pairs.number s g.D.Draft.Sink.written c.fill.new.lane
    (c.fill.ensures.rest.0.2 ∙ c.in-Ok.ensures.new.size) (c.fill.ensures.rest.0.3 ∙ c.in-Ok.ensures.new.most) c.pairs.invariant.going
    c.fill.new.reader (g.S.Source.left c.fill.new.source) c.in-Ended.end now (sym c.records.ensures ∙ c.if-records-eq0.true) c.in-Ended.ensures.leaves.1 (c.in-Ended.ensures.fills empty)

pub returns-in-Ok-finish-2-clause-job : goal.returns-in-Ok-finish-2-clause-job
returns-in-Ok-finish-2-clause-job g c = λ log earlier h f known stands.
    let s = round_keeps g.D.Shelf.log c.pairs.spool c.open_lane.new.spool _ _ _ _ earlier h f _ _ _ _ _ _ _ (c.pairs.invariant.job log earlier h f known stands) c.pairs.invariant.runs c.open_lane.ensures.keeps in
    let lim = ap (λ (v : SpoolView g.row.D.Denot). v.state.limit) c.open_lane.ensures.keeps.state ∙ c.pairs.invariant.state.0 in
    let empty = c.in-Ok.ensures.empty s.log s.is in
    round_last _ c.args.layout _ _ earlier h f _ _ _ c.open_lane.new.spool.state _ _ c.pairs.reader (g.S.Source.left c.pairs.source) c.pairs.first c.pairs.number s g.D.Draft.Sink.written c.fill.new.lane
    (c.fill.ensures.rest.0.2 ∙ c.in-Ok.ensures.new.size) (c.fill.ensures.rest.0.3 ∙ c.in-Ok.ensures.new.most) c.pairs.invariant.going lim
    _ c.finish-in-Ended.new.spool.state _ _ c.fill.new.reader (g.S.Source.left c.fill.new.source) c.in-Ended.end (c.in-Ok-finish-2.ensures.state.1 (λ is. cc)) (λ none. c.if-records-eq0.false (c.records.ensures ∙ none)) c.in-Ended.ensures.leaves.1 (c.in-Ended.ensures.fills empty)
    (λ rs has. c.in-Ok-finish-2.ensures.finishes s.log earlier (h ++ events_of s.acts) f rs s.is s.stands has)

pub returns-in-Err-finish-2-clause-job : goal.returns-in-Err-finish-2-clause-job
returns-in-Err-finish-2-clause-job g c = λ log earlier h f known stands.
    let s = round_keeps g.D.Shelf.log c.pairs.spool c.open_lane.new.spool _ _ _ _ earlier h f _ _ _ _ _ _ _ (c.pairs.invariant.job log earlier h f known stands) c.pairs.invariant.runs c.open_lane.ensures.keeps in
    let lim = ap (λ (v : SpoolView g.row.D.Denot). v.state.limit) c.open_lane.ensures.keeps.state ∙ c.pairs.invariant.state.0 in
    let empty = c.in-Ok.ensures.empty s.log s.is in
    round_ends _ c.args.layout _ _ earlier h f _ _ _ c.open_lane.new.spool.state _ _ c.pairs.reader (g.S.Source.left c.pairs.source) c.pairs.first c.pairs.number s g.D.Draft.Sink.written c.fill.new.lane
    (c.fill.ensures.rest.0.2 ∙ c.in-Ok.ensures.new.size) (c.fill.ensures.rest.0.3 ∙ c.in-Ok.ensures.new.most) c.pairs.invariant.going lim
    _ c.finish-in-Ended.new.spool.state _ _ c.fill.new.reader (g.S.Source.left c.fill.new.source) c.in-Ended.end c.in-Err-finish-2.failed (λ none. c.if-records-eq0.false (c.records.ensures ∙ none)) (c.in-Ended.ensures.fills empty)
    (λ rs has. c.in-Err-finish-2.ensures.finishes s.log earlier (h ++ events_of s.acts) f rs s.is s.stands has)

pub returns-in-Failed-clause-job : goal.returns-in-Failed-clause-job
returns-in-Failed-clause-job g c = λ log earlier h f known stands.
    let one = round_keeps g.D.Shelf.log c.pairs.spool c.open_lane.new.spool _ _ _ _ earlier h f _ _ _ _ _ _ _ (c.pairs.invariant.job log earlier h f known stands) c.pairs.invariant.runs c.open_lane.ensures.keeps in
    let runs = ap (λ (v : SpoolView g.row.D.Denot). v.state.halted) c.open_lane.ensures.keeps.state ∙ c.pairs.invariant.runs in
    let now = ap (λ (v : SpoolView g.row.D.Denot). v.state.halted) c.give_up-in-Failed.ensures.keeps.state ∙ runs in
    let s = round_keeps g.D.Shelf.log c.open_lane.new.spool c.give_up-in-Failed.new.spool _ _ _ _ earlier h f _ _ _ _ _ _ _ one runs c.give_up-in-Failed.ensures.keeps in
    round_fails _ _ _ _ earlier h f _ _ _ _ _ _ c.pairs.reader _ _ _ s c.in-Failed.end now c.pairs.invariant.going c.in-Failed.ensures.leaves

pub returns-in-Err-clause-input : goal.returns-in-Err-clause-input
returns-in-Err-clause-input g c = λ bytes read. failure_stops c.args.layout.size bytes c.in-Err.end c.in-Err.ensures.failed

pub returns-in-Err-finish-clause-input : goal.returns-in-Err-finish-clause-input
returns-in-Err-finish-clause-input g c = λ bytes read. finish_stops c.args.layout.size bytes c.in-Err-finish.end c.in-Err-finish.ensures.failed

pub returns-then-records-eq0-clause-input : goal.returns-then-records-eq0-clause-input
returns-then-records-eq0-clause-input g c = λ bytes read.
    comes_at c.in-Ok.lane.filling.size c.args.layout.size c.pairs.number (c.pairs.number + c.fill.new.lane.filling.records) bytes c.pairs.first c.pairs.reader c.fill.new.reader (g.S.Source.left c.pairs.source) (g.S.Source.left c.fill.new.source)
    (Ended c.in-Ended.end) c.in-Ok.ensures.new.size (c.in-Ended.ensures.input bytes) (c.pairs.invariant.input bytes read)

pub returns-in-Ok-finish-2-clause-input : goal.returns-in-Ok-finish-2-clause-input
returns-in-Ok-finish-2-clause-input g c = λ bytes read.
    comes_at c.in-Ok.lane.filling.size c.args.layout.size c.pairs.number (c.pairs.number + c.fill.new.lane.filling.records) bytes c.pairs.first c.pairs.reader c.fill.new.reader (g.S.Source.left c.pairs.source) (g.S.Source.left c.fill.new.source)
    (Ended c.in-Ended.end) c.in-Ok.ensures.new.size (c.in-Ended.ensures.input bytes) (c.pairs.invariant.input bytes read)

pub returns-in-Err-finish-2-clause-input : goal.returns-in-Err-finish-2-clause-input
returns-in-Err-finish-2-clause-input g c = λ bytes read. finish_stops c.args.layout.size bytes c.in-Err-finish-2.failed c.in-Err-finish-2.ensures.failed

pub returns-in-Failed-clause-input : goal.returns-in-Failed-clause-input
returns-in-Failed-clause-input g c = λ bytes read. fault_stops c.args.layout.size bytes c.in-Failed.end c.in-Failed.ensures.leaves
