use Rattle.std.proofs.Common.{inr, ◌∙◌, ap, sym, length, arith}
use Rattle.st_table.specs.TableFile.{footer_at}
use Rattle.st_table.specs.Cursor.{CursorView}
use Rattle.st_table.proofs.Advancing.{passes_still, passes_on, row_taken, none_left, next_refused}
use Rattle.st_table.proofs.Stepping.{goes_taken, goes_on, goes_still, skips_same, refuses_same}
use Rattle.st_table.proofs.cursor.step_in.Goals as goal

pub returns-in-Some-clause-steps : goal.returns-in-Some-clause-steps
returns-in-Some-clause-steps g c = λ bytes index known d. (
  goes_taken (footer_at bytes) bytes index c.args.cursor.now c.steps.cursor c.take_row.new.self c.in-Some.row (c.steps.invariant.goes bytes index known d) c.in-Some.ensures,
  skips_same (footer_at bytes) bytes index c.args.cursor.now c.steps.cursor c.take_row.new.self (ap (λ (q : CursorView). q.next) (sym c.in-Some.ensures)) (c.steps.invariant.skips bytes index known d),
)

pub returns-in-Some-clause-advances : goal.returns-in-Some-clause-advances
returns-in-Some-clause-advances g c =
    row_taken (length c.args.entries.now) (g.R.Reader.extent c.args.file.now) (g.R.Reader.reads c.args.file.now) (g.R.Reader.reads c.steps.file) c.args.cursor.now c.steps.cursor c.take_row.new.self c.in-Some.row c.steps.invariant.passes c.in-Some.ensures

pub returns-then-is_done-clause-advances : goal.returns-then-is_done-clause-advances
returns-then-is_done-clause-advances g c =
    let n = c.in_default.ensures in
    none_left (length c.args.entries.now) (g.R.Reader.extent c.args.file.now) (g.R.Reader.reads c.args.file.now) (g.R.Reader.reads c.steps.file) c.args.cursor.now c.take_row.new.self
    (passes_still (length c.args.entries.now) (g.R.Reader.extent c.args.file.now) (g.R.Reader.reads c.args.file.now) (g.R.Reader.reads c.steps.file) c.args.cursor.now c.steps.cursor c.take_row.new.self c.steps.invariant.passes n.1)
    (ap (λ (q : CursorView). q.rows) n.1 ∙ n.0)

pub returns-in-Err-clause-advances : goal.returns-in-Err-clause-advances
returns-in-Err-clause-advances g c =
    let n = c.in_default.ensures in
    let still = c.in-Err.ensures.err in
    next_refused (length c.args.entries.now) (g.R.Reader.extent c.args.file.now) (g.R.Reader.reads c.args.file.now) (g.R.Reader.reads c.steps.file) (g.R.Reader.reads c.fill.new.file) c.args.cursor.now c.fill.new.self c.in-Err.error
    (passes_still (length c.args.entries.now) (g.R.Reader.extent c.args.file.now) (g.R.Reader.reads c.args.file.now) (g.R.Reader.reads c.steps.file) c.args.cursor.now c.steps.cursor c.fill.new.self c.steps.invariant.passes (still ∙ n.1))
    (ap (λ (q : CursorView). q.rows) (still ∙ n.1) ∙ n.0) c.in-Err.ensures.reads

pub steps-preserved : goal.steps-preserved
steps-preserved g c =
    let here = c.steps.invariant.same in
    let on = c.in-Ok.ensures.same in
    record {
      still = c.in-Ok.ensures.cause.still ∙ c.steps.invariant.still;
      same = record { content = on.content ∙ here.content; extent = on.extent ∙ here.extent; beside = on.beside ∙ here.beside };
      passes =
          let n = c.in_default.ensures in
          let few = c.in-Ok.ensures.few in
          let extent = here.extent in
          passes_on (length c.args.entries.now) (g.R.Reader.extent c.args.file.now) (g.R.Reader.reads c.args.file.now) (g.R.Reader.reads c.steps.file) (g.R.Reader.reads c.fill.new.file) c.args.cursor.now c.take_row.new.self c.fill.new.self
          (passes_still (length c.args.entries.now) (g.R.Reader.extent c.args.file.now) (g.R.Reader.reads c.args.file.now) (g.R.Reader.reads c.steps.file) c.args.cursor.now c.steps.cursor c.take_row.new.self c.steps.invariant.passes n.1)
          (ap (λ (q : CursorView). q.rows) n.1 ∙ n.0) (c.is_done.ensures.left c.if-is_done.false) c.in-Ok.ensures.next (omega arith) c.in-Ok.ensures.reads;
      skips = λ bytes index known d.
          let n = c.in_default.ensures in
          inr (
            c.take_row.new.self,
            goes_still (footer_at bytes) bytes index c.args.cursor.now c.steps.cursor c.take_row.new.self (c.steps.invariant.goes bytes index known d) n.1,
            ap (λ (q : CursorView). q.rows) n.1 ∙ n.0,
            c.in-Ok.ensures.next,
          );
      goes = λ bytes index known d.
          let n = c.in_default.ensures in
          goes_on (footer_at bytes) bytes index c.args.cursor.now c.take_row.new.self c.fill.new.self (goes_still (footer_at bytes) bytes index c.args.cursor.now c.steps.cursor c.take_row.new.self (c.steps.invariant.goes bytes index known d) n.1) (ap (λ (q : CursorView). q.rows) n.1 ∙ n.0) (c.in-Ok.ensures.fills bytes index (here.content ∙ known) d);
    }

pub returns-in-Err-clause-steps : goal.returns-in-Err-clause-steps
returns-in-Err-clause-steps g c = λ bytes index known d.
    let f = c.in-Err.ensures.fills bytes index (c.steps.invariant.same.content ∙ known) d in
    let n = c.in_default.ensures in (
      goes_still (footer_at bytes) bytes index c.args.cursor.now c.take_row.new.self c.fill.new.self (goes_still (footer_at bytes) bytes index c.args.cursor.now c.steps.cursor c.take_row.new.self (c.steps.invariant.goes bytes index known d) n.1) f.1,
      refuses_same (footer_at bytes) bytes index c.take_row.new.self.next c.fill.new.self.next c.in-Err.error (ap (λ (q : CursorView). q.next) (sym f.1)) f.0,
    )
