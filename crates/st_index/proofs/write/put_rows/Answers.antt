use Rattle.std.proofs.Common.{Bool, true, Ok, ap, ◌∙◌, subst}
use Rattle.std.proofs.lemmas.Result.{err_from_is_err_and}
use Rattle.st_table.specs.declared.build_errors.BuildErr.{BuildErr}
use Rattle.st_index.specs.RowList.{rows_left}
use Rattle.st_index.specs.Write.{PutsRow}
use Rattle.st_index.proofs.Writing.{put_more, put_prefix}
use Rattle.st_index.proofs.write.put_rows.Goals as goal

pub returns-in_err-put_next-clause-rows : goal.returns-in_err-put_next-clause-rows
returns-in_err-put_next-clause-rows g c =
    let p = err_from_is_err_and c.from_residual.result c.from_residual.ensures.1 in
    rw p.1 (put_prefix c.args.builder.now c.rows.builder (rows_left c.args.rows.now) (rows_left c.rows.rows) (g.S.Sink.written c.args.sink.now) (g.S.Sink.written c.rows.sink) (g.S.Sink.written c.put_next.new.sink) c.rows.invariant.0 c.in_err-put_next.ensures.row)

pub rows-preserved : goal.rows-preserved
rows-preserved g c =
    let k = c.rows.builder in
    let q = c.put_next.new.builder in
    let old = g.S.Sink.written c.rows.sink in
    let now = g.S.Sink.written c.put_next.new.sink in
    let step : PutsRow {E = BuildErr} k q (rows_left c.rows.rows) (rows_left c.put_next.new.rows) old now (Ok true) =
    subst (λ (b : Bool). PutsRow {E = BuildErr} k q (rows_left c.rows.rows) (rows_left c.put_next.new.rows) old now (Ok b)) c.if-branch.true c.in_ok-put_next.ensures.row in
    let (r, split, after, written, builds) = step in (
      put_more c.args.builder.now k q (rows_left c.args.rows.now) (rows_left c.rows.rows) (rows_left c.put_next.new.rows) r (g.S.Sink.written c.args.sink.now) old now c.rows.invariant.0 split after written builds,
      c.in_ok-put_next.ensures.ready (ap (λ (b : Bool). Ok b) c.if-branch.true),
      c.in_ok-put_next.ensures.cause.still ∙ c.rows.invariant.2,
      c.put_next.ensures.rest ∙ c.rows.invariant.3,
    )
