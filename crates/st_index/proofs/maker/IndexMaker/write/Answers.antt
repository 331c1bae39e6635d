use Rattle.std.proofs.Common.{[], subst}
use Rattle.std.proofs.lemmas.Result.{on_ok_weaker}
use Rattle.st_table.specs.TableBuilderView.{TableBuilderView, no_rows}
use Rattle.st_table.specs.Builder.{Builds}
use Rattle.st_index.specs.RowList.{rows_of, rows_left}
use Rattle.st_index.proofs.Writing.{all_put, table_put, table_length, table_of, table_prefix}
use Rattle.st_index.proofs.maker.IndexMaker.write.Goals as goal

pub returns-in-Ok-put_rows-clause-bytes : goal.returns-in-Ok-put_rows-clause-bytes
returns-in-Ok-put_rows-clause-bytes g c =
    let old = g.S.Sink.written c.args.sink.now in
    let mid = g.S.Sink.written c.put_rows.new.sink in
    let put = all_put c.in-Ok.builder c.put_rows.new.builder (rows_left c.new-rows.result) (rows_of c.args.self.now) old mid c.in-Ok.ensures.no_rows c.new-rows.ensures.left c.in-Ok-put_rows.ensures.rows in
    table_put c.put_rows.new.builder (rows_of c.args.self.now) old mid (g.S.Sink.written c.finish.new.sink) c.finish.result put c.finish.ensures.bytes

pub returns-in-Ok-put_rows-clause-length : goal.returns-in-Ok-put_rows-clause-length
returns-in-Ok-put_rows-clause-length g c =
    let old = g.S.Sink.written c.args.sink.now in
    let mid = g.S.Sink.written c.put_rows.new.sink in
    let put = all_put c.in-Ok.builder c.put_rows.new.builder (rows_left c.new-rows.result) (rows_of c.args.self.now) old mid c.in-Ok.ensures.no_rows c.new-rows.ensures.left c.in-Ok-put_rows.ensures.rows in
    let none : Builds no_rows [] [] = subst (λ (b : TableBuilderView). Builds b [] []) c.in-Ok.ensures.no_rows c.in-Ok.ensures.builds in
    table_length c.put_rows.new.builder (rows_of c.args.self.now) old mid c.finish.result none put c.finish.ensures.length

pub returns-in-Ok-put_rows-clause-index : goal.returns-in-Ok-put_rows-clause-index
returns-in-Ok-put_rows-clause-index g c =
    let old = g.S.Sink.written c.args.sink.now in
    let mid = g.S.Sink.written c.put_rows.new.sink in
    let put = all_put c.in-Ok.builder c.put_rows.new.builder (rows_left c.new-rows.result) (rows_of c.args.self.now) old mid c.in-Ok.ensures.no_rows c.new-rows.ensures.left c.in-Ok-put_rows.ensures.rows in
    let none : Builds no_rows [] [] = subst (λ (b : TableBuilderView). Builds b [] []) c.in-Ok.ensures.no_rows c.in-Ok.ensures.builds in
    on_ok_weaker c.finish.result (λ table given h. (rows_of c.args.self.now, table_of c.put_rows.new.builder (rows_of c.args.self.now) old mid none put table, c.new-rows.ensures.records c.requires given h)) c.finish.ensures.table

pub returns-clause-bytes : goal.returns-clause-bytes
returns-clause-bytes g c =
    table_prefix c.in-Ok.builder (rows_left c.new-rows.result) (rows_of c.args.self.now) (g.S.Sink.written c.args.sink.now) (g.S.Sink.written c.put_rows.new.sink) c.in-Ok.ensures.no_rows c.new-rows.ensures.left c.in-Err-put_rows.ensures.rows
