use Rattle.st_index.specs.RowList.{rows_left}
use Rattle.std.proofs.Common.{ap, ◌∙◌}
use Rattle.st_index.proofs.Judging.{refused_data}
use Rattle.st_index.proofs.checker.index.judge_index.Goals as goal

pub returns-in-Ok-read_table-clause-judges : goal.returns-in-Ok-read_table-clause-judges
returns-in-Ok-read_table-clause-judges g c bytes told =
    let before = ap g.R.Reader.content c.over-table.ensures.same ∙ told in
    let here = c.in-Ok.ensures.same.content ∙ before in
    let (rows, table, m, w) = c.in-Ok-read_table.ensures.reads bytes here (c.in-Ok.ensures.enters bytes before) in
    c.judge_rows.ensures bytes rows (rows_left c.args.wanted.now) table m w

pub returns-clause-judges : goal.returns-clause-judges
returns-clause-judges g c bytes told =
    let before = ap g.R.Reader.content c.over-table.ensures.same ∙ told in
    let here = c.in-Ok.ensures.same.content ∙ before in
    let refused = c.in-Err-read_table.ensures.reads bytes here (c.in-Ok.ensures.enters bytes before) in
    refused_data bytes (rows_left c.args.wanted.now) c.args.packets c.in-Err-read_table.error c.refused-in-Err-read_table.result refused c.refused-in-Err-read_table.ensures
