use Rattle.std.proofs.Common.{◌∙◌, ap}
use Rattle.st_answer.proofs.Indexes.{index_of, few}
use Rattle.st_commands.proofs.Telling.{not_damaged}
use Rattle.st_commands.proofs.pairs.summary_in.Goals as goal

pub returns-in-Err-clause-says : goal.returns-in-Err-clause-says
returns-in-Err-clause-says g c = λ block bytes told (given, whole).
    let before = ap g.R.Reader.content c.over-table.ensures.same ∙ told in
    c.table_failed.ensures.says.unhurt (c.in-Err.ensures.table bytes whole.rows before whole.table)

pub returns-in-Ok-summary-clause-says : goal.returns-in-Ok-summary-clause-says
returns-in-Ok-summary-clause-says g c = λ block bytes told given whole.
    let before = ap g.R.Reader.content c.over-table.ensures.same ∙ told in
    let here = c.in-Ok.ensures.same.content ∙ before in
    let entered = c.in-Ok.ensures.enters bytes before in
    c.in-Ok-summary.ensures.summarizes whole.rows given
    (record { bytes = bytes; index = entered.index; is = record { known = here; has = entered.has; decoded = entered.decoded; marks = c.in-Ok.ensures.checked bytes }; table = whole.table })
    (index_of block bytes given whole) (few block given whole.file)

pub returns-in-Err-Damaged-clause-says : goal.returns-in-Err-Damaged-clause-says
returns-in-Err-Damaged-clause-says g c = λ block bytes told (given, whole).
    let before = ap g.R.Reader.content c.over-table.ensures.same ∙ told in
    let here = c.in-Ok.ensures.same.content ∙ before in
    let entered = c.in-Ok.ensures.enters bytes before in
    let says = c.in-Err-Damaged.ensures.summarizes whole.rows given
    (record { bytes = bytes; index = entered.index; is = record { known = here; has = entered.has; decoded = entered.decoded; marks = c.in-Ok.ensures.checked bytes }; table = whole.table })
    (index_of block bytes given whole) (few block given whole.file) in
    not_damaged c.in-Err-Damaged.damage c.in-Err-Damaged.field-0 c.in-Err-Damaged.field-0-is says
