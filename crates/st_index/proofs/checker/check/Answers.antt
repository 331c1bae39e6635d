use Rattle.std.proofs.Common.{List, sym, subst}
use Rattle.st_tblock.specs.Block.{RowView}
use Rattle.st_rows.specs.Rows.{AreRowsOf}
use Rattle.st_index.specs.RowList.{rows_left}
use Rattle.st_index.specs.declared.checker.Part.TheVariants as part
use Rattle.st_base.specs.Damages.{damage_view}
use Rattle.st_index.proofs.PairStands.{pair_stands}
use Rattle.st_index.proofs.OneFailure.{whole_result}
use Rattle.st_index.proofs.Deciding.{some_summary, judged}
use Rattle.st_index.proofs.checker.check.Goals as goal

pub returns-clause-judges : goal.returns-clause-judges
returns-clause-judges g c blocks bytes told known =
    let (given, file, records) = c.in-Ok.ensures.makes blocks told c.new-maker.ensures.none in
    let m = c.make_index.new.maker in
    let some = some_summary blocks given m.summary file records.summed in
    let are = subst (λ (rows : List RowView). AreRowsOf given rows) (sym c.new-wanted.ensures.left) (c.new-wanted.ensures.records some given records) in
    judged blocks bytes given (rows_left c.new-wanted.result) c.packets_of-packets.result c.judge_index.result file are (c.packets_of-packets.ensures given records) (c.judge_index.ensures.judges bytes known)

pub returns-in-Err-Damaged-clause-whole : goal.returns-in-Err-Damaged-clause-whole
returns-in-Err-Damaged-clause-whole g c blocks bytes given told known w =
    let fails = rw c.in-Err-Damaged.field-0-is at (c.in-Err-Damaged.ensures.makes blocks told c.new-maker.ensures.none) in
    absurd (pair_stands blocks bytes given part.Block (damage_view c.in-Err-Damaged.damage) w fails)

pub returns-clause-whole : goal.returns-clause-whole
returns-clause-whole g c blocks bytes given told known w =
    whole_result blocks bytes given c.judge_index.result (returns-clause-judges g c blocks bytes told known) w
