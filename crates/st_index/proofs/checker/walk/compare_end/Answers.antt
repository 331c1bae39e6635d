use Rattle.st_index.specs.RowList.{rows_left, held_row}
use Rattle.st_index.proofs.Comparing.{ends_known, ends_missing, ends_well}
use Rattle.st_base.specs.Damages.{damage_view}
use Rattle.st_index.proofs.checker.walk.compare_end.Goals as goal

pub returns-in-Some : goal.returns-in-Some
returns-in-Some c rows all h =
    ends_known c.args.number c.args.differs c.in-Some.damage rows (rows_left c.args.wanted.now) all c.in-Some.is h

pub returns-in-Ok-true : goal.returns-in-Ok-true
returns-in-Ok-true c rows all h =
    let next = rw c.in-Ok-true.field-0-test at c.in-Ok-true.ensures.row in
    ends_missing c.args.number c.args.differs (damage_view c.missing_damage.result) rows (rows_left c.args.wanted.now) (rows_left c.next.new.self) all (held_row c.next.new.self) c.in_default.is next c.missing_damage.ensures h

pub returns-in-Ok-false : goal.returns-in-Ok-false
returns-in-Ok-false c rows all h =
    let none = rw c.in-Ok-false.field-0-test at c.in-Ok-false.ensures.row in
    ends_well c.args.number c.args.differs rows (rows_left c.args.wanted.now) all c.in_default.is none.0 h
