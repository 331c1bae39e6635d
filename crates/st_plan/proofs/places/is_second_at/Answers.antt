use Rattle.std.proofs.Common.{map, string_bytes}
use Rattle.st_plan.proofs.Standing.{none_before, both_hold}
use Rattle.st_plan.proofs.places.is_second_at.Goals as goal

pub returns-in-Ok-true : goal.returns-in-Ok-true
returns-in-Ok-true c =
    both_hold (map string_bytes c.args.words.now) c.args.i c.args.operand.now c.is_at.result c.in-Ok-true.field-0 c.has_operands-in-Ok-true.result
    c.is_at.ensures c.if-not-is_at.false c.in-Ok-true.ensures c.in-Ok-true.field-0-test c.has_operands-in-Ok-true.ensures

pub returns-in-Ok-false : goal.returns-in-Ok-false
returns-in-Ok-false c = none_before (map string_bytes c.args.words.now) c.args.i c.args.operand.now c.in-Ok-false.field-0 c.in-Ok-false.ensures c.in-Ok-false.field-0-test
