use Rattle.std.proofs.Common.{◌/◌, length, arith}
use Rattle.st_folder.proofs.Numerals.{hex_parts, room}
use Rattle.st_folder.proofs.real.digits.+number_of_digits.Goals as goal

pub returns-in_default-number_of_digits : goal.returns-in_default-number_of_digits
returns-in_default-number_of_digits t c = λ n same.
    let parts = hex_parts c.args.digits.now c.in-Some.before.now c.in-Some.last.now n c.in-Some.ensures.cases.0 c.in-Some.ensures.cases.1 same in
    c.in_default-number_of_digits.ensures (n / 16) parts.0

pub overflow_mul-result : goal.overflow_mul-result
overflow_mul-result t c =
    let fits = room (length c.in-Some.before.now) c.in-Some-number_of_digits.high (omega (arith, c.in-Some.ensures.cases.1, c.requires)) c.in-Some-number_of_digits.ensures.1 in
    omega (arith, fits)

pub overflow_add-result : goal.overflow_add-result
overflow_add-result t c =
    let fits = room (length c.in-Some.before.now) c.in-Some-number_of_digits.high (omega (arith, c.in-Some.ensures.cases.1, c.requires)) c.in-Some-number_of_digits.ensures.1 in
    omega (arith, fits, c.in-Some-value_of.ensures.0, c.from.ensures)
