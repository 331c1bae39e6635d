use Rattle.std.proofs.Common.{◌+◌, ◌*◌, arith, rules, ap, ◌∙◌}
use Rattle.std.proofs.lemmas.Str.Parse.{digit_at}
use Rattle.st_query.proofs.Numerals.{small, value_more, digits_on}
use Rattle.st_query.proofs.word_reader.number.Goals as goal

pub returns-then-not-is_ascii_digit : goal.returns-then-not-is_ascii_digit
returns-then-not-is_ascii_digit c = λ n h.
    let digit = digit_at c.args.word.now c.loop-byte.byte-index h.0.1 (omega arith) in
    let other = c.if-not-is_ascii_digit.ensures.cases in
    search (rules, digit, other)

pub overflow_mul-value : goal.overflow_mul-value
overflow_mul-value c =
    let bound = small c.args.word.now c.loop-byte.byte-index (omega arith) (omega arith) c.loop-byte.invariant.digits in
    omega arith

pub overflow_add-value : goal.overflow_add-value
overflow_add-value c =
    let bound = small c.args.word.now c.loop-byte.byte-index (omega arith) (omega arith) c.loop-byte.invariant.digits in
    let digit = c.if-not-is_ascii_digit.ensures.cases in
    let same = c.from.ensures in
    omega arith

pub loop-byte-preserved : goal.loop-byte-preserved
loop-byte-preserved c =
    let digit = c.if-not-is_ascii_digit.ensures.cases in
    record {
      value =
          ap (λ d. c.loop-byte.value * 10 + d) c.from.ensures
          ∙ value_more c.args.word.now c.loop-byte.byte-index c.loop-byte.value (omega arith) digit c.loop-byte.invariant.value;
      digits = digits_on c.args.word.now c.loop-byte.byte-index (omega arith) digit c.loop-byte.invariant.digits;
    }
