-- Decimal digits of a word, read from the left.
use Rattle.std.proofs.Common.{◌≡◌, ℕ, ◌+◌, ◌-◌, ◌*◌, ◌^◌, ◌<◌, ◌≤◌, List, length, take, get_or, arith, length-take-le}
use Rattle.std.specs.Int.{IsInRange}
use Rattle.std.specs.Str.Parse.{AllDigits, digits_value}
use Rattle.std.proofs.lemmas.Str.{digit_value_digit}
use Rattle.std.proofs.lemmas.Str.Parse.{digits_value_short, numerals_by_value, tells_digits}
use Rattle.std.proofs.lemmas.Int.Digits.{digits_value_more, digits_more}

-- nine digits of ten write less than ten to the ninth
pub small : (word : List ℕ) (i : ℕ) → i < length word → length word ≤ 10 → AllDigits 10 (take i word) → digits_value 10 (take i word) < 10 ^ 9
small word i below short digits =
    let fits = length-take-le i word (omega arith) in
    digits_value_short (numerals_by_value (AllDigits 10) tells_digits) (take i word) 9 digits (omega arith)

-- one digit more
pub value_more : (word : List ℕ) (i value : ℕ) → i < length word → IsInRange 48 57 (get_or word i 0) → value ≡ digits_value 10 (take i word)
    → value * 10 + (get_or word i 0 - 48) ≡ digits_value 10 (take (i + 1) word)
value_more word i value below digit so_far =
    let weight = digit_value_digit (get_or word i 0) digit in
    omega (arith, digits_value_more 10 word i below)

pub digits_on : (word : List ℕ) (i : ℕ) → i < length word → IsInRange 48 57 (get_or word i 0) → AllDigits 10 (take i word) → AllDigits 10 (take (i + 1) word)
digits_on word i below digit so_far =
    let weight = digit_value_digit (get_or word i 0) digit in
    digits_more 10 word i below so_far (omega arith)
