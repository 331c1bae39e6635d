-- Digits and marks of a time: the shape of a text against how it is written.
use Rattle.std.proofs.Common.{◌≡◌, ℕ, ◌+◌, ◌-◌, ◌*◌, ◌/◌, ◌%◌, ◌<◌, ◌≤◌, Bool, true, false, ◌&&◌, ◌==◌, List, [], ◌∷◌, ◌++◌, refl, ap, arith}
use Rattle.std.specs.Char.{is_ascii_digit}
use Rattle.std.specs.Int.{IsInRange}
use Rattle.std.proofs.lemmas.Bool.Decides.{nat_tests}
use Rattle.st_query.specs.Times.{two}
use Rattle.st_query.specs.TimeReader.{fits_byte, fits}

both : (a b : Bool) → (a && b) ≡ true → (a ≡ true) × (b ≡ true)
both true true h = (refl, refl)
both true false h = (refl, h)
both false b h = (h, cc)

digit_in : (b : ℕ) → is_ascii_digit b ≡ true → IsInRange 48 57 b
digit_in b h = grind (arith, nat_tests)

in_digit : (b : ℕ) → 48 ≤ b → b ≤ 57 → is_ascii_digit b ≡ true
in_digit b low high = grind (arith, nat_tests)

-- two digits of a text
pub record Two (ps bs : List ℕ) : Type 0 where
  pub n : ℕ
  pub rest : List ℕ
  pub small : n < 100
  pub is : bs ≡ two n ++ rest
  pub on : fits ps rest ≡ true

pub fits_two : (ps bs : List ℕ) → fits (48 ∷ 48 ∷ ps) bs ≡ true → Two ps bs
fits_two ps [] h = absurd cc
fits_two ps (b ∷ []) h = let (first, none) = both (fits_byte 48 b) false h in absurd cc
fits_two ps (b ∷ (c ∷ rest)) h =
    let (first, more) = both (fits_byte 48 b) (fits_byte 48 c && fits ps rest) h in
    let (second, on) = both (fits_byte 48 c) (fits ps rest) more in
    let (l, k) = digit_in b first in
    let (m, n) = digit_in c second in
    let tens : b ≡ 48 + ((b - 48) * 10 + (c - 48)) / 10 = omega arith in
    let ones : c ≡ 48 + ((b - 48) * 10 + (c - 48)) % 10 = omega arith in
    record { n = (b - 48) * 10 + (c - 48); rest = rest; small = omega arith; is = cc; on = on }

-- a mark of a text
pub record Mark (p : ℕ) (ps bs : List ℕ) : Type 0 where
  pub rest : List ℕ
  pub is : bs ≡ p ∷ rest
  pub on : fits ps rest ≡ true

same_byte : (p b : ℕ) → (p == 48) ≡ false → fits_byte p b ≡ true → b ≡ p
same_byte p b other h = grind (arith, nat_tests)

pub fits_mark : (p : ℕ) (ps bs : List ℕ) → (p == 48) ≡ false → fits (p ∷ ps) bs ≡ true → Mark p ps bs
fits_mark p ps [] other h = absurd cc
fits_mark p ps (b ∷ rest) other h =
    let (first, on) = both (fits_byte p b) (fits ps rest) h in
    record { rest = rest; is = ap (λ c. c ∷ rest) (same_byte p b other first); on = on }

pub fits_end : (bs : List ℕ) → fits [] bs ≡ true → bs ≡ []
fits_end [] h = refl
fits_end (b ∷ bs) h = absurd cc

pub two_fits : (n : ℕ) (ps rest : List ℕ) → n < 100 → fits (48 ∷ 48 ∷ ps) (two n ++ rest) ≡ fits ps rest
two_fits n ps rest small =
    let tens = in_digit (48 + n / 10) (omega arith) (omega arith) in
    let ones = in_digit (48 + n % 10) (omega arith) (omega arith) in
    rw (tens, ones) refl

pub two_back : (n : ℕ) → n < 100 → (48 + n / 10 - 48) * 10 + (48 + n % 10 - 48) ≡ n
two_back n small = omega arith
