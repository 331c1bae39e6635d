-- Restarts: numbers of four bytes each, read one after another.
use Rattle.std.proofs.Common.{◌≡◌, ℕ, ◌<◌, ◌≤◌, true, false, List, [], ◌∷◌, length, take, drop, refl, arith}
use Rattle.std.proofs.lemmas.Bool.Decides.{nat_tests}
use Rattle.byteorder.specs.Endian.{little_number}
use Rattle.byteorder.specs.Numbers.{little_from-take}
use Rattle.st_tblock.specs.Block.{numbers_in, rises_from, begins}

-- the first four bytes are a number, and the others follow
pub numbers_more : (xs : List ℕ) → 4 ≤ length xs → numbers_in xs ≡ little_number 4 xs ∷ numbers_in (drop 4 xs)
unfolding numbers_in
numbers_more [] l = absurd (omega arith)
numbers_more (a ∷ []) l = absurd (omega arith)
numbers_more (a ∷ b ∷ []) l = absurd (omega arith)
numbers_more (a ∷ b ∷ c ∷ []) l = absurd (omega arith)
numbers_more (a ∷ b ∷ c ∷ d ∷ rest) l = refl

-- fewer than four bytes are no number
pub numbers_none : (xs : List ℕ) → length xs < 4 → numbers_in xs ≡ []
unfolding numbers_in
numbers_none [] l = refl
numbers_none (a ∷ []) l = refl
numbers_none (a ∷ b ∷ []) l = refl
numbers_none (a ∷ b ∷ c ∷ []) l = refl
numbers_none (a ∷ b ∷ c ∷ d ∷ rest) l = absurd (omega arith)

-- a number above the last one
pub rises_above : (n m : ℕ) (ms : List ℕ) → n < m → rises_from n (m ∷ ms) ≡ rises_from m ms
unfolding rises_from
rises_above n m ms l = grind (arith, nat_tests)

-- a number that isn't
pub rises_not : (n m : ℕ) (ms : List ℕ) → m ≤ n → rises_from n (m ∷ ms) ≡ false
unfolding rises_from
rises_not n m ms l = grind (arith, nat_tests)

-- no numbers rise
pub rises_none : (n : ℕ) → rises_from n [] ≡ true
unfolding rises_from
rises_none n = refl

-- no numbers don't begin with 0
pub begins_none : begins [] ≡ false
unfolding begins
begins_none = refl

-- numbers that begin with 0
pub begins_zero : (n : ℕ) (ns : List ℕ) → n ≡ 0 → begins (n ∷ ns) ≡ rises_from 0 ns
unfolding begins
begins_zero n ns e = grind (arith, nat_tests)

-- numbers that begin with another
pub begins_other : (n : ℕ) (ns : List ℕ) → 0 < n → begins (n ∷ ns) ≡ false
unfolding begins
begins_other n ns l = grind (arith, nat_tests)

-- a number is read from its own four bytes
pub number_taken : (xs : List ℕ) → little_number 4 (take 4 xs) ≡ little_number 4 xs
number_taken xs = little_from-take 0 4 4 xs (omega arith)

pub ruleset numbers = (numbers_more, numbers_none, rises_above, rises_not, rises_none, begins_none, begins_zero, begins_other, number_taken)
