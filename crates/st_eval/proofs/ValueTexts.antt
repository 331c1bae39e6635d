-- The positions that a value says, one after the other.
use Rattle.std.proofs.Common.{◌≡◌, ℕ, ◌<◌, ◌≤◌, List, [], ◌∷◌, ◌++◌, length, drop, refl, sym, ap, ◌∙◌, arith, append_assoc, append-nil}
use Rattle.byteorder.specs.Endian.{big_number}
use Rattle.st_rows.specs.Positions.{positions_in}

-- the first four bytes of a value say its first position
positions_first : (xs : List ℕ) → 4 ≤ length xs → positions_in xs ≡ big_number 4 xs ∷ positions_in (drop 4 xs)
positions_first [] h = let no : ⊥ = omega arith in absurd no
positions_first (a ∷ []) h = let no : ⊥ = omega arith in absurd no
positions_first (a ∷ b ∷ []) h = let no : ⊥ = omega arith in absurd no
positions_first (a ∷ b ∷ c ∷ []) h = let no : ⊥ = omega arith in absurd no
positions_first (a ∷ b ∷ c ∷ d ∷ rest) h = refl

positions_none : (xs : List ℕ) → length xs < 4 → positions_in xs ≡ []
positions_none [] h = refl
positions_none (a ∷ []) h = refl
positions_none (a ∷ b ∷ []) h = refl
positions_none (a ∷ b ∷ c ∷ []) h = refl
positions_none (a ∷ b ∷ c ∷ d ∷ rest) h = let no : ⊥ = omega arith in absurd no

-- one more position is taken from a value
pub takes_position : (all xs whole : List ℕ) (x : ℕ) → 4 ≤ length xs → x ≡ big_number 4 xs → all ++ positions_in xs ≡ whole → (all ++ x ∷ []) ++ positions_in (drop 4 xs) ≡ whole
takes_position all xs whole x h e i =
    append_assoc all (x ∷ []) (positions_in (drop 4 xs))
    ∙ (ap (λ y. all ++ (y ∷ positions_in (drop 4 xs))) e
    ∙ (ap (λ (ys : List ℕ). all ++ ys) (sym (positions_first xs h)) ∙ i))

-- and at its end there is none
pub no_position : (all xs whole : List ℕ) → length xs < 4 → all ++ positions_in xs ≡ whole → all ≡ whole
no_position all xs whole h i = sym (append-nil all) ∙ (ap (λ (ys : List ℕ). all ++ ys) (sym (positions_none xs h)) ∙ i)
