-- How many bytes two keys have in common.
use Rattle.std.proofs.Common.{◌≡◌, ℕ, suc, ◌+◌, ◌<◌, ◌≤◌, List, [], ◌∷◌, length, drop, get_or, refl, arith, add-one, drop-cons, length-drop}
use Rattle.std.specs.Prelude.{nat_eq}
use Rattle.std.specs.List.{common_prefix_len}
use Rattle.std.proofs.lemmas.Bool.Decides.{nat_tests}

-- two keys that go on with one byte
common_next : (x y : ℕ) (xs ys : List ℕ) → x ≡ y → common_prefix_len nat_eq (x ∷ xs) (y ∷ ys) ≡ 1 + common_prefix_len nat_eq xs ys
common_next x y xs ys e = grind (arith, nat_tests)

-- two keys that part here
common_parts : (x y : ℕ) (xs ys : List ℕ) → (x ≡ y → ⊥) → common_prefix_len nat_eq (x ∷ xs) (y ∷ ys) ≡ 0
common_parts x y xs ys d = grind (arith, nat_tests)

-- the bytes at a place are in common, and so are those after them
pub common_more : (i : ℕ) (xs ys : List ℕ) → i < length xs → i < length ys → get_or xs i 0 ≡ get_or ys i 0 → common_prefix_len nat_eq (drop i xs) (drop i ys) ≡ 1 + common_prefix_len nat_eq (drop (i + 1) xs) (drop (i + 1) ys)
common_more i xs ys lx ly e =
    rw (add-one, drop-cons xs i 0 lx, drop-cons ys i 0 ly) (common_next (get_or xs i 0) (get_or ys i 0) (drop (suc i) xs) (drop (suc i) ys) e)

-- the keys part at a place
pub common_stop : (i : ℕ) (xs ys : List ℕ) → i < length xs → i < length ys → (get_or xs i 0 ≡ get_or ys i 0 → ⊥) → common_prefix_len nat_eq (drop i xs) (drop i ys) ≡ 0
common_stop i xs ys lx ly d =
    rw (drop-cons xs i 0 lx, drop-cons ys i 0 ly) (common_parts (get_or xs i 0) (get_or ys i 0) (drop (suc i) xs) (drop (suc i) ys) d)

-- one key ends
common_none : (xs ys : List ℕ) → length xs ≡ 0 → common_prefix_len nat_eq xs ys ≡ 0
common_none [] ys e = refl
common_none (x ∷ xs) ys e = absurd (omega arith)

common_none_right : (xs ys : List ℕ) → length ys ≡ 0 → common_prefix_len nat_eq xs ys ≡ 0
common_none_right [] ys e = refl
common_none_right (x ∷ xs) [] e = refl
common_none_right (x ∷ xs) (y ∷ ys) e = absurd (omega arith)

-- the first key ends at a place
pub common_end : (i : ℕ) (xs ys : List ℕ) → length xs ≤ i → common_prefix_len nat_eq (drop i xs) (drop i ys) ≡ 0
common_end i xs ys l = common_none (drop i xs) (drop i ys) (simp length-drop (omega arith))

-- the second key ends at a place
pub common_end_right : (i : ℕ) (xs ys : List ℕ) → length ys ≤ i → common_prefix_len nat_eq (drop i xs) (drop i ys) ≡ 0
common_end_right i xs ys l = common_none_right (drop i xs) (drop i ys) (simp length-drop (omega arith))

pub ruleset commons = (common_more, common_stop, common_end, common_end_right)
