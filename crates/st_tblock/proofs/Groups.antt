-- Groups of seven bits, read and written.
use Rattle.std.proofs.Common.{◌≡◌, ℕ, zero, suc, ◌+◌, ◌-◌, ◌*◌, ◌/◌, ◌%◌, ◌^◌, ◌<◌, ◌≤◌, true, false, List, [], ◌∷◌, ◌++◌, append_assoc, length, length-append, Option, Some, refl, sym, ap, ◌∙◌, arith, ◌⊎◌, inl, inr}
use Rattle.std.specs.Prelude.{nat_eq, nat_lt}
use Rattle.std.proofs.lemmas.Bool.{cases_lt}
use Rattle.std.proofs.lemmas.Bool.Decides.{nat_tests}
use Rattle.std.proofs.Math.Nat.{mul_comm, one-le-pow, pow-suc, pow-le-pow_right}
use Rattle.st_tblock.specs.Varint.{Found, groups_in, varint_in, varint32_in, groups_of}

-- where more groups may come, a number of more than seven bits begins with its lowest
pub groups_more : (k n : ℕ) → 0 < k → 128 ≤ n → groups_of k n ≡ (128 + n % 128) ∷ groups_of (k - 1) (n / 128)
unfolding groups_of
groups_more zero n l h = absurd (omega arith)
groups_more (suc k) n l h =
    let e : suc k - 1 ≡ k = omega arith in
    rw e (grind (arith, nat_tests))

-- the last group
pub groups_last : (k n : ℕ) → (n < 128) ⊎ (k ≡ 0) → groups_of k n ≡ n % 128 ∷ []
unfolding groups_of
groups_last zero n h = refl
groups_last (suc k) n (inl l) = let e : n % 128 ≡ n = omega arith in rw e (grind (arith, nat_tests))
groups_last (suc k) n (inr e) = absurd (omega arith)

-- one group less
pub power_step : (k : ℕ) → 0 < k → 128 ^ k ≡ 128 * 128 ^ (k - 1)
power_step zero l = absurd (omega arith)
power_step (suc k) l = let e : suc k - 1 ≡ k = omega arith in rw e (pow-suc 128 k ∙ mul_comm (128 ^ k) 128)

-- one group at least
pub power_some : (k : ℕ) → 0 < k → 128 ≤ 128 ^ k
power_some k l =
    let step = power_step k l in
    let one : 0 < 128 ^ (k - 1) = let p = one-le-pow (k - 1) 128 (omega arith) in omega arith in
    omega arith

-- ten groups at most
pub power_ten : (k : ℕ) → k ≤ 10 → 128 ^ k ≤ 2 ^ 70
power_ten k l = pow-le-pow_right {n = 128} (omega arith) {i = k} {j = 10} l

pub ruleset powers = (power_step, power_some, power_ten)

-- a group is written, and those that are left after it
pub groups_written : (out : List ℕ) (len rest : ℕ) → len < 9 → 128 ≤ rest → (out ++ (128 + rest % 128) ∷ []) ++ groups_of (9 - (len + 1)) (rest / 128) ≡ out ++ groups_of (9 - len) rest
groups_written out len rest l m =
    let one : 9 - len - 1 ≡ 9 - (len + 1) = omega arith in
    let more = groups_more (9 - len) rest (omega arith) m in
    append_assoc out ((128 + rest % 128) ∷ []) (groups_of (9 - (len + 1)) (rest / 128))
    ∙ ap (λ (k : ℕ). out ++ (128 + rest % 128) ∷ groups_of k (rest / 128)) (sym one)
    ∙ ap (λ (xs : List ℕ). out ++ xs) (sym more)

-- the same, of the text so far
pub group_behind : (out new : List ℕ) (rest : ℕ) → length out < 9 → 128 ≤ rest → new ≡ out ++ (128 + rest % 128) ∷ [] → new ++ groups_of (9 - length new) (rest / 128) ≡ out ++ groups_of (9 - length out) rest
group_behind out new rest l m e =
    let size : length new ≡ length out + 1 = ap length e ∙ length-append out ((128 + rest % 128) ∷ []) in
    ap (λ (k : ℕ). new ++ groups_of (9 - k) (rest / 128)) size
    ∙ ap (λ (xs : List ℕ). xs ++ groups_of (9 - (length out + 1)) (rest / 128)) e
    ∙ groups_written out (length out) rest l m

-- equal parts of what was read
found : {a b c d : ℕ} → a ≡ b → c ≡ d → ◌≡◌ {A = Option Found} (Some (a, c)) (Some (b, d))
found e f = cc

-- a number of one group is read
read_one : (k n : ℕ) (rest : List ℕ) → n < 128 → groups_in (k + 1) (n ∷ rest) ≡ Some (n, 1)
read_one k n rest l = grind (arith, nat_tests)

-- a first group and what the others give
read_more : (k b : ℕ) (rest : List ℕ) (n size : ℕ) → groups_in k rest ≡ Some (n, size) → groups_in (k + 1) ((128 + b) ∷ rest) ≡ Some (b + 128 * n, size + 1)
read_more k b rest n size e =
    let room : nat_eq (k + 1) 0 ≡ false = grind (arith, nat_tests) in
    let high : nat_lt (128 + b) 128 ≡ false = grind (arith, nat_tests) in
    let less : k + 1 - 1 ≡ k = omega arith in
    let low : 128 + b - 128 ≡ b = omega arith in
    rw (room, high, less, e, low) refl

-- the text of a number is read as the number, whatever follows
pub read_again : (j d n : ℕ) (rest : List ℕ) → n < 128 ^ (j + 1) → groups_in (j + 1) (groups_of (j + d) n ++ rest) ≡ Some (n, length (groups_of (j + d) n))
read_again zero d n rest l =
    let small : n % 128 ≡ n = omega arith in
    rw (groups_last (0 + d) n (inl (omega arith)), small) (read_one 0 n rest (omega arith))
read_again (suc j) d n rest l = elim (cases_lt n 128) [
  | inl small ↦
      let same : n % 128 ≡ n = omega arith in
      rw (groups_last (suc j + d) n (inl small), same) (read_one (suc j) n rest small)
  | inr large ↦
      let room : suc j + d - 1 ≡ j + d = omega arith in
      let power : 128 ^ (suc j + 1) ≡ 128 * 128 ^ (j + 1) = power_step (suc j + 1) (omega arith) ∙ ap (λ (k : ℕ). 128 * 128 ^ k) (omega arith) in
      let tail = read_again j d (n / 128) rest (omega arith) in
      let one : suc j + 1 ≡ j + 1 + 1 = omega arith in
      let whole : n % 128 + 128 * (n / 128) ≡ n = omega arith in
      rw (groups_more (suc j + d) n (omega arith) large, room, one) (read_more (j + 1) (n % 128) (groups_of (j + d) (n / 128) ++ rest) (n / 128) (length (groups_of (j + d) (n / 128))) tail ∙ found whole (omega arith))
]

-- any number of 64 bits is read from its text
pub varint_again : (n : ℕ) (rest : List ℕ) → n < 2 ^ 64 → varint_in (groups_of 9 n ++ rest) ≡ Some (n, length (groups_of 9 n))
varint_again n rest l =
    let fits : nat_lt n (2 ^ 64) ≡ true = grind (arith, nat_tests) in
    rw (read_again 9 0 n rest (omega arith), fits) refl

-- any number of 32 bits is read from its text as such
pub varint32_again : (n : ℕ) (rest : List ℕ) → n < 2 ^ 32 → varint32_in (groups_of 9 n ++ rest) ≡ Some (n, length (groups_of 9 n))
varint32_again n rest l =
    let fits : nat_lt n (2 ^ 32) ≡ true = grind (arith, nat_tests) in
    rw (read_again 4 5 n rest (omega arith), fits) refl
