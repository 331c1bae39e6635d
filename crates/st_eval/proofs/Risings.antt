-- Lists that rise, and what sorting and searching them gives.
use Rattle.std.proofs.Common.{◌≡◌, ℕ, zero, suc, ◌+◌, ◌-◌, ◌<◌, ◌≤◌, Bool, true, false, ◌&&◌, ◌||◌, nat_eq, nat_lt, eqb, nat_cmp, List, [], ◌∷◌, length, drop, slice_index, filter, IsTrue, refl, sym, ap, ◌∙◌, subst, arith, true≢false, if◌then◌else◌}
use Rattle.std.specs.List.{dedup}
use Rattle.std.specs.List.Sorted.{IsPermutation, IsSorted}
use Rattle.std.proofs.lemmas.Bool.Decides.{nat_tests}
use Rattle.std.proofs.lemmas.List.Kept.{AllPairs-from_increasing, Contains-dedup_nat, Contains-from_dedup}
use Rattle.std.proofs.lemmas.List.Sorted.{Contains-permutation, IsPermutation-sym}
use Rattle.std.proofs.lemmas.Map.Keys.{IsStrictlyIncreasing-dedup}
use Rattle.st_rows.specs.Positions.{has, Rising}
use Rattle.st_rows.proofs.OneList.{has_from, has_to}
use Rattle.st_rows.specs.Values.{rises}

-- ---- the test

pub rises_step : (xs : List ℕ) (k : ℕ) → suc k < length xs → rises (drop k xs) ≡ (nat_lt (slice_index xs k) (slice_index xs (suc k)) && rises (drop (suc k) xs))
rises_step [] k h = let no : ⊥ = omega arith in absurd no
rises_step (a ∷ []) k h = let no : ⊥ = omega arith in absurd no
rises_step (a ∷ b ∷ rest) zero h = refl
rises_step (a ∷ b ∷ rest) (suc k) h = rises_step (b ∷ rest) k (omega arith)

pub rises_end : (xs : List ℕ) (k : ℕ) → length xs ≤ suc k → rises (drop k xs) ≡ true
rises_end [] zero h = refl
rises_end [] (suc k) h = refl
rises_end (a ∷ []) zero h = refl
rises_end (a ∷ b ∷ rest) zero h = let no : ⊥ = omega arith in absurd no
rises_end (a ∷ rest) (suc k) h = rises_end rest k (omega arith)

and_from : (a b : Bool) → (a && b) ≡ true → (a ≡ true) × (b ≡ true)
and_from true b h = (refl, h)
and_from false b h = absurd (true≢false (sym h))

and_to : (a b : Bool) → a ≡ true → b ≡ true → (a && b) ≡ true
and_to true b h i = i
and_to false b h i = h

-- one step of the test, where the number before is below this one, and where it isn't
pub rises_next : (xs : List ℕ) (i : ℕ) → 1 ≤ i → i < length xs → slice_index xs (i - 1) < slice_index xs i → rises (drop (i - 1) xs) ≡ rises (drop (i + 1 - 1) xs)
rises_next xs i some less up =
    let e : suc (i - 1) ≡ i = omega arith in
    let f : i + 1 - 1 ≡ i = omega arith in
    let below : slice_index xs (i - 1) < slice_index xs (suc (i - 1)) = subst (λ n. slice_index xs (i - 1) < slice_index xs n) (sym e) up in
    let test : nat_lt (slice_index xs (i - 1)) (slice_index xs (suc (i - 1))) ≡ true = grind (arith, nat_tests) in
    rises_step xs (i - 1) (omega (arith, e)) ∙ (ap (λ b. b && rises (drop (suc (i - 1)) xs)) test ∙ ap (λ n. rises (drop n xs)) (e ∙ sym f))

pub rises_not : (xs : List ℕ) (i : ℕ) → 1 ≤ i → i < length xs → slice_index xs i ≤ slice_index xs (i - 1) → rises (drop (i - 1) xs) ≡ false
rises_not xs i some less down =
    let e : suc (i - 1) ≡ i = omega arith in
    let below : slice_index xs (suc (i - 1)) ≤ slice_index xs (i - 1) = subst (λ n. slice_index xs n ≤ slice_index xs (i - 1)) (sym e) down in
    let test : nat_lt (slice_index xs (i - 1)) (slice_index xs (suc (i - 1))) ≡ false = grind (arith, nat_tests) in
    rises_step xs (i - 1) (omega (arith, e)) ∙ ap (λ b. b && rises (drop (suc (i - 1)) xs)) test

increasing : (xs : List ℕ) → IsTrue (rises xs) → (k : ℕ) → suc k < length xs → slice_index xs k < slice_index xs (suc k)
increasing [] h k less = let no : ⊥ = omega arith in absurd no
increasing (a ∷ []) h k less = let no : ⊥ = omega arith in absurd no
increasing (a ∷ b ∷ rest) h zero less = let e = (and_from (nat_lt a b) (rises (b ∷ rest)) h).0 in grind (arith, nat_tests)
increasing (a ∷ b ∷ rest) h (suc k) less = increasing (b ∷ rest) (and_from (nat_lt a b) (rises (b ∷ rest)) h).1 k (omega arith)

-- a list that passes the test rises
pub rising_from : (xs : List ℕ) → IsTrue (rises xs) → Rising xs
rising_from xs h = AllPairs-from_increasing xs (λ k less. let e : suc k ≡ k + 1 = omega arith in subst (λ n. slice_index xs k < slice_index xs n) e (increasing xs h k (omega arith)))

pub rises_to : (xs : List ℕ) → Rising xs → IsTrue (rises xs)
rises_to [] h = refl
rises_to (a ∷ []) h = refl
rises_to (a ∷ b ∷ rest) h = and_to (nat_lt a b) (rises (b ∷ rest)) (let less = h 0 1 0 (omega arith) (omega arith) in grind (arith, nat_tests)) (rises_to (b ∷ rest) (λ i j d up less. h (suc i) (suc j) d (omega arith) (omega arith)))

-- ---- lists with the same members

pub same_test : (a b : Bool) → (a ≡ true → b ≡ true) → (b ≡ true → a ≡ true) → a ≡ b
same_test true b h i = sym (h refl)
same_test false true h i = i refl
same_test false false h i = refl

pub sorted_has : (xs ys : List ℕ) (p : ℕ) → IsPermutation xs ys → has (dedup eqb ys) p ≡ has xs p
sorted_has xs ys p h = same_test _ _
    (λ a. has_from xs p (Contains-permutation ys xs p (IsPermutation-sym xs ys h) (Contains-from_dedup eqb ys p (has_to (dedup eqb ys) p a))))
    (λ b. has_from (dedup eqb ys) p (Contains-dedup_nat ys p (Contains-permutation xs ys p h (has_to xs p b))))

pub sorted_rises : (ys : List ℕ) → IsSorted nat_cmp ys → Rising (dedup eqb ys)
sorted_rises ys h = AllPairs-from_increasing (dedup eqb ys) (IsStrictlyIncreasing-dedup ys h)

-- ---- filters

same_place : (t : ℕ → Bool) (p x : ℕ) → nat_eq p x ≡ true → t p ≡ t x
same_place t p x h = let e : p ≡ x = grind (arith, nat_tests) in ap t e

kept : (a b d : Bool) → (a ≡ true → d ≡ true) → (a || (b && d)) ≡ ((a || b) && d)
kept true b d h = sym (h refl)
kept false b d h = refl

dropped : (a b d : Bool) → (a ≡ true → d ≡ false) → (b && d) ≡ ((a || b) && d)
dropped true true d h = refl
dropped true false d h = sym (h refl)
dropped false b d h = refl

pub filter_has : (t : ℕ → Bool) (xs : List ℕ) (p : ℕ) → has (filter t xs) p ≡ (has xs p && t p)
filter_has t [] p = refl
filter_has t (x ∷ xs) p = elim (t x) as (λ b. t x ≡ b → has (if b then x ∷ filter t xs else filter t xs) p ≡ ((nat_eq p x || has xs p) && t p)) [
  | true ↦ λ e. ap (λ b. nat_eq p x || b) (filter_has t xs p) ∙ kept (nat_eq p x) (has xs p) (t p) (λ h. same_place t p x h ∙ e)
  | false ↦ λ e. filter_has t xs p ∙ dropped (nat_eq p x) (has xs p) (t p) (λ h. same_place t p x h ∙ e)
] refl
