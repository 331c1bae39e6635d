-- Going along two lists that rise, and keeping in the one what the other has too.
use Rattle.std.proofs.Common.{◌≡◌, ℕ, ◌+◌, ◌<◌, ◌≤◌, true, false, List, length, drop, slice_index, slice_index_or, ◌⊎◌, inl, inr, ⊎_elim, sym, ap, ◌∙◌, subst, arith, true≢false}
use Rattle.std.proofs.lemmas.Bool.{cases_order}
use Rattle.std.proofs.lemmas.List.{get_or_default, get_or-drop}
use Rattle.st_rows.specs.Positions.{has, Rising}
use Rattle.st_rows.proofs.OneList.{has_from, has_to}
use Rattle.st_eval.proofs.Risings.{same_test}

at_most_or_above : (i k : ℕ) → (i ≤ k) ⊎ (k < i)
at_most_or_above i k = ⊎_elim (λ e. inl (omega arith)) (λ apart. ⊎_elim (λ up. inl (omega arith)) (λ down. inr down) apart) (cases_order i k)

-- what was passed over is below all numbers to come
pub below_next : (xs other : List ℕ) (i at next item : ℕ) → Rising xs → i < length xs → slice_index xs i ≡ item
    → ((k j : ℕ) → k < at → i ≤ j → j < length xs → slice_index other k < slice_index xs j)
    → ((k : ℕ) → at ≤ k → k < next → slice_index other k < item)
    → (k j : ℕ) → k < next → i + 1 ≤ j → j < length xs → slice_index other k < slice_index xs j
below_next xs other i at next item rise here e before passed k j less up within = ⊎_elim
    (λ later. let a = passed k later less in let b = rise i j 0 (omega arith) within in omega (arith, a, b, e))
    (λ earlier. before k j earlier (omega arith) within)
    (at_most_or_above at k)

-- the same of this number
pub below_here : (xs other : List ℕ) (i at next item : ℕ) → i < length xs → slice_index xs i ≡ item
    → ((k j : ℕ) → k < at → i ≤ j → j < length xs → slice_index other k < slice_index xs j)
    → ((k : ℕ) → at ≤ k → k < next → slice_index other k < item)
    → (k : ℕ) → k < next → slice_index other k < item
below_here xs other i at next item here e before passed k less = ⊎_elim
    (λ later. passed k later less)
    (λ earlier. let a = before k i earlier (omega arith) here in omega (arith, a, e))
    (at_most_or_above at k)

pub has_it : (other : List ℕ) (next item : ℕ) → next < length other → slice_index other next ≡ item → has other item ≡ true
has_it other next item less e = has_from other item (next, less, get_or_default other next item 0 less ∙ e)

pub lacks_it : (other : List ℕ) (next item : ℕ) → Rising other
    → ((k : ℕ) → k < next → slice_index other k < item) → (next < length other → item ≤ slice_index other next)
    → ((next < length other) × (slice_index other next ≡ item) → ⊥) → has other item ≡ false
lacks_it other next item rise below stops differs = same_test (has other item) false
    (λ h.
    let (k, less, e) = has_to other item h in
    let same : slice_index other k ≡ item = get_or_default other k 0 item less ∙ e in
    ⊎_elim
    (λ it. absurd (differs (subst (λ n. n < length other) (sym it) less, ap (λ n. slice_index other n) it ∙ same)))
    (λ apart. ⊎_elim
    (λ up. let a = stops (omega arith) in let b = rise next k 0 up less in let no : ⊥ = omega (arith, a, b, same) in absurd no)
    (λ down. let a = below k down in let no : ⊥ = omega (arith, a, same) in absurd no)
    apart)
    (cases_order next k))
    (λ h. absurd (true≢false (sym h)))

-- from this place on two lists are one, so their numbers here are
pub same_here : (xs ys : List ℕ) (i : ℕ) → drop i ys ≡ drop i xs → slice_index ys i ≡ slice_index xs i
same_here xs ys i e =
    let zero_more : i + 0 ≡ i = omega arith in
    let left : slice_index_or (drop i ys) 0 0 ≡ slice_index ys i = get_or-drop i ys 0 0 ∙ ap (λ n. slice_index ys n) zero_more in
    let right : slice_index_or (drop i xs) 0 0 ≡ slice_index xs i = get_or-drop i xs 0 0 ∙ ap (λ n. slice_index xs n) zero_more in
    sym left ∙ (ap (λ (l : List ℕ). slice_index_or l 0 0) e ∙ right)
