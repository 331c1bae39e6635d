-- Picks of which no two are of one position.
use Rattle.std.proofs.Common.{◌≡◌, ◌≢◌, ℕ, zero, suc, ◌<◌, ◌≤◌, List, [], ◌∷◌, ◌++◌, length, get_or, sym, ap, ◌∙◌, arith, Contains, ◌⊎◌, inl, inr}
use Rattle.std.specs.Prelude.{All, sum_by}
use Rattle.std.proofs.lemmas.Bool.Decides.{nat_tests}
use Rattle.std.proofs.lemmas.List.{length-map, get_or-map}
use Rattle.std.proofs.lemmas.List.Elements.{All-map, All-append, All-head, All-tail, All-contains, Contains-get_or}
use Rattle.std.proofs.lemmas.List.Sums.{sum_by-append, sum_by-cons, sum_by-le, get_or-le-sum_by}
use Rattle.std.proofs.lemmas.List.Sorted.{IsPermutation-remove, Contains-permutation, sum_by-IsPermutation, length_permutation}
use Rattle.std.specs.List.Sorted.{IsPermutation}
use Rattle.std.specs.List.{remove}
use Rattle.st_disk.specs.Pairs.{Entry, IsBelow, IsFileSet}
use Rattle.st_block.specs.Scan.{PositionedRecord, positions_in}
use Rattle.st_rows.specs.Positions.{Rising}
use Rattle.st_answer.specs.declared.picked.Picked.{Picked}
use Rattle.st_answer.specs.Packets.{Packet}
use Rattle.st_answer.specs.Picks.{pick_of, picks_of, is_at, AreDistinct}
use Rattle.st_base.proofs.Ascending.{in_cases}

-- the pick is at another position, or of another pair
not_at : (s n : ℕ) (p : Picked) → (p.stamp ≢ s) ⊎ (p.position ≢ n) → is_at s n p ≡ 0
not_at s n p (inl other) = grind (arith, nat_tests, other)
not_at s n p (inr other) = grind (arith, nat_tests, other)

pub is_here : (p : Picked) → is_at p.stamp p.position p ≡ 1
is_here p = grind (arith, nat_tests)

at_most_one : (s n : ℕ) (p : Picked) → is_at s n p ≤ 1
at_most_one s n p = grind (arith, nat_tests)

-- where none is there the count is 0
none_at : (s n : ℕ) (ps : List Picked) → All (λ p. is_at s n p ≡ 0) ps → sum_by (is_at s n) ps ≡ 0
none_at s n ps all =
    let most = sum_by-le (is_at s n) 0 ps (λ k d lt. let is = all k d lt in omega (arith, is)) in
    omega (arith, most)

-- a member at that position counts
some_at : (ps : List Picked) (p : Picked) → Contains ps p → 1 ≤ sum_by (is_at p.stamp p.position) ps
some_at ps p (k, lt, is) =
    let least = get_or-le-sum_by (is_at p.stamp p.position) ps k p lt in
    let one = ap (is_at p.stamp p.position) is ∙ is_here p in
    omega (arith, least, one)

-- positions that rise are distinct
rising_tail : (x : PositionedRecord) (xs : List PositionedRecord) → Rising (positions_in (x ∷ xs)) → Rising (positions_in xs)
rising_tail x xs rise i j d lt below = rise (suc i) (suc j) d (omega (arith, lt)) (omega (arith, below))

rising_head : (x : PositionedRecord) (xs : List PositionedRecord) → Rising (positions_in (x ∷ xs)) → All (λ (y : PositionedRecord). x.0 < y.0) xs
rising_head x xs rise k d lt =
    let count = length-map xs (λ (y : PositionedRecord). y.0) in
    let less = rise 0 (suc k) d.0 (omega arith) (omega (arith, lt, count)) in
    let at = get_or-map (λ (y : PositionedRecord). y.0) xs k d d.0 lt in
    omega (arith, less, at)

pub rising_distinct : (place stamp s n : ℕ) (xs : List PositionedRecord) → Rising (positions_in xs) → sum_by (is_at s n) (picks_of place stamp xs) ≤ 1
rising_distinct place stamp s n [] rise = omega arith
rising_distinct place stamp s n (x ∷ xs) rise =
    let p = pick_of place stamp x.0 x.1 in
    let rest = rising_distinct place stamp s n xs (rising_tail x xs rise) in
    let split = sum_by-cons (is_at s n) p (picks_of place stamp xs) in
    let one = at_most_one s n p in
    let later : n ≡ x.0 → sum_by (is_at s n) (picks_of place stamp xs) ≡ 0 =
    λ here. none_at s n (picks_of place stamp xs) (All-map (λ p. is_at s n p ≡ 0) (λ (y : PositionedRecord). pick_of place stamp y.0 y.1) xs
    (λ k d lt. let less = rising_head x xs rise k d lt in not_at s n (pick_of place stamp (get_or xs k d).0 (get_or xs k d).1) (inr (omega (arith, less, here))))) in
    elim (Rattle.std.proofs.lemmas.Bool.cases_order n x.0) [
      | inl same ↦ omega (arith, later same, split, one)
      | inr apart ↦ let zero' = not_at s n p (inr (elim apart [ inl lt ↦ omega (arith, lt) | inr lt ↦ omega (arith, lt) ])) in omega (arith, zero', split, rest)
    ]

-- picks of pairs with lower stamps, and then those of one pair
pub distinct_more : (place stamp : ℕ) (ps : List Picked) (xs : List PositionedRecord) → All (λ p. p.stamp < stamp) ps → AreDistinct ps → Rising (positions_in xs) → AreDistinct (ps ++ picks_of place stamp xs)
distinct_more place stamp ps xs low distinct rise s n =
    let both = sum_by-append (is_at s n) ps (picks_of place stamp xs) in
    let old = distinct s n in
    let new = rising_distinct place stamp s n xs rise in
    elim (Rattle.std.proofs.lemmas.Bool.cases_order s stamp) [
      | inl same ↦ let none = none_at s n ps (λ k d lt. let less = low k d lt in not_at s n (get_or ps k d) (inl (omega (arith, less, same)))) in omega (arith, both, none, new)
      | inr apart ↦
          let other : s ≢ stamp = elim apart [ inl lt ↦ omega (arith, lt) | inr lt ↦ omega (arith, lt) ] in
          let none = none_at s n (picks_of place stamp xs) (All-map (λ p. is_at s n p ≡ 0) (λ (y : PositionedRecord). pick_of place stamp y.0 y.1) xs
          (λ k d lt. not_at s n (pick_of place stamp (get_or xs k d).0 (get_or xs k d).1) (inl (λ e. other (sym e))))) in
          omega (arith, both, none, old)
    ]

pub distinct_none : AreDistinct []
distinct_none s n = omega arith

pub distinct_permutation : (ps qs : List Picked) → IsPermutation ps qs → AreDistinct ps → AreDistinct qs
distinct_permutation ps qs same distinct s n = omega (arith, sum_by-IsPermutation (is_at s n) ps qs same, distinct s n)

pub distinct_tail : (p : Picked) (ps : List Picked) → AreDistinct (p ∷ ps) → AreDistinct ps
distinct_tail p ps distinct s n = omega (arith, sum_by-cons (is_at s n) p ps, distinct s n)

-- the first is at no other's position
pub distinct_head : (p q : Picked) (ps : List Picked) → AreDistinct (p ∷ ps) → Contains ps q → p.stamp ≡ q.stamp → p.position ≡ q.position → ⊥
distinct_head p q ps distinct there s n =
    let some = some_at ps q there in
    let one = ap (λ x. is_at x q.position p) (sym s) ∙ (ap (λ x. is_at p.stamp x p) (sym n) ∙ is_here p) in
    omega (arith, sum_by-cons (is_at q.stamp q.position) p ps, distinct q.stamp q.position, some, one)

-- stamps of a file set rise
all_below : (s : ℕ) (set : List Entry) → IsBelow s set → All (λ (e : Entry). s < e.stamp) set
all_below s [] h = λ k d lt. absurd (omega (arith, lt))
all_below s (e ∷ es) h = Rattle.std.proofs.lemmas.List.Elements.All-cons (λ (e : Entry). s < e.stamp) e es h.0 (all_below s es h.1)

pub stamps_rise : (set : List Entry) (i j : ℕ) (d : Entry) → IsFileSet set → i < j → j < length set → (get_or set i d).stamp < (get_or set j d).stamp
stamps_rise [] i j d rises lt below = absurd (omega (arith, below))
stamps_rise (e ∷ es) zero zero d rises lt below = absurd (omega (arith, lt))
stamps_rise (e ∷ es) zero (suc j) d rises lt below = all_below e.stamp es rises.0 j d (omega (arith, below))
stamps_rise (e ∷ es) (suc i) zero d rises lt below = absurd (omega (arith, lt))
stamps_rise (e ∷ es) (suc i) (suc j) d rises lt below = stamps_rise es i j d rises.1 (omega (arith, lt)) (omega (arith, below))

-- picks at distinct positions, whose packets are among some, are no more than these
pub no_more : (f : Picked → Packet) → ((p : Picked) → ((f p).stamp ≡ p.stamp) × ((f p).position ≡ p.position)) → (ps : List Picked) (ys : List Packet) → AreDistinct ps → All (λ p. Contains ys (f p)) ps → length ps ≤ length ys
no_more f keeps [] ys distinct all = omega arith
no_more f keeps (p ∷ ps) ys distinct all =
    let (k, lt, is) = All-head (λ p. Contains ys (f p)) p ps all in
    let moved = IsPermutation-remove ys k (f p) lt (sym is) in
    let count = length_permutation ys (f p ∷ remove ys k) moved in
    let rest = no_more f keeps ps (remove ys k) (distinct_tail p ps distinct) (λ j d lt'.
    let q = get_or ps j d in
    let there = Contains-permutation ys (f p ∷ remove ys k) (f q) moved (All-tail (λ p. Contains ys (f p)) p ps all j d lt') in
    elim (in_cases (f p) (remove ys k) (f q) there) [
      | inl same ↦ absurd (distinct_head p q ps distinct (Contains-get_or ps j d lt')
          (sym (keeps p).0 ∙ (ap (λ (x : Packet). x.stamp) same ∙ (keeps q).0)) (sym (keeps p).1 ∙ (ap (λ (x : Packet). x.position) same ∙ (keeps q).1)))
      | inr later ↦ later
    ]) in
    omega (arith, count, rest)

-- nor are their lengths together
pub no_longer : (f : Picked → Packet) → ((p : Picked) → ((f p).stamp ≡ p.stamp) × ((f p).position ≡ p.position)) → (w : Packet → ℕ) (ps : List Picked) (ys : List Packet)
    → AreDistinct ps → All (λ p. Contains ys (f p)) ps → sum_by (λ p. w (f p)) ps ≤ sum_by w ys
no_longer f keeps w [] ys distinct all = omega arith
no_longer f keeps w (p ∷ ps) ys distinct all =
    let (k, lt, is) = All-head (λ p. Contains ys (f p)) p ps all in
    let moved = IsPermutation-remove ys k (f p) lt (sym is) in
    let sums = sum_by-IsPermutation w ys (f p ∷ remove ys k) moved in
    let split = sum_by-cons w (f p) (remove ys k) in
    let mine = sum_by-cons (λ p. w (f p)) p ps in
    let rest = no_longer f keeps w ps (remove ys k) (distinct_tail p ps distinct) (λ j d lt'.
    let q = get_or ps j d in
    let there = Contains-permutation ys (f p ∷ remove ys k) (f q) moved (All-tail (λ p. Contains ys (f p)) p ps all j d lt') in
    elim (in_cases (f p) (remove ys k) (f q) there) [
      | inl same ↦ absurd (distinct_head p q ps distinct (Contains-get_or ps j d lt')
          (sym (keeps p).0 ∙ (ap (λ (x : Packet). x.stamp) same ∙ (keeps q).0)) (sym (keeps p).1 ∙ (ap (λ (x : Packet). x.position) same ∙ (keeps q).1)))
      | inr later ↦ later
    ]) in
    omega (arith, sums, split, mine, rest)
