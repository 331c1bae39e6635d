-- The rows as an entry leaves the set, and as holds come and go.
use Rattle.std.proofs.Common.{◌≡◌, ◌<◌, ◌≤◌, ◌+◌, ℕ, zero, suc, List, [], ◌∷◌, length, drop, map, Option, None, Some, Bool, true, false, cond, nat_eq, nat_lt, nat_le, refl, sym, ◌∙◌, ap, subst, arith, slice_index}
use Rattle.std.proofs.lemmas.Bool.Decides.{nat_tests}
use Rattle.st_disk.specs.declared.naming.Name.TheVariants.{Block, Index, Parked}
use Rattle.st_disk.specs.Folders.{Folder}
use Rattle.st_disk.specs.Pairs.{Entry, Files, files_of, IsFileSet, IsBelow}
use Rattle.st_spool.specs.Rows.{Pair, Held, Past, Fits, Has, set_row}
use Rattle.st_spool.specs.States.{Placement, place_in, covers, row_at, rows_of}
use Rattle.st_spool.specs.Standing.{stamp_of}
use Rattle.st_spool.specs.declared.state.Span.{Span}
use Rattle.st_spool.proofs.Keeping.{by_test, is_same, same_here, has_here, has_other}
use Rattle.st_spool.proofs.Places.{below_drop}

-- the entry at a place of the list
pub split_at : (i : ℕ) (all : List Entry) → i < length all → (e : Entry) × (rest : List Entry) × (drop i all ≡ e ∷ rest) × (slice_index (map stamp_of all) i ≡ e.stamp)
split_at i [] lt = absurd (omega arith)
split_at zero (e ∷ es) lt = (e, es, refl, refl)
split_at (suc i) (e ∷ es) lt = split_at i es (omega arith)

pub drop_next : (k : ℕ) (all : List Entry) (e : Entry) (rest : List Entry) → drop k all ≡ e ∷ rest → drop (k + 1) all ≡ rest
drop_next k all e rest is = ap (λ (n : ℕ). drop n all) (let z : k + 1 ≡ suc k = omega arith in z) ∙ next k all is
  where
    next : (k : ℕ) (all : List Entry) → drop k all ≡ e ∷ rest → drop (suc k) all ≡ rest
    next zero [] is = cc
    next zero (d ∷ ds) is = cc
    next (suc k) [] is = cc
    next (suc k) (d ∷ ds) is = next k ds is

above_first : (d : ℕ) (e : Entry) (rest es : List Entry) → es ≡ e ∷ rest → IsBelow d es → d < e.stamp
above_first d e rest [] is h = cc
above_first d e rest (x ∷ xs) is h = let same : x ≡ e = cc in subst (λ (y : Entry). d < y.stamp) same h.0

-- where an entry stands, its stamp is found
pub at_place : (n k : ℕ) (all : List Entry) (e : Entry) (rest : List Entry) → drop k all ≡ e ∷ rest → IsFileSet all → place_in n e.stamp all ≡ Some (record { place = n + k; files = files_of e })
at_place n zero [] e rest is h = cc
at_place n zero (d ∷ ds) e rest is h =
    let same : d ≡ e = cc in
    subst (λ (x : Entry). place_in n x.stamp (d ∷ ds) ≡ Some (record { place = n + 0; files = files_of x })) same
    (ap (λ (b : Bool). cond b (Some (record { place = n; files = files_of d })) (place_in (n + 1) d.stamp ds)) (same_here d.stamp) ∙ ap (λ (k : ℕ). Some (record { place = k; files = files_of d })) (omega arith))
at_place n (suc k) [] e rest is h = cc
at_place n (suc k) (d ∷ ds) e rest is h =
    let lt : d.stamp < e.stamp = above_first d.stamp e rest (drop k ds) is (below_drop d.stamp k ds h.0) in
    let other : nat_eq d.stamp e.stamp ≡ false = grind (arith, nat_tests) in
    ap (λ (b : Bool). cond b (Some (record { place = n; files = files_of d })) (place_in (n + 1) e.stamp ds)) other
    ∙ at_place (n + 1) k ds e rest is h.1 ∙ ap (λ (j : ℕ). Some (record { place = j; files = files_of e })) (omega arith)

-- a place that was found is not pair_before where the search began
found_from : (n s : ℕ) (all : List Entry) (p : Placement) → place_in n s all ≡ Some p → n ≤ p.place
found_from n s [] p is = cc
found_from n s (e ∷ es) p is =
    by_test (nat_eq e.stamp s) (λ b. cond b (Some (record { place = n; files = files_of e })) (place_in (n + 1) s es) ≡ Some p → n ≤ p.place)
    (λ k is. let same : record { place = n; files = files_of e } ≡ p = cc in subst (λ (q : Placement). n ≤ q.place) same (omega arith))
    (λ k is. let more : n + 1 ≤ p.place = found_from (n + 1) s es p is in omega arith) is

-- two stamps at one place are one
pub one_stamp : (n s t : ℕ) (all : List Entry) (p q : Placement) → place_in n s all ≡ Some p → place_in n t all ≡ Some q → p.place ≡ q.place → s ≡ t
one_stamp n s t [] p q a b same = cc
one_stamp n s t (e ∷ es) p q a b same =
    by_test (nat_eq e.stamp s) (λ x. cond x (Some (record { place = n; files = files_of e })) (place_in (n + 1) s es) ≡ Some p → s ≡ t)
    (λ k a. let first : n ≡ p.place = ap (λ (o : Placement). o.place) (some_is _ _ a) in
    by_test (nat_eq e.stamp t) (λ x. cond x (Some (record { place = n; files = files_of e })) (place_in (n + 1) t es) ≡ Some q → s ≡ t)
    (λ j b. sym (is_same e.stamp s k) ∙ is_same e.stamp t j) (λ j b. let more : n + 1 ≤ q.place = found_from (n + 1) t es q b in absurd (omega arith)) b)
    (λ k a. let more : n + 1 ≤ p.place = found_from (n + 1) s es p a in
    by_test (nat_eq e.stamp t) (λ x. cond x (Some (record { place = n; files = files_of e })) (place_in (n + 1) t es) ≡ Some q → s ≡ t)
    (λ j b. let first : n ≡ q.place = ap (λ (o : Placement). o.place) (some_is _ _ b) in absurd (omega arith)) (λ j b. one_stamp (n + 1) s t es p q a b same) b)
    a
  where
    some_is : (x y : Placement) → ◌≡◌ {A = Option Placement} (Some x) (Some y) → x ≡ y
    some_is x y e = cc

-- the least entry of the set has its pair
pub rows_least : (g last : ℕ) (sp : List Span) (all : List Entry) (e : Entry) (rest : List Entry) → drop g all ≡ e ∷ rest → IsFileSet all → rows_of g sp last all e.stamp ≡ Pair (files_of e)
rows_least g last sp all e rest is h =
    let in_set : nat_le g (0 + g) ≡ true = grind (arith, nat_tests) in
    ap (row_at g sp (nat_lt last e.stamp)) (at_place 0 g all e rest is h) ∙ ap (λ (b : Bool). cond b (Pair (files_of e)) (cond (covers sp (0 + g)) (Held (files_of e)) Past)) in_set

-- an entry that is gone and that nobody holds is past
pub rows_past : (g last n : ℕ) (sp : List Span) (all : List Entry) (e : Entry) (rest : List Entry) → drop n all ≡ e ∷ rest → IsFileSet all → n < g → covers sp n ≡ false → rows_of g sp last all e.stamp ≡ Past
rows_past g last n sp all e rest is h lt out =
    let gone : nat_le g (0 + n) ≡ false = grind (arith, nat_tests) in
    let here : covers sp (0 + n) ≡ false = ap (covers sp) (omega arith) ∙ out in
    ap (row_at g sp (nat_lt last e.stamp)) (at_place 0 n all e rest is h)
    ∙ ap (λ (b : Bool). cond b (Pair (files_of e)) (cond (covers sp (0 + n)) (Held (files_of e)) Past)) gone
    ∙ ap (λ (b : Bool). cond b (Held (files_of e)) Past) here

-- the same row where the place isn't the one that leaves
same_row : (g : ℕ) (sp : List Span) (above : Bool) (o : Option Placement) (b i p : Option (List ℕ)) → ((q : Placement) → o ≡ Some q → q.place ≡ g → ⊥) → Fits (row_at g sp above o) b i p → Fits (row_at (g + 1) sp above o) b i p
same_row g sp above None b i p other fits = fits
same_row g sp above (Some q) b i p other fits =
    let no : q.place ≡ g → ⊥ = other q refl in
    let same : nat_le g q.place ≡ nat_le (g + 1) q.place = by_test (nat_le g q.place) (λ x. x ≡ nat_le (g + 1) q.place) (λ k. let t : nat_le (g + 1) q.place ≡ true = grind (arith, nat_tests) in sym t) (λ k. let t : nat_le (g + 1) q.place ≡ false = grind (arith, nat_tests) in sym t) in
    subst (λ (x : Bool). Fits (cond x (Pair q.files) (cond (covers sp q.place) (Held q.files) Past)) b i p) same fits

held_or_past : (c : Bool) (f : Files) (b i p : Option (List ℕ)) → Fits (Held f) b i p → Fits (cond c (Held f) Past) b i p
held_or_past true f b i p fits = fits
held_or_past false f b i p fits = fits.1

pub rows_aged : (g last : ℕ) (sp : List Span) (all : List Entry) (e : Entry) (rest : List Entry) → drop g all ≡ e ∷ rest → IsFileSet all → (c : Folder) → Has (set_row (rows_of g sp last all) e.stamp (Held (files_of e))) c → Has (rows_of (g + 1) sp last all) c
rows_aged g last sp all e rest is rises c h s =
    by_test (nat_eq e.stamp s) (λ z. Fits (rows_of (g + 1) sp last all s) (c (Block s)) (c (Index s)) (c (Parked s)))
    (λ k. subst (λ (q : ℕ). Fits (rows_of (g + 1) sp last all q) (c (Block q)) (c (Index q)) (c (Parked q))) (is_same e.stamp s k)
    (subst (λ (o : Option Placement). Fits (row_at (g + 1) sp (nat_lt last e.stamp) o) (c (Block e.stamp)) (c (Index e.stamp)) (c (Parked e.stamp))) (sym (at_place 0 g all e rest is rises))
    (let gone : nat_le (g + 1) (0 + g) ≡ false = grind (arith, nat_tests) in
    subst (λ (z : Bool). Fits (cond z (Pair (files_of e)) (cond (covers sp (0 + g)) (Held (files_of e)) Past)) (c (Block e.stamp)) (c (Index e.stamp)) (c (Parked e.stamp))) (sym gone)
    (held_or_past (covers sp (0 + g)) (files_of e) (c (Block e.stamp)) (c (Index e.stamp)) (c (Parked e.stamp)) (has_here (rows_of g sp last all) e.stamp (Held (files_of e)) c h)))))
    (λ k. same_row g sp (nat_lt last s) (place_in 0 s all) (c (Block s)) (c (Index s)) (c (Parked s))
    (λ q found at. let same : e.stamp ≡ s = one_stamp 0 e.stamp s all (record { place = 0 + g; files = files_of e }) q (at_place 0 g all e rest is rises) found (let z : 0 + g ≡ g = omega arith in z ∙ sym at) in not_both (nat_eq e.stamp s) k (grind (arith, nat_tests)))
    (has_other (rows_of g sp last all) e.stamp (Held (files_of e)) c h s k))
  where
    not_both : (b : Bool) → b ≡ false → b ≡ true → ⊥
    not_both b e f = cc

-- spans that cover less
pub rows_released : (g last : ℕ) (sp tp : List Span) (all : List Entry) → ((n : ℕ) → covers tp n ≡ true → covers sp n ≡ true) → (s : ℕ) (b i p : Option (List ℕ)) → Fits (rows_of g sp last all s) b i p → Fits (rows_of g tp last all s) b i p
rows_released g last sp tp all less s b i p = at (place_in 0 s all)
  where
    step : (q : Placement) (x y : Bool) → (y ≡ true → x ≡ true) → Fits (cond x (Held q.files) Past) b i p → Fits (cond y (Held q.files) Past) b i p
    step q true true le fits = fits
    step q true false le fits = fits.1
    step q false true le fits = absurd (let no : false ≡ true = le refl in cc)
    step q false false le fits = fits

    at : (o : Option Placement) → Fits (row_at g sp (nat_lt last s) o) b i p → Fits (row_at g tp (nat_lt last s) o) b i p
    at None fits = fits
    at (Some q) fits = by_test (nat_le g q.place) (λ z. Fits (cond z (Pair q.files) (cond (covers sp q.place) (Held q.files) Past)) b i p → Fits (cond z (Pair q.files) (cond (covers tp q.place) (Held q.files) Past)) b i p) (λ k f. f) (λ k f. step q (covers sp q.place) (covers tp q.place) (less q.place) f) fits
