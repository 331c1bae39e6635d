-- The lists of one kind of keys that have positions rise by their keys, and are all of them.
use Rattle.std.proofs.Common.{◌≡◌, ℕ, zero, suc, ◌+◌, ◌<◌, List, [], ◌∷◌, length, IsTrue, All, Contains, slice_index_or, ◌⊎◌, inl, inr, refl, sym, ap, ◌∙◌, subst, arith, true≢false, ⊎_elim, Option, Some, None, Vec, is_some, nat_cmp, is_lt, Less, unwrap_or, option_map}
use Rattle.std.specs.Prelude.{slice_get}
use Rattle.std.specs.Global.{Global}
use Rattle.std.specs.BTreeMap.{BTreeMap, get, IsOrdered, is_at}
use Rattle.std.specs.Map.{keys_of}
use Rattle.std.proofs.lemmas.Map.Entries.{place_from_lookup}
use Rattle.std.specs.List.{AllByRecursion}
use Rattle.std.specs.List.Sorted.{IsStrictlySortedBy}
use Rattle.std.proofs.lemmas.Bool.Decides.{nat_tests}
use Rattle.std.proofs.lemmas.Option.{slice_get_cases}
use Rattle.std.proofs.lemmas.List.Elements.{All-contains}
use Rattle.st_walk.specs.declared.text.Key.{Key}
use Rattle.st_rows.specs.KeyOrder.{key_cmp}
use Rattle.st_index.specs.NumberedLists.{at_number, list_at}
use Rattle.st_index.specs.PositionLists.{positions_at}
use Rattle.st_index.specs.EntryLists.{KeyList, list_before, lists_of_numbers, lists_of_values}
use Rattle.st_index.specs.KeyLists.{Ascend}
use Rattle.st_index.specs.declared.lists.PositionLists.{PositionLists}
use Rattle.st_index.proofs.Ties.{tied}

pub here : {X : Type 0} (x : X) (xs : List X) → Contains (x ∷ xs) x
here x xs = (0, omega arith, refl)

pub there : {X : Type 0} (x y : X) (xs : List X) → Contains xs y → Contains (x ∷ xs) y
there x y xs (k, less, e) = (suc k, omega arith, e)

here_or : {X : Type 0} (x y : X) (xs : List X) → Contains (x ∷ xs) y → (x ≡ y) ⊎ Contains xs y
here_or x y xs (zero, less, e) = inl e
here_or x y xs (suc k, less, e) = inr (k, omega arith, e)

none_in : {X : Type 0} {A : Type 0} (x : X) → Contains [] x → A
none_in x (k, less, e) = let no : ⊥ = omega arith in absurd no

-- ---- a list before others

before_cases : (k : Key) (ps : List ℕ) (rest : List KeyList) (x : KeyList) → Contains (list_before k ps rest) x → ((x.0 ≡ k) × (x.1 ≡ ps) × (0 < length ps)) ⊎ Contains rest x
before_cases k [] rest x c = inr c
before_cases k (p ∷ ps) rest x c = ⊎_elim (λ e. inl (ap (λ (y : KeyList). y.0) (sym e), ap (λ (y : KeyList). y.1) (sym e), omega arith)) (λ d. inr d) (here_or (k, p ∷ ps) x rest c)

before_here : (k : Key) (ps : List ℕ) (rest : List KeyList) → 0 < length ps → Contains (list_before k ps rest) (k, ps)
before_here k [] rest some = absurd (omega arith)
before_here k (p ∷ ps) rest some = here (k, p ∷ ps) rest

before_there : (k : Key) (ps : List ℕ) (rest : List KeyList) (x : KeyList) → Contains rest x → Contains (list_before k ps rest) x
before_there k [] rest x c = c
before_there k (p ∷ ps) rest x c = there (k, p ∷ ps) x rest c

-- a key is before another
abbrev pub Lower : Key → Key → Type 0
Lower k j = IsTrue (is_lt (key_cmp k j))

before_ascend : (k : Key) (ps : List ℕ) (rest : List KeyList) → ((y : KeyList) → Contains rest y → Lower k y.0) → Ascend rest → Ascend (list_before k ps rest)
before_ascend k [] rest low h = h
before_ascend k (p ∷ ps) rest low h = (low, h)

-- ---- lists by number

numbers_each : (key : ℕ → Key) (n : ℕ) (vs : List (Vec ℕ Global)) (x : KeyList) → Contains (lists_of_numbers key n vs) x
    → (i : ℕ) × (x.0 ≡ key (n + i)) × (x.1 ≡ at_number vs i) × (0 < length x.1)
numbers_each key n [] x c = none_in x c
numbers_each key n (v ∷ vs) x c = ⊎_elim
    (λ (e, f, some). (0, e ∙ ap key (let z : n ≡ n + 0 = omega arith in z), f, subst (λ (ps : List ℕ). 0 < length ps) (sym f) some))
    (λ d. let (i, e, f, some) = numbers_each key (n + 1) vs x d in (suc i, e ∙ ap key (let z : n + 1 + i ≡ n + suc i = omega arith in z), f, some))
    (before_cases (key n) v.items (lists_of_numbers key (n + 1) vs) x c)

numbers_all : (key : ℕ → Key) (n : ℕ) (vs : List (Vec ℕ Global)) (i : ℕ) → 0 < length (at_number vs i) → Contains (lists_of_numbers key n vs) (key (n + i), at_number vs i)
numbers_all key n [] i some = absurd (omega arith)
numbers_all key n (v ∷ vs) zero some =
    let z : n ≡ n + 0 = omega arith in
    subst (λ m. Contains (lists_of_numbers key n (v ∷ vs)) (key m, v.items)) z (before_here (key n) v.items (lists_of_numbers key (n + 1) vs) some)
numbers_all key n (v ∷ vs) (suc i) some =
    let z : n + 1 + i ≡ n + suc i = omega arith in
    subst (λ m. Contains (lists_of_numbers key n (v ∷ vs)) (key m, at_number vs i)) z
    (before_there (key n) v.items (lists_of_numbers key (n + 1) vs) (key (n + 1 + i), at_number vs i) (numbers_all key (n + 1) vs i some))

pub numbers_ascend : (key : ℕ → Key) (n : ℕ) (vs : List (Vec ℕ Global)) → ((i j : ℕ) → i < j → Lower (key i) (key j)) → Ascend (lists_of_numbers key n vs)
numbers_ascend key n [] low = tt
numbers_ascend key n (v ∷ vs) low = before_ascend (key n) v.items (lists_of_numbers key (n + 1) vs)
    (λ y c. let (i, e, f, some) = numbers_each key (n + 1) vs y c in subst (λ (k : Key). Lower (key n) k) (sym e) (low n (n + 1 + i) (omega arith)))
    (numbers_ascend key (n + 1) vs low)

-- ---- the entries of a map

entries_each : {X : Type 0} (list : X → List ℕ) (key : ℕ → Key) (es : List (ℕ × X)) (x : KeyList) → Contains (lists_of_values list key es) x
    → (n : ℕ) × (v : X) × Contains es (n, v) × (x.0 ≡ key n) × (x.1 ≡ list v) × (0 < length x.1)
entries_each list key [] x c = none_in x c
entries_each list key (e ∷ es) x c = ⊎_elim
    (λ (f, g, some). (e.0, e.1, here e es, f, g, subst (λ (ps : List ℕ). 0 < length ps) (sym g) some))
    (λ d. let (n, v, m, f, g, some) = entries_each list key es x d in (n, v, there e (n, v) es m, f, g, some))
    (before_cases (key e.0) (list e.1) (lists_of_values list key es) x c)

entries_all : {X : Type 0} (list : X → List ℕ) (key : ℕ → Key) (es : List (ℕ × X)) (n : ℕ) (v : X) → Contains es (n, v) → 0 < length (list v) → Contains (lists_of_values list key es) (key n, list v)
entries_all list key [] n v c some = none_in (n, v) c
entries_all {X} list key (e ∷ es) n v c some = ⊎_elim
    (λ f. subst (λ (x : ℕ × X). Contains (lists_of_values list key (e ∷ es)) (key x.0, list x.1)) f (before_here (key e.0) (list e.1) (lists_of_values list key es) (subst (λ (x : ℕ × X). 0 < length (list x.1)) (sym f) some)))
    (λ d. before_there (key e.0) (list e.1) (lists_of_values list key es) (key n, list v) (entries_all list key es n v d some))
    (here_or e (n, v) es c)

by_recursion : {X : Type 0} (P : X → Type 0) (xs : List X) → AllByRecursion P xs → (x : X) → Contains xs x → P x
by_recursion P [] h x c = none_in x c
by_recursion P (y ∷ ys) h x c = ⊎_elim (λ e. subst P e h.0) (λ d. by_recursion P ys h.1 x d) (here_or y x ys c)

number_in : {X : Type 0} (es : List (ℕ × X)) (n : ℕ) (v : X) → Contains es (n, v) → Contains (keys_of es) n
number_in [] n v c = none_in (n, v) c
number_in {X} (e ∷ es) n v c = ⊎_elim (λ f. subst (λ (x : ℕ × X). Contains (e.0 ∷ keys_of es) x.0) f (here e.0 (keys_of es))) (λ d. there e.0 n (keys_of es) (number_in es n v d)) (here_or e (n, v) es c)

below : (a b : ℕ) → nat_cmp a b ≡ Less → a < b
below a b h = grind (arith, nat_tests)

pub entries_ascend : {X : Type 0} (list : X → List ℕ) (key : ℕ → Key) (es : List (ℕ × X)) → ((i j : ℕ) → i < j → Lower (key i) (key j)) → IsStrictlySortedBy nat_cmp (keys_of es) → Ascend (lists_of_values list key es)
unfolding IsStrictlySortedBy
entries_ascend list key [] low h = tt
entries_ascend list key (e ∷ es) low h = before_ascend (key e.0) (list e.1) (lists_of_values list key es)
    (λ y c. let (n, v, m, f, g, some) = entries_each list key es y c in
    let less : nat_cmp e.0 n ≡ Less = by_recursion (λ (k : ℕ). nat_cmp e.0 k ≡ Less) (keys_of es) h.0 n (number_in es n v m) in
    subst (λ (k : Key). Lower (key e.0) k) (sym f) (low e.0 n (below e.0 n less)))
    (entries_ascend list key es low h.1)

from_place : {X : Type 0} (xs : List X) (i : ℕ) (x : X) → slice_get xs i ≡ Some x → Contains xs x
from_place xs i x e = ⊎_elim
    (λ (y, less, f, g). let same : y ≡ x = ap (λ o. unwrap_or o y) (sym f ∙ e) in (i, less, subst (λ z. slice_index_or xs i z ≡ z) same g))
    (λ (past, f). absurd (true≢false (ap is_some (sym e ∙ f))))
    (slice_get_cases xs i).1

-- the list of a number that has positions is an entry
entry_of : {X : Type 0} (list : X → List ℕ) (m : BTreeMap ℕ X) (n : ℕ) → 0 < length (list_at list nat_cmp m n) → (v : X) × (get nat_cmp m n ≡ Some v) × Contains m.entries (n, v)
entry_of {X} list m n some = elim (get nat_cmp m n) as (λ (o : Option X). get nat_cmp m n ≡ o → 0 < length (unwrap_or (option_map list o) []) → (v : X) × (get nat_cmp m n ≡ Some v) × Contains m.entries (n, v)) [
  | None ↦ λ e h. absurd (omega (arith, h))
  | Some v ↦ λ e h.
      let (i, j, place, passed) = place_from_lookup (is_at (nat_cmp n)) m.entries v e in
      let same : n ≡ j = tied n j passed in
      (v, e, subst (λ (x : ℕ). Contains m.entries (x, v)) (sym same) (from_place m.entries i (j, v) place))
] refl some

-- ---- one kind of keys

-- a map's keys ascend, and each entry is found by its key
abbrev pub IsMap : {X : Type 0} → BTreeMap ℕ X → Type 0
IsMap m = IsOrdered nat_cmp m × All (λ e. get nat_cmp m e.0 ≡ Some e.1) m.entries

-- a list of a kind: its key, and its positions
abbrev pub IsOf : PositionLists → (ℕ → Key) → KeyList → Type 0
IsOf l key x = (n : ℕ) × (x.0 ≡ key n) × (x.1 ≡ positions_at l x.0) × (0 < length x.1)

pub of_number : (l : PositionLists) (key : ℕ → Key) (vs : List (Vec ℕ Global)) → ((n : ℕ) → positions_at l (key n) ≡ at_number vs n) → (x : KeyList) → Contains (lists_of_numbers key 0 vs) x → IsOf l key x
of_number l key vs own x c =
    let (i, e, f, some) = numbers_each key 0 vs x c in
    let name : x.0 ≡ key i = e ∙ ap key (let z : 0 + i ≡ i = omega arith in z) in
    (i, name, f ∙ (sym (own i) ∙ ap (positions_at l) (sym name)), some)

pub of_number_all : (key : ℕ → Key) (vs : List (Vec ℕ Global)) (n : ℕ) → 0 < length (at_number vs n) → Contains (lists_of_numbers key 0 vs) (key n, at_number vs n)
of_number_all key vs n some = let z : 0 + n ≡ n = omega arith in subst (λ m. Contains (lists_of_numbers key 0 vs) (key m, at_number vs n)) z (numbers_all key 0 vs n some)

list_of : {X : Type 0} (list : X → List ℕ) (m : BTreeMap ℕ X) (n : ℕ) (v : X) → get nat_cmp m n ≡ Some v → list_at list nat_cmp m n ≡ list v
list_of {X} list m n v e = ap (λ (o : Option X). unwrap_or (option_map list o) []) e

pub of_map : {X : Type 0} (l : PositionLists) (key : ℕ → Key) (list : X → List ℕ) (m : BTreeMap ℕ X) → ((n : ℕ) → positions_at l (key n) ≡ list_at list nat_cmp m n) → IsMap m → (x : KeyList) → Contains (lists_of_values list key m.entries) x → IsOf l key x
of_map {X} l key list m own is x c =
    let (n, v, i, e, f, some) = entries_each list key m.entries x c in
    let there_is = All-contains (λ (e : ℕ × X). get nat_cmp m e.0 ≡ Some e.1) m.entries (n, v) is.1 i in
    (n, e, f ∙ (sym (list_of list m n v there_is) ∙ (sym (own n) ∙ ap (positions_at l) (sym e))), some)

pub of_map_all : {X : Type 0} (key : ℕ → Key) (list : X → List ℕ) (m : BTreeMap ℕ X) (n : ℕ) → 0 < length (list_at list nat_cmp m n) → Contains (lists_of_values list key m.entries) (key n, list_at list nat_cmp m n)
of_map_all key list m n some =
    let (v, e, c) = entry_of list m n some in
    let same = list_of list m n v e in
    subst (λ (ps : List ℕ). Contains (lists_of_values list key m.entries) (key n, ps)) (sym same)
    (entries_all list key m.entries n v c (subst (λ (ps : List ℕ). 0 < length ps) same some))
