-- Files in a list, of which one was read.
use Rattle.std.proofs.Common.{Option, ◌≡◌, ℕ, ◌+◌, ◌<◌, ◌≤◌, List, [], ◌∷◌, ◌++◌, Some, length, map, take, drop, get_or, set, sym, ap, ◌∙◌, subst, arith}
use Rattle.std.specs.Prelude.{All}
use Rattle.std.specs.List.{flat_map, sum_by}
use Rattle.std.proofs.lemmas.Grind.{common_steps}
use Rattle.std.proofs.lemmas.List.{take-append-le, map-set, get_or-map, set-get_or, take_more, length-map, take-append-drop, append-nil}
use Rattle.std.proofs.lemmas.List.Concat.{flat_map-append}
use Rattle.std.proofs.lemmas.List.Sums.{sum_by-set, sum_by_more, sum_by-take-drop, get_or-le-sum_by}

-- what the files have in common stays, if it stays of the one that was read
pub map_set_same : {F Y : Type 0} (f : F → Y) (fs : List F) (i : ℕ) (d y : F) → i < length fs → f y ≡ f (get_or fs i d) → map f (set fs i y) ≡ map f fs
map_set_same f fs i d y lt same =
    map-set f fs i y ∙ (ap (set (map f fs) i) (same ∙ sym (get_or-map f fs i d (f d) lt)) ∙ set-get_or (map f fs) i (f d))

-- of one file what is known of all
pub known_at : {F Y : Type 0} (f : F → Option Y) (fs : List F) (ys : List Y) (i : ℕ) (d : F) (y : Y) → i < length fs → map f fs ≡ map Some ys → f (get_or fs i d) ≡ Some (get_or ys i y)
known_at f fs ys i d y lt e =
    let len : length fs ≡ length ys = sym (length-map fs f) ∙ (ap length e ∙ length-map ys Some) in
    sym (get_or-map f fs i d (f d) lt) ∙ (ap (λ z. get_or z i (f d)) e ∙ get_or-map Some ys i y (f d) (subst (λ n. i < n) len lt))

-- a count of one file that rose by so many at most
pub sum_set_le : {F : Type 0} (f : F → ℕ) (fs : List F) (i : ℕ) (d y : F) (k : ℕ) → i < length fs → f y ≤ f (get_or fs i d) + k → sum_by f (set fs i y) ≤ sum_by f fs + k
sum_set_le f fs i d y k lt le = omega (arith, sum_by-set f fs i y d lt, le)

-- a count of one file that is above 0
pub sum_set_some : {F : Type 0} (f : F → ℕ) (fs : List F) (i : ℕ) (d y : F) → i < length fs → 0 < f y → 0 < sum_by f (set fs i y)
sum_set_some f fs i d y lt some =
    let rest = get_or-le-sum_by f fs i d lt in
    omega (arith, sum_by-set f fs i y d lt, some, rest)

pub sum_next_le : {X : Type 0} (f : X → ℕ) (xs : List X) (i : ℕ) (d : X) → i < length xs → sum_by f (take i xs) + f (get_or xs i d) ≤ sum_by f xs
sum_next_le f xs i d lt = omega (arith, sum_by_more f xs i d lt, sum_by-take-drop f xs (i + 1))

-- what is made of a list up to one item more, and of a whole list
pub flat_next : {X A : Type 0} (f : X → List A) (xs : List X) (i : ℕ) (d : X) → i < length xs → flat_map f (take (i + 1) xs) ≡ flat_map f (take i xs) ++ f (get_or xs i d)
flat_next f xs i d lt = ap (flat_map f) (take_more xs i d lt) ∙ (flat_map-append f (take i xs) (get_or xs i d ∷ []) ∙ ap (λ z. flat_map f (take i xs) ++ z) (append-nil _))

pub flat_split : {X A : Type 0} (f : X → List A) (xs : List X) (i : ℕ) (d : X) → i < length xs → flat_map f xs ≡ (flat_map f (take i xs) ++ f (get_or xs i d)) ++ flat_map f (drop (i + 1) xs)
flat_split f xs i d lt =
    ap (flat_map f) (sym (take-append-drop (i + 1) xs)) ∙ (flat_map-append f (take (i + 1) xs) (drop (i + 1) xs) ∙ ap (λ z. z ++ flat_map f (drop (i + 1) xs)) (flat_next f xs i d lt))

-- where the files come from stays, if what `beside` tells of them does
pub home_kept : {F B : Type 0} (beside : F → B) (home : F → ℕ) (keeps : (a b : F) → beside a ≡ beside b → home a ≡ home b) (xs ys : List F) (n : ℕ) → map beside ys ≡ map beside xs → All (λ f. home f ≡ n) xs → All (λ f. home f ≡ n) ys
home_kept beside home keeps xs ys n e all k d lt =
    let len : length ys ≡ length xs = sym (length-map ys beside) ∙ (ap length e ∙ length-map xs beside) in
    let lt' : k < length xs = subst (λ m. k < m) len lt in
    let same : beside (get_or ys k d) ≡ beside (get_or xs k d) = sym (get_or-map beside ys k d (beside d) lt) ∙ (ap (λ z. get_or z k (beside d)) e ∙ get_or-map beside xs k d (beside d) lt') in
    keeps (get_or ys k d) (get_or xs k d) same ∙ all k d lt'

pub len_kept : {F B : Type 0} (beside : F → B) (xs ys : List F) → map beside ys ≡ map beside xs → length ys ≡ length xs
len_kept beside xs ys e = sym (length-map ys beside) ∙ (ap length e ∙ length-map xs beside)

-- a slice of the whole list, put back
pub put_back : {F : Type 0} (n : ℕ) (old new : List F) → n ≡ length old → length new ≡ length old → take n (new ++ drop (length new) old) ≡ new
put_back n old new e same =
    let le : n ≤ length new = omega (arith, e, same) in
    let all : take n new ≡ new = grind (arith, common_steps, e, same) in
    take-append-le n new (drop (length new) old) le ∙ all
