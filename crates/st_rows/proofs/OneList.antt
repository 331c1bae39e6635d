-- Lists that rise in some order are determined by what they contain.
use Rattle.std.proofs.Common.{◌≡◌, ℕ, zero, suc, ◌<◌, Bool, true, false, ◌||◌, List, [], ◌∷◌, IsTrue, AllPairs, Contains, ◌⊎◌, inl, inr, refl, sym, ap₂, ◌∙◌, subst, arith, true≢false, ⊎_elim, nat_eq, eq-eqb}
use Rattle.std.proofs.lemmas.Bool.Decides.{nat_tests}
use Rattle.st_rows.specs.Positions.{has}
use Rattle.st_rows.specs.Laws.{OneRisingList}

pub there : {X : Type 0} (x y : X) (xs : List X) → Contains xs y → Contains (x ∷ xs) y
there x y xs (k, less, e) = (suc k, omega arith, e)

pub here : {X : Type 0} (x : X) (xs : List X) → Contains (x ∷ xs) x
here x xs = (0, omega arith, refl)

pub here_or : {X : Type 0} (x y : X) (xs : List X) → Contains (x ∷ xs) y → (x ≡ y) ⊎ Contains xs y
here_or x y xs (zero, less, e) = inl e
here_or x y xs (suc k, less, e) = inr (k, omega arith, e)

pub none : {X : Type 0} {A : Type 0} (x : X) → Contains [] x → A
none x (k, less, e) = let no : ⊥ = omega arith in absurd no

-- each is below the next and all later ones
abbrev pub Sorted : {X : Type 0} → (X → X → Type 0) → List X → Type 0
Sorted lt [] = Unit {0}
Sorted {X} lt (x ∷ xs) = ((y : X) → Contains xs y → lt x y) × Sorted lt xs

pub sorted_from : {X : Type 0} (lt : X → X → Type 0) (xs : List X) → AllPairs lt xs → Sorted lt xs
sorted_from lt [] h = tt
sorted_from lt (x ∷ xs) h = ((λ y c. let i = h 0 (suc c.0) y (omega arith) (let less = c.1 in omega arith) in subst (λ z. lt x z) c.2 i), sorted_from lt xs (λ i j d less under. h (suc i) (suc j) d (omega arith) (omega arith)))

module _ {X : Type 0} (lt : X → X → Type 0) (trans : (x y z : X) → lt x y → lt y z → lt x z) (never : (x : X) → lt x x → ⊥) where
  first : (x y : X) (xs ys : List X) → Sorted lt (x ∷ xs) → Sorted lt (y ∷ ys) → Contains (y ∷ ys) x → Contains (x ∷ xs) y → x ≡ y
  first x y xs ys s t c d = ⊎_elim sym' (λ later. ⊎_elim (λ e. e) (λ other. absurd (never x (trans x y x (s.0 y other) (t.0 x later)))) (here_or x y xs d)) (here_or y x ys c)
    where
      sym' : y ≡ x → x ≡ y
      sym' e = sym e

  rest : (x y : X) (xs ys : List X) → x ≡ y → Sorted lt (x ∷ xs) → ((z : X) → Contains (x ∷ xs) z → Contains (y ∷ ys) z) → (z : X) → Contains xs z → Contains ys z
  rest x y xs ys same s f z c = ⊎_elim (λ e. absurd (never x (subst (λ (w : X). lt x w) (sym (same ∙ e)) (s.0 z c)))) (λ d. d) (here_or y z ys (f z (there x z xs c)))

  pub one_sorted : (xs ys : List X) → Sorted lt xs → Sorted lt ys → ((z : X) → Contains xs z → Contains ys z) → ((z : X) → Contains ys z → Contains xs z) → xs ≡ ys
  one_sorted [] [] s t f g = refl
  one_sorted [] (y ∷ ys) s t f g = none y (g y (here y ys))
  one_sorted (x ∷ xs) [] s t f g = none x (f x (here x xs))
  one_sorted (x ∷ xs) (y ∷ ys) s t f g =
      let same = first x y xs ys s t (f x (here x xs)) (g y (here y ys)) in
      ap₂ (λ (z : X) (zs : List X). z ∷ zs) same (one_sorted xs ys s.1 t.1 (rest x y xs ys same s f) (rest y x ys xs (sym same) t g))

-- ---- positions

pub has_from : (xs : List ℕ) (p : ℕ) → Contains xs p → IsTrue (has xs p)
has_from [] p c = none p c
has_from (x ∷ xs) p c = ⊎_elim (λ e. left (nat_eq p x) (has xs p) (eq-eqb p x (sym e))) (λ d. right (nat_eq p x) (has xs p) (has_from xs p d)) (here_or x p xs c)
  where
    left : (a b : Bool) → a ≡ true → (a || b) ≡ true
    left true b h = refl
    left false b h = absurd (true≢false (sym h))

    right : (a b : Bool) → b ≡ true → (a || b) ≡ true
    right true b h = refl
    right false b h = h

pub has_to : (xs : List ℕ) (p : ℕ) → IsTrue (has xs p) → Contains xs p
has_to [] p h = absurd (true≢false (sym h))
has_to (x ∷ xs) p h = elim (nat_eq p x) as (λ b. nat_eq p x ≡ b → IsTrue (b || has xs p) → Contains (x ∷ xs) p) [
  | true ↦ λ e i. let same : p ≡ x = grind (arith, nat_tests) in subst (λ (q : ℕ). Contains (x ∷ xs) q) (sym same) (here x xs)
  | false ↦ λ e i. there x p xs (has_to xs p i)
] refl h

pub one_rising_list : OneRisingList
one_rising_list ps qs s t e =
    one_sorted (λ a b. a < b) (λ x y z h i. omega arith) (λ x h. omega arith) ps qs (sorted_from (λ a b. a < b) ps s) (sorted_from (λ a b. a < b) qs t)
    (λ z c. has_to qs z ((e z).0 (has_from ps z c))) (λ z c. has_to ps z ((e z).1 (has_from qs z c)))
