-- A list in ascending order is the only one with its members.
use Rattle.std.proofs.Common.{◌≡◌, ℕ, ◌<◌, List, [], ◌∷◌, refl, sym, subst, arith, inl, inr, ◌⊎◌, ◌∙◌, get_or, zero, suc, Contains}
use Rattle.std.proofs.lemmas.List.Elements.{All-contains, Contains-append_cases, Contains-append_left, Contains-append_right, Contains-push}
use Rattle.st_base.specs.Ascending.{IsAscending}

pub head_in : {A : Type 0} (x : A) (xs : List A) → Contains (x ∷ xs) x
head_in x xs = Contains-append_left (x ∷ []) xs x (Contains-push [] x)

pub tail_in : {A : Type 0} (x : A) (xs : List A) (y : A) → Contains xs y → Contains (x ∷ xs) y
tail_in x xs y h = Contains-append_right (x ∷ []) xs y h

pub none_in : {A : Type 0} (x : A) → Contains [] x → ⊥
none_in x h = absurd (omega (arith, h.1))

one_in : {A : Type 0} (x y : A) (k : ℕ) → k < 1 → get_or (x ∷ []) k y ≡ y → x ≡ y
one_in x y zero below is = is
one_in x y (suc k) below is = absurd (omega (arith, below))

pub in_cases : {A : Type 0} (x : A) (xs : List A) (y : A) → Contains (x ∷ xs) y → (x ≡ y) ⊎ Contains xs y
in_cases x xs y h =
    elim (Contains-append_cases (x ∷ []) xs y h) [ inl one ↦ inl (one_in x y one.0 one.1 one.2) | inr rest ↦ inr rest ]

-- of two members at most one comes before the other
abbrev pub IsOneWay : {A : Type 0} → (A → A → Type 0) → Type 0
IsOneWay {A} R = (a b : A) → R a b → R b a → ⊥

-- a member of the one tail is one of the other
tails : {A : Type 0} (R : A → A → Type 0) (one_way : IsOneWay R) (x y : A) (xs ys : List A) → x ≡ y → IsAscending R (x ∷ xs)
    → ((z : A) → Contains (x ∷ xs) z → Contains (y ∷ ys) z) → (z : A) → Contains xs z → Contains ys z
tails R one_way x y xs ys same r there z h =
    elim (in_cases y ys z (there z (tail_in x xs z h))) [
      | inl e ↦ let before : R x z = All-contains (R x) xs z r.0 h in
          let itself : R z z = subst (λ a. R a z) (same ∙ e) before in
          absurd (one_way z z itself itself)
      | inr rest ↦ rest
    ]

heads : {A : Type 0} (R : A → A → Type 0) (one_way : IsOneWay R) (x y : A) (xs ys : List A) → IsAscending R (x ∷ xs) → IsAscending R (y ∷ ys)
    → Contains (y ∷ ys) x → Contains (x ∷ xs) y → x ≡ y
heads R one_way x y xs ys r s mine yours =
    elim (in_cases y ys x mine) [
      | inl e ↦ sym e
      | inr later ↦ elim (in_cases x xs y yours) [
        | inl e ↦ e
        | inr behind ↦ absurd (one_way x y (All-contains (R x) xs y r.0 behind) (All-contains (R y) ys x s.0 later))
      ]
    ]

pub one_order : {A : Type 0} (R : A → A → Type 0) (one_way : IsOneWay R) (xs ys : List A) → IsAscending R xs → IsAscending R ys
    → ((z : A) → Contains xs z → Contains ys z) → ((z : A) → Contains ys z → Contains xs z) → xs ≡ ys
one_order R one_way [] [] r s there back = refl
one_order R one_way [] (y ∷ ys) r s there back = absurd (none_in y (back y (head_in y ys)))
one_order R one_way (x ∷ xs) [] r s there back = absurd (none_in x (there x (head_in x xs)))
one_order R one_way (x ∷ xs) (y ∷ ys) r s there back =
    let head : x ≡ y = heads R one_way x y xs ys r s (there x (head_in x xs)) (back y (head_in y ys)) in
    let rest : xs ≡ ys = one_order R one_way xs ys r.1 s.1 (tails R one_way x y xs ys head r there) (tails R one_way y x ys xs (sym head) s back) in
    cc
