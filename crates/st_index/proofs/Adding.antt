-- One position more in the lists of a frame's keys.
use Rattle.std.proofs.Common.{◌≡◌, ℕ, zero, suc, ◌-◌, ◌<◌, true, false, ◌&&◌, nat_eq, nat_lt, List, [], ◌∷◌, ◌++◌, length, length-append, take, IsFalse, All, Contains, slice_index_or, ◌⊎◌, inl, inr, refl, sym, ap, ◌∙◌, subst, arith, ⊎_elim}
use Rattle.std.proofs.lemmas.Bool.{cases_eq}
use Rattle.std.proofs.lemmas.Grind.{common_steps}
use Rattle.std.proofs.lemmas.Bool.Decides.{nat_tests}
use Rattle.st_walk.specs.declared.text.Key.{Key}
use Rattle.st_walk.specs.declared.text.Key.TheVariants as key
use Rattle.st_walk.specs.Walk.{FrameHas, HasKey}
use Rattle.st_walk.proofs.Seconds.{never}
use Rattle.st_rows.specs.KeyOrder.{number_of}
use Rattle.st_index.specs.NumberedLists.{ends_with, with_last, without_last, Gained, MayHave}

-- two keys are one or two
by_number : (k j : Key) (n m : ℕ) → n ≡ number_of k → m ≡ number_of j → (n ≡ m → k ≡ j) → (k ≡ j) ⊎ (k ≡ j → ⊥)
by_number k j n m e f same = ⊎_elim (λ h. inl (same h)) (λ h. inr (λ i. h (e ∙ (ap number_of i ∙ sym f)))) (cases_eq n m)

pub cases_key : (k j : Key) → (k ≡ j) ⊎ (k ≡ j → ⊥)
cases_key (key.Proto n) (key.Proto m) = by_number _ _ n m refl refl (λ h. ap (λ x. key.Proto x) h)
cases_key (key.Port n) (key.Port m) = by_number _ _ n m refl refl (λ h. ap (λ x. key.Port x) h)
cases_key (key.Vlan n) (key.Vlan m) = by_number _ _ n m refl refl (λ h. ap (λ x. key.Vlan x) h)
cases_key (key.V4 n) (key.V4 m) = by_number _ _ n m refl refl (λ h. ap (λ x. key.V4 x) h)
cases_key (key.Mpls n) (key.Mpls m) = by_number _ _ n m refl refl (λ h. ap (λ x. key.Mpls x) h)
cases_key (key.V6 n) (key.V6 m) = by_number _ _ n m refl refl (λ h. ap (λ x. key.V6 x) h)
cases_key (key.Second n) (key.Second m) = by_number _ _ n m refl refl (λ h. ap (λ x. key.Second x) h)
cases_key _ _ = inr (λ h. cc)

-- a list behind a position ends_with with it
ends_push : (xs : List ℕ) (p : ℕ) → ends_with (xs ++ p ∷ []) p ≡ true
ends_push xs p = grind (arith, common_steps, nat_tests)

not_last : (q n p : ℕ) → q < p → (nat_lt 0 n && nat_eq q p) ≡ false
not_last q n p h = grind (arith, nat_tests)

pub fresh : (xs : List ℕ) (p : ℕ) → All (λ q. q < p) xs → IsFalse (ends_with xs p)
fresh [] p h = refl
fresh (x ∷ xs) p h =
    let last = h (length xs) 0 (omega arith) in
    let place : suc (length xs) - 1 ≡ length xs = omega arith in
    rw place (not_last (slice_index_or (x ∷ xs) (length xs) 0) (suc (length xs)) p last)

once_more : (xs : List ℕ) (p : ℕ) → with_last (xs ++ p ∷ []) p ≡ xs ++ p ∷ []
once_more xs p = rw (ends_push xs p) refl

once_new : (xs : List ℕ) (p : ℕ) → IsFalse (ends_with xs p) → with_last xs p ≡ xs ++ p ∷ []
once_new xs p h = rw h refl

-- and taking it out again
take_before : (xs : List ℕ) (p : ℕ) → take (length xs) (xs ++ p ∷ []) ≡ xs
take_before [] p = refl
take_before (x ∷ xs) p = ap (λ ys. x ∷ ys) (take_before xs p)

out_again : (xs : List ℕ) (p : ℕ) → without_last (xs ++ p ∷ []) p ≡ xs
out_again xs p =
    let all = length-append xs (p ∷ []) in
    let place : length (xs ++ p ∷ []) - 1 ≡ length xs = omega (arith, all) in
    rw (ends_push xs p) (ap (λ n. take n (xs ++ p ∷ [])) place ∙ take_before xs p)

out_of_none : (xs : List ℕ) (p : ℕ) → IsFalse (ends_with xs p) → without_last xs p ≡ xs
out_of_none xs p h = rw h refl

-- a list of a key that the walk goes on to, or that it has passed
abbrev pub Pushed : Type 0 → List ℕ → List ℕ → ℕ → Type 0 → Type 0
Pushed Has before now p left = ((now ≡ before ++ p ∷ []) × Has) ⊎ ((now ≡ before) × (Has → left))

here_or : (x y : Key) (xs : List Key) → Contains (x ∷ xs) y → (x ≡ y) ⊎ Contains xs y
here_or x y xs (zero, less, e) = inl e
here_or x y xs (suc k, less, e) = inr (k, omega arith, e)

pub pushed_on : (Has : Type 0) (k j : Key) (left rest : List Key) (before now next : List ℕ) (p : ℕ)
    → left ≡ j ∷ rest → (k ≡ j → Has) → IsFalse (ends_with before p) → (k ≡ j → next ≡ with_last now p)
    → (k ≡ j) ⊎ (next ≡ now)
    → Pushed Has before now p (Contains left k) → Pushed Has before next p (Contains rest k)
pushed_on Has k j left rest before now next p e own new here others h = ⊎_elim
    (λ same. ⊎_elim
    (λ (n, g). inl (here same ∙ (ap (λ xs. with_last xs p) n ∙ once_more before p), g))
    (λ (n, f). inl (here same ∙ (ap (λ xs. with_last xs p) n ∙ once_new before p new), own same))
    h)
    (λ apart.
    let kept : next ≡ now = ⊎_elim (λ s. absurd (apart s)) (λ s. s) others in
    ⊎_elim
    (λ (n, g). inl (kept ∙ n, g))
    (λ (n, f). inr (kept ∙ n, λ g. ⊎_elim (λ s. absurd (apart (sym s))) (λ c. c) (here_or j k rest (subst (λ (ks : List Key). Contains ks k) e (f g)))))
    h)
    (cases_key k j)

-- when the walk is over
not_left : {A : Type 0} (k : Key) (left : List Key) → left ≡ [] → Contains left k → A
not_left k left e c = let d = subst (λ (ks : List Key). Contains ks k) e c in let less = d.1 in let no : ⊥ = omega arith in absurd no

pub pushed_all : (Has : Type 0) (k : Key) (left : List Key) (before now : List ℕ) (p : ℕ) → left ≡ [] → Pushed Has before now p (Contains left k) → Gained Has before now p
pushed_all Has k left before now p e h = ⊎_elim (λ (n, g). inl (n, g)) (λ (n, f). inr (n, λ x. not_left k left e (f x))) h

-- what is taken from such lists, when the walk can't go on
pub pushed_may : (Has : Type 0) (before now again : List ℕ) (p : ℕ) (left : Type 0) → again ≡ now → Pushed Has before now p left → MayHave Has before again p
pushed_may Has before now again p left same h = ⊎_elim (λ (n, g). inl (same ∙ n, g)) (λ (n, f). inr (same ∙ n)) h

pub gained_may : (Has : Type 0) (before now again : List ℕ) (p : ℕ) → again ≡ now → Gained Has before now p → MayHave Has before again p
gained_may Has before now again p same h = ⊎_elim (λ (n, g). inl (same ∙ n, g)) (λ (n, f). inr (same ∙ n)) h

pub taken_on : (k j : Key) (left rest : List Key) (ps now next : List ℕ) (p : ℕ)
    → left ≡ j ∷ rest → IsFalse (ends_with ps p) → (k ≡ j → next ≡ without_last now p) → (k ≡ j) ⊎ (next ≡ now)
    → MayHave (Contains left k) ps now p → MayHave (Contains rest k) ps next p
taken_on k j left rest ps now next p e new here others h = ⊎_elim
    (λ same. inr (here same ∙ ⊎_elim
    (λ (n, c). ap (λ xs. without_last xs p) n ∙ out_again ps p)
    (λ n. ap (λ xs. without_last xs p) n ∙ out_of_none ps p new)
    h))
    (λ apart.
    let kept : next ≡ now = ⊎_elim (λ s. absurd (apart s)) (λ s. s) others in
    ⊎_elim
    (λ (n, c). inl (kept ∙ n, ⊎_elim (λ s. absurd (apart (sym s))) (λ d. d) (here_or j k rest (subst (λ (ks : List Key). Contains ks k) e c))))
    (λ n. inr (kept ∙ n))
    h)
    (cases_key k j)

pub taken_all : (k : Key) (left : List Key) (ps now : List ℕ) (p : ℕ) → left ≡ [] → MayHave (Contains left k) ps now p → now ≡ ps
taken_all k left ps now p e h = ⊎_elim (λ (n, c). not_left k left e c) (λ n. n) h

pub once_fresh : (before now : List ℕ) (p : ℕ) → now ≡ before → All (λ q. q < p) before → with_last now p ≡ before ++ p ∷ []
once_fresh before now p e h = ap (λ xs. with_last xs p) e ∙ once_new before p (fresh before p h)

pub there : (x y : Key) (xs : List Key) → Contains xs y → Contains (x ∷ xs) y
there x y xs (k, less, e) = (suc k, omega arith, e)

pub gained_second : (frame : List ℕ) (sec : ℕ) (k : Key) (before put now : List ℕ) (p : ℕ) → All (λ q. q < p) before → Gained (FrameHas frame k) before put p
    → (k ≡ key.Second sec → now ≡ with_last put p) → (k ≡ key.Second sec) ⊎ (now ≡ put) → Gained (HasKey frame sec k) before now p
gained_second frame sec k before put now p low gain here others = ⊎_elim
    (λ e. ⊎_elim
    (λ (n, f). absurd (never _ _ _ sec (subst (λ (j : Key). FrameHas frame j) e f)))
    (λ (n, lacks). inl (here e ∙ once_fresh before put p n low, inl e))
    gain)
    (λ apart.
    let stays : now ≡ put = ⊎_elim (λ e. absurd (apart e)) (λ e. e) others in
    ⊎_elim
    (λ (n, f). inl (stays ∙ n, inr f))
    (λ (n, lacks). inr (stays ∙ n, λ h. ⊎_elim apart lacks h))
    gain)
    (cases_key k (key.Second sec))
