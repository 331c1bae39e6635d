-- Patterns in groups: what the loops over them keep.
use Rattle.std.proofs.Common.{◌≡◌, ℕ, ◌+◌, ◌<◌, ◌≤◌, List, [], ◌∷◌, ◌++◌, length, take, refl, sym, ap, ◌∙◌, subst, arith, inl, inr, Contains, get_or, below_more}
use Rattle.std.proofs.lemmas.List.{take_more, get_or_default}
use Rattle.std.proofs.Math.Seq.{take-length}
use Rattle.std.proofs.lemmas.List.Elements.{Contains-append_left, Contains-push, Contains-push_cases}
use Rattle.std.proofs.lemmas.List.Sorted.{IsPermutation-sym, Contains-permutation}
use Rattle.std.specs.List.Sorted.{IsPermutation}
use Rattle.st_query.specs.declared.patterns.KeyKind.{KeyKind}
use Rattle.st_query.specs.declared.patterns.Pattern.{Pattern}
use Rattle.st_query.specs.declared.patterns.Group.{Group}
use Rattle.st_query.specs.Alternatives.{AreNumbers, with_number, HasGroup}

-- patterns of one kind, one count of dropped bits and one number are one
pub same_pattern : (p q : Pattern) → p.kind ≡ q.kind → p.dropped ≡ q.dropped → p.number ≡ q.number → p ≡ q
same_pattern p q e f g =
    ap (λ k. record { kind = k; dropped = p.dropped; number = p.number }) e
    ∙ ap (λ d. record { kind = q.kind; dropped = d; number = p.number }) f
    ∙ ap (λ n. record { kind = q.kind; dropped = q.dropped; number = n }) g

pub no_numbers : (k : KeyKind) (d : ℕ) (ns : List ℕ) → ns ≡ [] → AreNumbers k d [] ns
no_numbers k d ns e n = rw e (λ (i, inside, h). absurd (omega arith), λ (i, inside, h). absurd (omega arith))

pub numbers_taken : (k : KeyKind) (d : ℕ) (ps : List Pattern) (p : Pattern) (ns ms : List ℕ) → AreNumbers k d ps ns → (p.kind ≡ k) × (p.dropped ≡ d) → ms ≡ ns ++ p.number ∷ [] → AreNumbers k d (ps ++ p ∷ []) ms
numbers_taken k d ps p ns ms are (e, f) pushed n =
    let is : p ≡ with_number k d p.number = same_pattern p (with_number k d p.number) e f refl in
    rw pushed (
      λ c. elim (Contains-push_cases ns p.number n c) [
        | inl old ↦ Contains-append_left ps (p ∷ []) (with_number k d n) ((are n).0 old)
        | inr same ↦ subst (λ (x : Pattern). Contains (ps ++ p ∷ []) x) (is ∙ ap (with_number k d) same) (Contains-push ps p)
      ],
      λ c. elim (Contains-push_cases ps p (with_number k d n) c) [
        | inl old ↦ Contains-append_left ns (p.number ∷ []) n ((are n).1 old)
        | inr same ↦ subst (λ (m : ℕ). Contains (ns ++ p.number ∷ []) m) (ap (λ (x : Pattern). x.number) same) (Contains-push ns p.number)
      ],
    )

pub numbers_left : (k : KeyKind) (d : ℕ) (ps : List Pattern) (p : Pattern) (ns : List ℕ) → AreNumbers k d ps ns → ((p.kind ≡ k) × (p.dropped ≡ d) → ⊥) → AreNumbers k d (ps ++ p ∷ []) ns
numbers_left k d ps p ns are other n = (
  λ c. Contains-append_left ps (p ∷ []) (with_number k d n) ((are n).0 c),
  λ c. elim (Contains-push_cases ps p (with_number k d n) c) [
    | inl old ↦ (are n).1 old
    | inr same ↦ absurd (other (ap (λ (x : Pattern). x.kind) same, ap (λ (x : Pattern). x.dropped) same))
  ],
)

pub numbers_sorted : (k : KeyKind) (d : ℕ) (ps : List Pattern) (ns ms : List ℕ) → AreNumbers k d ps ns → IsPermutation ns ms → AreNumbers k d ps ms
numbers_sorted k d ps ns ms are moved n = (
  λ c. (are n).0 (Contains-permutation ms ns n (IsPermutation-sym ns ms moved) c),
  λ c. Contains-permutation ns ms n moved ((are n).1 c),
)

-- the groups have only patterns of the list, and all of the first ones
abbrev pub Members : List Pattern → List Group → Type 0
Members ps gs = (g : Group) → Contains gs g → AreNumbers g.kind g.dropped ps g.numbers.items

abbrev pub Covers : List Pattern → List Group → Type 0
Covers ps gs = (p : Pattern) → Contains ps p → HasGroup gs p.kind p.dropped

pub no_members : (ps : List Pattern) (gs : List Group) → gs ≡ [] → Members ps gs
no_members ps gs e g c = absurd (let (i, inside, h) = subst (λ (hs : List Group). Contains hs g) e c in omega arith)

pub covers_none : (gs : List Group) → Covers [] gs
covers_none gs p (i, inside, h) = absurd (omega arith)

pub members_more : (ps : List Pattern) (gs hs : List Group) (g : Group) → Members ps gs → AreNumbers g.kind g.dropped ps g.numbers.items → hs ≡ gs ++ g ∷ [] → Members ps hs
members_more ps gs hs g members are pushed h c =
    elim (Contains-push_cases gs g h (subst (λ (xs : List Group). Contains xs h) pushed c)) [
      | inl old ↦ members h old
      | inr same ↦ subst (λ (x : Group). AreNumbers x.kind x.dropped ps x.numbers.items) same are
    ]

pub covers_known : (ps : List Pattern) (p : Pattern) (gs : List Group) → Covers ps gs → HasGroup gs p.kind p.dropped → Covers (ps ++ p ∷ []) gs
covers_known ps p gs covers here x c =
    elim (Contains-push_cases ps p x c) [ inl old ↦ covers x old | inr same ↦ subst (λ (y : Pattern). HasGroup gs y.kind y.dropped) same here ]

pub covers_more : (ps : List Pattern) (p : Pattern) (gs hs : List Group) (g : Group) → Covers ps gs → g.kind ≡ p.kind → g.dropped ≡ p.dropped → hs ≡ gs ++ g ∷ [] → Covers (ps ++ p ∷ []) hs
covers_more ps p gs hs g covers e f pushed x c =
    rw pushed (elim (Contains-push_cases ps p x c) [
      | inl old ↦ let (h, is, k) = covers x old in (h, is, Contains-append_left gs (g ∷ []) h k)
      | inr same ↦ (g, (e ∙ ap (λ (y : Pattern). y.kind) same, f ∙ ap (λ (y : Pattern). y.dropped) same), Contains-push gs g)
    ])

-- all of a list was passed over
pub all_taken : {A : Type 0} (xs : List A) (i : ℕ) → length xs ≤ i → i ≤ length xs → take i xs ≡ xs
all_taken xs i h k = let e : i ≡ length xs = omega arith in ap (λ n. take n xs) e ∙ take-length xs

-- the loops over patterns
pub numbers_push : (k : KeyKind) (d : ℕ) (xs : List Pattern) (i : ℕ) (e : Pattern) (ns ms : List ℕ) → i < length xs → AreNumbers k d (take i xs) ns → ((get_or xs i e).kind ≡ k) × ((get_or xs i e).dropped ≡ d) → ms ≡ ns ++ (get_or xs i e).number ∷ [] → AreNumbers k d (take (i + 1) xs) ms
numbers_push k d xs i e ns ms inside are is pushed =
    subst (λ (ps : List Pattern). AreNumbers k d ps ms) (sym (take_more xs i e inside)) (numbers_taken k d (take i xs) (get_or xs i e) ns ms are is pushed)

pub numbers_pass : (k : KeyKind) (d : ℕ) (xs : List Pattern) (i : ℕ) (e : Pattern) (ns ms : List ℕ) → i < length xs → AreNumbers k d (take i xs) ns → (((get_or xs i e).kind ≡ k) × ((get_or xs i e).dropped ≡ d) → ⊥) → ms ≡ ns → AreNumbers k d (take (i + 1) xs) ms
numbers_pass k d xs i e ns ms inside are other same =
    subst (λ (ps : List Pattern). AreNumbers k d ps ms) (sym (take_more xs i e inside))
    (subst (λ (ls : List ℕ). AreNumbers k d (take i xs ++ get_or xs i e ∷ []) ls) (sym same) (numbers_left k d (take i xs) (get_or xs i e) ns are other))

pub groups_push : (xs : List Pattern) (i : ℕ) (e : Pattern) (gs hs : List Group) (g : Group) → i < length xs → Members xs gs × Covers (take i xs) gs → AreNumbers g.kind g.dropped xs g.numbers.items → g.kind ≡ (get_or xs i e).kind → g.dropped ≡ (get_or xs i e).dropped → hs ≡ gs ++ g ∷ [] → Members xs hs × Covers (take (i + 1) xs) hs
groups_push xs i e gs hs g inside (members, covers) are kind dropped pushed = (
  members_more xs gs hs g members are pushed,
  subst (λ (ps : List Pattern). Covers ps hs) (sym (take_more xs i e inside)) (covers_more (take i xs) (get_or xs i e) gs hs g covers kind dropped pushed),
)

pub groups_pass : (xs : List Pattern) (i : ℕ) (e : Pattern) (gs hs : List Group) → i < length xs → Members xs gs × Covers (take i xs) gs → HasGroup gs (get_or xs i e).kind (get_or xs i e).dropped → hs ≡ gs → Members xs hs × Covers (take (i + 1) xs) hs
groups_pass xs i e gs hs inside (members, covers) here same =
    subst (λ (ks : List Group). Members xs ks × Covers (take (i + 1) xs) ks) (sym same)
    (members, subst (λ (ps : List Pattern). Covers ps gs) (sym (take_more xs i e inside)) (covers_known (take i xs) (get_or xs i e) gs covers here))

-- a search through the groups
abbrev pub NoneYet : (Group → Type 0) → List Group → ℕ → Type 0
NoneYet P gs i = (k : ℕ) → k < i → (d : Group) → P (get_or gs k d) → ⊥

pub none_more : (P : Group → Type 0) (gs : List Group) (i : ℕ) (g : Group) → i < length gs → g ≡ get_or gs i g → NoneYet P gs i → (P g → ⊥) → NoneYet P gs (i + 1)
none_more P gs i g inside is none other =
    below_more (λ (k : ℕ). (d : Group) → P (get_or gs k d) → ⊥) i none (λ d h. other (subst P (get_or_default gs i d g inside ∙ sym is) h))

pub some_here : (P : Group → Type 0) (gs : List Group) (i : ℕ) (g : Group) → i < length gs → g ≡ get_or gs i g → P g → (x : Group) × P x × Contains gs x
some_here P gs i g inside is h = (g, h, (i, inside, sym is))

pub none_there : (P : Group → Type 0) (gs : List Group) (i : ℕ) → length gs ≤ i → NoneYet P gs i → ((x : Group) × P x × Contains gs x) → ⊥
none_there P gs i all none (x, h, (k, inside, e)) = none k (omega arith) x (subst P (sym e) h)
