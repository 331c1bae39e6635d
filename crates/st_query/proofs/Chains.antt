-- The alternatives of a chain as patterns of keys.
use Rattle.std.proofs.Common.{◌≡◌, ℕ, zero, suc, ◌+◌, ◌-◌, ◌*◌, ◌/◌, ◌^◌, ◌<◌, ◌≤◌, ◌↔◌, Bool, true, false, IsTrue, List, [], ◌∷◌, ◌++◌, Some, refl, sym, ap, ◌∙◌, subst, arith, inl, inr, ◌⊎◌, Contains}
use Rattle.std.proofs.Math.Nat.{div-one, div-eq_of_lt, mul-div_cancel}
use Rattle.std.proofs.Math.Pow.{pow_mono}
use Rattle.std.proofs.lemmas.Nat.{pow_pos}
use Rattle.std.proofs.lemmas.List.Elements.{Contains-append_left, Contains-push, Contains-push_cases}
use Rattle.st_base.specs.Records.{Rec}
use Rattle.st_walk.specs.Walk.{FrameHas, HasKey}
use Rattle.st_walk.specs.declared.text.Key.{Key}
use Rattle.st_walk.specs.declared.text.Key.TheVariants as key
use Rattle.st_query.specs.declared.addrs.Addr.{Addr}
use Rattle.st_query.specs.declared.addrs.Addr.TheVariants.{V4, V6}
use Rattle.st_query.specs.declared.patterns.Pattern.{Pattern}
use Rattle.st_query.specs.declared.patterns.Group.{Group}
use Rattle.st_query.specs.declared.patterns.Chain.{Chain}
use Rattle.st_query.specs.declared.nodes.Primitive.{Primitive}
use Rattle.st_query.specs.declared.nodes.Primitive.TheVariants as prim
use Rattle.st_query.specs.Meaning.{IsInNet, MatchesPrimitive, MatchesTree}
use Rattle.st_query.specs.Trees.{Tree, both, either, one}
use Rattle.st_query.specs.Alternatives.{kind_of, number_of, exact, net_pattern, pattern_of, pattern_in, left_part, with_number, HasFitting, AnyFits, IsGrouped, Included, AnyIncluded, IsChainOf}
use Rattle.st_query.proofs.Matching.{frame_has}
use Rattle.st_query.proofs.Groups.{same_pattern}

-- a number without all of its bits
pub none_left : (number dropped : ℕ) → number < 2 ^ 128 → 128 ≤ dropped → zero ≡ number / 2 ^ dropped
none_left number dropped small most =
    let more = pow_mono most in
    sym (div-eq_of_lt (omega arith))

-- a key is known by its kind and its number
key_is : (k j : Key) → kind_of k ≡ kind_of j → number_of k ≡ number_of j → k ≡ j
key_is (key.Proto a) (key.Proto b) e f = ap key.Proto f
key_is (key.Port a) (key.Port b) e f = ap key.Port f
key_is (key.Vlan a) (key.Vlan b) e f = ap key.Vlan f
key_is (key.V4 a) (key.V4 b) e f = ap key.V4 f
key_is (key.Mpls a) (key.Mpls b) e f = ap key.Mpls f
key_is (key.V6 a) (key.V6 b) e f = ap key.V6 f
key_is (key.Second a) (key.Second b) e f = ap key.Second f
key_is _ _ e f = cc

-- a packet has a key if and only if a key of its frame fits the pattern of that key alone
asks_key : (j : Key) (r : Rec) → ((s : ℕ) → j ≡ key.Second s → ⊥) → HasKey r.body r.sec j ↔ HasFitting (exact j) r
asks_key j r lasts = (
  λ h. (j, (refl, div-one (number_of j)), frame_has r.body r.sec j lasts h),
  λ (k, (e, f), h). inr (subst (λ (x : Key). FrameHas r.body x) (key_is k j e (sym (div-one (number_of k)) ∙ f)) h),
)

bits_of : Addr → ℕ
bits_of (V4 x) = x
bits_of (V6 x) = x

-- numbers whose low bits are cleared are one if and only if they are one without these bits
same_quotient : (x a p : ℕ) → 0 < p → x / p * p ≡ a / p * p → x / p ≡ a / p
same_quotient x a p some e = sym (mul-div_cancel (x / p) some) ∙ ap (λ n. n / p) e ∙ mul-div_cancel (a / p) some

net_to : (a : Addr) (n : ℕ) (r : Rec) → IsInNet a n r → HasFitting (net_pattern a n) r
unfolding bits_of
net_to (V4 a) n r (V4 x, e, h) = (key.V4 x, (refl, same_quotient x a (2 ^ (32 - n)) (pow_pos (32 - n)) (ap bits_of e)), frame_has r.body r.sec (key.V4 x) (λ s f. cc) h)
net_to (V6 a) n r (V6 x, e, h) = (key.V6 x, (refl, same_quotient x a (2 ^ (128 - n)) (pow_pos (128 - n)) (ap bits_of e)), frame_has r.body r.sec (key.V6 x) (λ s f. cc) h)
net_to (V4 a) n r (V6 x, e, h) = cc
net_to (V6 a) n r (V4 x, e, h) = cc

net_back : (a : Addr) (n : ℕ) (r : Rec) → HasFitting (net_pattern a n) r → IsInNet a n r
net_back (V4 a) n r (key.V4 x, (e, f), h) = (V4 x, ap (λ q. V4 (q * 2 ^ (32 - n))) f, inr h)
net_back (V6 a) n r (key.V6 x, (e, f), h) = (V6 x, ap (λ q. V6 (q * 2 ^ (128 - n))) f, inr h)
net_back (V4 a) n r (_, (e, f), h) = cc
net_back (V6 a) n r (_, (e, f), h) = cc

some_is : {x y : Pattern} → Some x ≡ Some y → x ≡ y
some_is e = cc

-- a primitive matches if and only if a key of the frame fits its pattern
asks : (p : Primitive) (x : Pattern) (now : ℕ) (r : Rec) → pattern_of p ≡ Some x → MatchesPrimitive p now r ↔ HasFitting x r
asks (prim.Host (V4 a)) x now r e = subst (λ (y : Pattern). HasKey r.body r.sec (key.V4 a) ↔ HasFitting y r) (some_is e) (asks_key (key.V4 a) r (λ s f. cc))
asks (prim.Host (V6 a)) x now r e = subst (λ (y : Pattern). HasKey r.body r.sec (key.V6 a) ↔ HasFitting y r) (some_is e) (asks_key (key.V6 a) r (λ s f. cc))
asks (prim.Net a n) x now r e = subst (λ (y : Pattern). IsInNet a n r ↔ HasFitting y r) (some_is e) (net_to a n r, net_back a n r)
asks (prim.Port n) x now r e = subst (λ (y : Pattern). HasKey r.body r.sec (key.Port n) ↔ HasFitting y r) (some_is e) (asks_key (key.Port n) r (λ s f. cc))
asks (prim.Proto n) x now r e = subst (λ (y : Pattern). HasKey r.body r.sec (key.Proto n) ↔ HasFitting y r) (some_is e) (asks_key (key.Proto n) r (λ s f. cc))
asks (prim.Vlan n) x now r e = subst (λ (y : Pattern). HasKey r.body r.sec (key.Vlan n) ↔ HasFitting y r) (some_is e) (asks_key (key.Vlan n) r (λ s f. cc))
asks (prim.Mpls n) x now r e = subst (λ (y : Pattern). HasKey r.body r.sec (key.Mpls n) ↔ HasFitting y r) (some_is e) (asks_key (key.Mpls n) r (λ s f. cc))
asks (prim.Before w) x now r e = cc
asks (prim.After w) x now r e = cc

-- the same of a query that is one primitive
pub asks_in : (q : Tree) (x : Pattern) (now : ℕ) (r : Rec) → pattern_in q ≡ Some x → MatchesTree q now r ↔ HasFitting x r
asks_in (one p) x now r e = asks p x now r e
asks_in (both a b) x now r e = cc
asks_in (either a b) x now r e = cc

-- what is left is all there is
pub left_zero : (q : Tree) → left_part q 0 ≡ q
left_zero (one p) = refl
left_zero (both a b) = refl
left_zero (either a b) = refl

-- one part less
pub left_on : (q rest left : Tree) (n i : ℕ) → i < n → left_part rest (n - i) ≡ left_part q n → ((m : ℕ) → left_part rest (suc m) ≡ left_part left m) → left_part left (n - (i + 1)) ≡ left_part q n
left_on q rest left n i less e on =
    let more : n - i ≡ suc (n - (i + 1)) = omega arith in
    sym (on (n - (i + 1))) ∙ ap (left_part rest) (sym more) ∙ e

-- no alternative yet
pub none_fits : (r : Rec) → AnyFits [] r → ⊥
none_fits r (p, (i, inside, e), h) = absurd (omega arith)

-- the pattern of one more alternative
pub fits_more : (ps : List Pattern) (x : Pattern) (r : Rec) → AnyFits (ps ++ x ∷ []) r ↔ (AnyFits ps r ⊎ HasFitting x r)
fits_more ps x r = (
  λ (p, c, h). elim (Contains-push_cases ps x p c) [ inl old ↦ inl (p, old, h) | inr e ↦ inr (subst (λ (y : Pattern). HasFitting y r) (sym e) h) ],
  λ h. elim h [ inl (p, c, f) ↦ (p, Contains-append_left ps (x ∷ []) p c, f) | inr f ↦ (x, Contains-push ps x, f) ],
)

-- the loop over the alternatives of a chain
abbrev pub SoFar : Tree → Tree → List Pattern → Type 0
SoFar whole rest ps = (now : ℕ) (r : Rec) → MatchesTree whole now r ↔ (AnyFits ps r ⊎ MatchesTree rest now r)

pub so_far_start : (whole : Tree) (ps : List Pattern) → ps ≡ [] → SoFar whole whole ps
so_far_start whole ps e now r = (λ h. inr h, λ h. elim h [ inl f ↦ absurd (none_fits r (subst (λ (qs : List Pattern). AnyFits qs r) e f)) | inr m ↦ m ])

pub so_far_on : (whole rest left right : Tree) (ps qs : List Pattern) (x : Pattern) → SoFar whole rest ps → rest ≡ either left right → pattern_in right ≡ Some x → qs ≡ ps ++ x ∷ [] → SoFar whole left qs
so_far_on whole rest left right ps qs x so_far is e pushed now r =
    let right_is = asks_in right x now r e in
    let more = fits_more ps x r in
    let here : MatchesTree whole now r ↔ (AnyFits ps r ⊎ (MatchesTree left now r ⊎ MatchesTree right now r)) = rw is at (so_far now r) in
    rw pushed (
      λ h. elim (here.0 h) [
        | inl f ↦ inl (more.1 (inl f))
        | inr (inl m) ↦ inr m
        | inr (inr m) ↦ inl (more.1 (inr (right_is.0 m)))
      ],
      λ h. elim h [
        | inr m ↦ here.1 (inr (inl m))
        | inl f ↦ elim (more.0 f) [ inl old ↦ here.1 (inl old) | inr new ↦ here.1 (inr (inr (right_is.1 new))) ]
      ],
    )

pub so_far_end : (whole rest : Tree) (ps qs : List Pattern) (x : Pattern) → SoFar whole rest ps → pattern_in rest ≡ Some x → qs ≡ ps ++ x ∷ [] → (now : ℕ) (r : Rec) → MatchesTree whole now r ↔ AnyFits qs r
so_far_end whole rest ps qs x so_far e pushed now r =
    let rest_is = asks_in rest x now r e in
    let more = fits_more ps x r in
    rw pushed (
      λ h. elim ((so_far now r).0 h) [ inl f ↦ more.1 (inl f) | inr m ↦ more.1 (inr (rest_is.0 m)) ],
      λ f. elim (more.0 f) [ inl old ↦ (so_far now r).1 (inl old) | inr new ↦ (so_far now r).1 (inr (rest_is.1 new)) ],
    )

-- what is in the groups is what fits the patterns
pub in_groups : (ps : List Pattern) (gs : List Group) (r : Rec) → IsGrouped ps gs → AnyFits ps r ↔ AnyIncluded gs r.body
unfolding Included
in_groups ps gs r h = (
  λ (p, c, (k, (e, f), has)).
      let (g, (same_kind, same_dropped), in_gs) = h.whole p c in
      let is : p ≡ with_number g.kind g.dropped (number_of k / 2 ^ g.dropped) = same_pattern p (with_number g.kind g.dropped (number_of k / 2 ^ g.dropped)) (sym same_kind) (sym same_dropped) (sym f ∙ ap (λ d. number_of k / 2 ^ d) (sym same_dropped)) in
      (k, (g, (same_kind ∙ sym e, (h.members g in_gs (number_of k / 2 ^ g.dropped)).1 (subst (λ (x : Pattern). Contains ps x) is c)), in_gs), has),
  λ (k, (g, (e, c), in_gs), has).
      (with_number g.kind g.dropped (number_of k / 2 ^ g.dropped), (h.members g in_gs (number_of k / 2 ^ g.dropped)).0 c, (k, (sym e, refl), has)),
)

pub chain_made : (q rest : Tree) (n : ℕ) (ps qs : List Pattern) (gs : List Group) → rest ≡ left_part q n → ((now : ℕ) (r : Rec) → MatchesTree rest now r ↔ AnyFits ps r) → qs ≡ ps → IsGrouped qs gs → (now : ℕ) (r : Rec) → MatchesTree (left_part q n) now r ↔ AnyIncluded gs r.body
chain_made q rest n ps qs gs is fits same grouped now r =
    let there : MatchesTree (left_part q n) now r ↔ AnyFits ps r = subst (λ (t : Tree). MatchesTree t now r ↔ AnyFits ps r) is (fits now r) in
    let here = in_groups ps gs r (subst (λ (xs : List Pattern). IsGrouped xs gs) same grouped) in
    (λ m. here.0 (there.0 m), λ i. there.1 (here.1 i))

-- the loop over the parts that follow the alternatives
abbrev pub Left : ℕ → ℕ → Rec → Tree → Tree → ℕ → Type 0
Left n now r q rest i = (left_part rest (n - i) ≡ left_part q n) × (MatchesTree q now r ↔ MatchesTree rest now r)

pub left_or : (n now : ℕ) (r : Rec) (q rest new left right : Tree) (i : ℕ) (answer : Bool) → i < n → Left n now r q rest i → rest ≡ either left right → new ≡ left → (IsTrue answer ↔ MatchesTree right now r) → answer ≡ false → Left n now r q new (i + 1)
left_or n now r q rest new left right i answer less (e, same) is new_is decides lacks =
    let is_not : MatchesTree right now r → ⊥ = λ m. let held = decides.1 m in absurd (cc) in
    let here : MatchesTree q now r ↔ (MatchesTree left now r ⊎ MatchesTree right now r) = rw is at same in
    rw new_is (
      left_on q rest left n i less e (rw is (λ m. refl)),
      (λ m. elim (here.0 m) [ inl a ↦ a | inr b ↦ absurd (is_not b) ], λ m. here.1 (inl m)),
    )

pub left_and : (n now : ℕ) (r : Rec) (q rest new left right : Tree) (i : ℕ) (answer : Bool) → i < n → Left n now r q rest i → rest ≡ both left right → new ≡ left → (IsTrue answer ↔ MatchesTree right now r) → answer ≡ true → Left n now r q new (i + 1)
left_and n now r q rest new left right i answer less (e, same) is new_is decides found =
    let here : MatchesTree q now r ↔ (MatchesTree left now r × MatchesTree right now r) = rw is at same in
    rw new_is (
      left_on q rest left n i less e (rw is (λ m. refl)),
      (λ m. (here.0 m).0, λ m. here.1 (m, decides.0 found)),
    )

pub chain_decides : (q rest : Tree) (c : Chain) (i now : ℕ) (r : Rec) (gs : List Group) (body : List ℕ) (answer : Bool) → IsChainOf q c → Left c.following now r q rest i → c.following ≤ i → gs ≡ c.groups.items → body ≡ r.body → (IsTrue answer ↔ AnyIncluded gs body) → IsTrue answer ↔ MatchesTree q now r
chain_decides q rest c i now r gs body answer is (e, same) all groups_are body_is decides =
    let none : 0 ≡ c.following - i = omega arith in
    let rest_is : rest ≡ left_part q c.following = sym (left_zero rest) ∙ ap (left_part rest) none ∙ e in
    let chain : MatchesTree rest now r ↔ AnyIncluded c.groups.items r.body = subst (λ (t : Tree). MatchesTree t now r ↔ AnyIncluded c.groups.items r.body) (sym rest_is) (is now r) in
    let found : IsTrue answer ↔ AnyIncluded c.groups.items r.body = rw (groups_are, body_is) at decides in
    (λ t. same.1 (chain.1 (found.0 t)), λ m. found.1 (chain.0 (same.0 m)))
