-- The walk's keys, as the relation has them and as the plain program lists them.
use Rattle.std.proofs.Common.{◌≡◌, ◌⊎◌, ◌↔◌, ℕ, zero, suc, ◌+◌, ◌<◌, ◌≤◌, true, List, [], ◌++◌, length, Option, Some, None, arith, refl, sym, ap, ◌∙◌, inl, inr, subst}
use Rattle.std.specs.List.{Contains}
use Rattle.std.proofs.lemmas.Bool.Decides.{nat_tests}
use Rattle.std.proofs.lemmas.List.{append-nil}
use Rattle.std.proofs.lemmas.List.Elements.{Contains-append_left, Contains-append_right, Contains-append_cases}
use Rattle.st_walk.specs.declared.header.Layer.{Layer}
use Rattle.st_walk.specs.declared.header.Spot.{Spot}
use Rattle.st_walk.specs.declared.text.Key.{Key}
use Rattle.st_walk.specs.Layers.{holds, is_ip4, is_ip6, extension_size, is_extension, layer_keys}
use Rattle.st_walk.specs.Walk.{Step, Reaches, Carries, HasFrom, InOrder}
use Rattle.st_walk.specs.Walk.Step.{ether, tag, labelled, ip4, ip6, label, label_ip4, label_ip6, ip4_ports, ip6_chain, extension, fragment, last, last_ports}
use Rattle.st_walk.specs.Walk.Reaches.{here, on}
use Rattle.st_walk.specs.Walk.InOrder.{ends, goes}
use Rattle.st_walk.specs.Listing.{spot_at, following, steps_left, keys_within, walk_keys}
use Rattle.st_walk.proofs.Steps.{finds, Leads, leads}

room : (p : List ℕ) (o n : ℕ) → holds p o n ≡ true → o + n ≤ length p
unfolding holds
room p o n h = grind (arith, nat_tests)

ip4_room : (p : List ℕ) (o : ℕ) → is_ip4 p o ≡ true → o + 20 ≤ length p
unfolding is_ip4 holds
ip4_room p o h = grind (arith, nat_tests)

ip6_room : (p : List ℕ) (o : ℕ) → is_ip6 p o ≡ true → o + 40 ≤ length p
unfolding is_ip6 holds
ip6_room p o h = grind (arith, nat_tests)

extension_room : (p : List ℕ) (o n : ℕ) → is_extension p o n ≡ true → (0 < extension_size p o n) × (o + extension_size p o n ≤ length p)
unfolding is_extension holds
extension_room p o n h = grind (arith, nat_tests)

-- fewer steps are left after a step
step_falls : (p : List ℕ) (o m : ℕ) (l k : Layer) → Step p o l m k → steps_left p m k < steps_left p o l
step_falls p o m l k (ether h) = omega (arith, room p o 14 h)
step_falls p o m l k (tag t h) = omega (arith, room p o 4 h)
step_falls p o m l k (labelled t) = omega arith
step_falls p o m l k (ip4 e) = omega arith
step_falls p o m l k (ip6 e) = omega arith
step_falls p o m l k (label h b) = omega (arith, room p o 4 h)
step_falls p o m l k (label_ip4 h b v) = omega (arith, room p o 4 h)
step_falls p o m l k (label_ip6 h b v) = omega (arith, room p o 4 h)
step_falls p o m l k (ip4_ports h f q) = omega (arith, ip4_room p o h)
step_falls p o m l k (ip6_chain h) = omega (arith, ip6_room p o h)
step_falls p o m l k (extension {n = n} h f) = omega (arith, (extension_room p o n h).0, (extension_room p o n h).1)
step_falls p o m l k (fragment {n = n} h f) = omega (arith, (extension_room p o n h).0, (extension_room p o n h).1)
step_falls p o m l k (last h) = omega arith
step_falls p o m l k (last_ports h) = omega arith

-- so many layers may follow
bound : List ℕ → Option Spot → ℕ
bound p None = 0
bound p (Some q) = suc (steps_left p q.at q.layer)

narrow : (p : List ℕ) (o : ℕ) (l : Layer) (q : Option Spot) → Leads p o l q → bound p q ≤ steps_left p o l
unfolding bound
narrow p o l None s = omega arith
narrow p o l (Some q) s = omega (arith, step_falls p o q.at l q.layer s)

-- the measure of the code's loops falls
pub falls : (p : List ℕ) (o : ℕ) (l : Layer) (q : Spot) → following p o l ≡ Some q → steps_left p q.at q.layer < steps_left p o l
falls p o l q e = step_falls p o q.at l q.layer (subst (λ (x : Option Spot). Leads p o l x) e (leads p o l))

-- more steps than may follow find no more keys
enough : (n m : ℕ) (p : List ℕ) (q : Option Spot) → bound p q ≤ n → bound p q ≤ m → keys_within n p q ≡ keys_within m p q
unfolding bound keys_within
enough zero zero p q h i = refl
enough zero (suc m) p None h i = refl
enough zero (suc m) p (Some q) h i = absurd (omega arith)
enough (suc n) zero p None h i = refl
enough (suc n) zero p (Some q) h i = absurd (omega arith)
enough (suc n) (suc m) p None h i = refl
enough (suc n) (suc m) p (Some q) h i =
    let b : bound p (following p q.at q.layer) ≤ steps_left p q.at q.layer = narrow p q.at q.layer (following p q.at q.layer) (leads p q.at q.layer) in
    ap (λ t. layer_keys p q.at q.layer ++ t) (enough n m p (following p q.at q.layer) (omega arith) (omega arith))

walk_is : (p : List ℕ) (q : Option Spot) → keys_within (bound p q) p q ≡ walk_keys p q
unfolding bound keys_within walk_keys
walk_is p None = refl
walk_is p (Some q) = refl

-- the walk's keys are the layer's own, and then those of what follows
pub walk_unroll : (p : List ℕ) (q : Spot) → walk_keys p (Some q) ≡ layer_keys p q.at q.layer ++ walk_keys p (following p q.at q.layer)
unfolding keys_within walk_keys
walk_unroll p q =
    let f : Option Spot = following p q.at q.layer in
    let b : bound p f ≤ steps_left p q.at q.layer = narrow p q.at q.layer f (leads p q.at q.layer) in
    ap (λ t. layer_keys p q.at q.layer ++ t) (enough (steps_left p q.at q.layer) (bound p f) p f b (omega arith) ∙ walk_is p f)

-- the walk from here on has the key
abbrev pub HasAfter : List ℕ → Option Spot → Key → Type 0
HasAfter p None k = ⊥
HasAfter p (Some q) k = HasFrom p q.at q.layer k

reached_after : (p : List ℕ) (o : ℕ) (l : Layer) (e : ℕ) (f : Layer) (k : Key) → Reaches p o l e f → Carries p e f k → Carries p o l k ⊎ HasAfter p (following p o l) k
reached_after p o l e f k here c = inl c
reached_after p o l e f k (on {m = m} {k = j} s r) c = inr (rw (finds p o m l j s) (record { end = e; layer = f; reached = r; carried = c }))

has_later : (p : List ℕ) (o : ℕ) (l : Layer) (k : Key) (q : Option Spot) → Leads p o l q → HasAfter p q k → HasFrom p o l k
has_later p o l k None s h = absurd h
has_later p o l k (Some q) s h = record { end = h.end; layer = h.layer; reached = on s h.reached; carried = h.carried }

has_either : (p : List ℕ) (o : ℕ) (l : Layer) (k : Key) → Carries p o l k ⊎ HasAfter p (following p o l) k → HasFrom p o l k
has_either p o l k (inl c) = record { end = o; layer = l; reached = here; carried = c }
has_either p o l k (inr h) = has_later p o l k (following p o l) (leads p o l) h

-- the walk has a key where its layer carries it, or what follows has it
pub has_unroll : (p : List ℕ) (o : ℕ) (l : Layer) (k : Key) → HasFrom p o l k ↔ (Carries p o l k ⊎ HasAfter p (following p o l) k)
has_unroll p o l k = (λ h. reached_after p o l h.end h.layer k h.reached h.carried, has_either p o l k)

-- the layer carries the key
pub has_here : (p : List ℕ) (o : ℕ) (l : Layer) (k : Key) → Carries p o l k → HasFrom p o l k
has_here p o l k c = has_either p o l k (inl c)

-- nothing follows, and the layer doesn't carry the key
pub has_not : (p : List ℕ) (o : ℕ) (l : Layer) (k : Key) → following p o l ≡ None → (Carries p o l k → ⊥) → HasFrom p o l k → ⊥
has_not p o l k e n h = elim ((has_unroll p o l k).0 h) [ inl c ↦ n c | inr a ↦ rw e at a ]

-- the layer doesn't carry the key, and this one follows
pub has_next : (p : List ℕ) (o : ℕ) (l : Layer) (k : Key) (q : Spot) → following p o l ≡ Some q → (Carries p o l k → ⊥) → HasFrom p o l k ↔ HasFrom p q.at q.layer k
has_next p o l k q e n = (
  λ h. elim ((has_unroll p o l k).0 h) as (λ _. HasFrom p q.at q.layer k) [ inl c ↦ absurd (n c) | inr a ↦ rw e at a ],
  λ h. (has_unroll p o l k).1 (inr (rw e h)),
)

empty : (k : Key) → Contains [] k → ⊥
empty k (i, h, e) = omega arith

contains_within : (n : ℕ) (p : List ℕ) (q : Option Spot) (k : Key) → bound p q ≤ n → Contains (keys_within n p q) k ↔ HasAfter p q k
unfolding bound keys_within
contains_within zero p None k h = (λ c. empty k c, λ a. absurd a)
contains_within zero p (Some q) k h = absurd (omega arith)
contains_within (suc n) p None k h = (λ c. empty k c, λ a. absurd a)
contains_within (suc n) p (Some q) k h =
    let f : Option Spot = following p q.at q.layer in
    let b : bound p f ≤ steps_left p q.at q.layer = narrow p q.at q.layer f (leads p q.at q.layer) in
    let rest : Contains (keys_within n p f) k ↔ HasAfter p f k = contains_within n p f k (omega arith) in
    let own : List Key = layer_keys p q.at q.layer in (
      λ c. has_either p q.at q.layer k (elim (Contains-append_cases own (keys_within n p f) k c) as (λ _. Carries p q.at q.layer k ⊎ HasAfter p f k) [ inl x ↦ inl x | inr y ↦ inr (rest.0 y) ]),
      λ a. elim ((has_unroll p q.at q.layer k).0 a) as (λ _. Contains (own ++ keys_within n p f) k) [ inl x ↦ Contains-append_left own (keys_within n p f) k x | inr y ↦ Contains-append_right own (keys_within n p f) k (rest.1 y) ],
    )

-- the list has each key of the walk and no other
pub walk_contains : (p : List ℕ) (q : Option Spot) (k : Key) → Contains (walk_keys p q) k ↔ HasAfter p q k
walk_contains p q k = rw (← walk_is p q) (contains_within (bound p q) p q k (omega arith))

walk_none : (p : List ℕ) (ks : List Key) → ks ++ walk_keys p None ≡ ks
unfolding walk_keys
walk_none p ks = append-nil ks

-- the list is in walk order
in_order : (n : ℕ) (p : List ℕ) (q : Spot) (f : Option Spot) → following p q.at q.layer ≡ f → steps_left p q.at q.layer < n → InOrder p q.at q.layer (walk_keys p (Some q))
in_order zero p q f e h = absurd (omega arith)
in_order (suc n) p q None e h =
    ends (λ m k s. cc (finds p q.at m q.layer k s)) (walk_unroll p q ∙ rw e (walk_none p (layer_keys p q.at q.layer)))
in_order (suc n) p q (Some r) e h =
    goes (subst (λ (x : Option Spot). Leads p q.at q.layer x) e (leads p q.at q.layer))
    (in_order n p r (following p r.at r.layer) refl (omega (arith, falls p q.at q.layer r e)))
    (walk_unroll p q ∙ ap (λ x. layer_keys p q.at q.layer ++ walk_keys p x) e)

stopped : (p : List ℕ) (o : ℕ) (l : Layer) (q : Option Spot) → Leads p o l q → ((m : ℕ) (k : Layer) → Step p o l m k → ⊥) → layer_keys p o l ++ walk_keys p q ≡ layer_keys p o l
stopped p o l None s stops = walk_none p (layer_keys p o l)
stopped p o l (Some q) s stops = absurd (stops q.at q.layer s)

-- and no other list is
only_order : (p : List ℕ) (o : ℕ) (l : Layer) (ks : List Key) → InOrder p o l ks → ks ≡ walk_keys p (spot_at o l)
only_order p o l ks (ends stops e) = e ∙ sym (walk_unroll p (record { at = o; layer = l }) ∙ stopped p o l (following p o l) (leads p o l) stops)
only_order p o l ks (goes {m = m} {k = k} {more = more} s i e) =
    let rest : more ≡ walk_keys p (spot_at m k) = only_order p m k more i in
    e ∙ (ap (λ x. layer_keys p o l ++ x) rest ∙ sym (walk_unroll p (record { at = o; layer = l }) ∙ ap (λ x. layer_keys p o l ++ walk_keys p x) (finds p o m l k s)))

pub walk_order : (p : List ℕ) (o : ℕ) (l : Layer) (ks : List Key) → InOrder p o l ks ↔ (ks ≡ walk_keys p (spot_at o l))
walk_order p o l ks = (
  only_order p o l ks,
  λ e. rw e (in_order (suc (steps_left p o l)) p (record { at = o; layer = l }) (following p o l) refl (omega arith)),
)
