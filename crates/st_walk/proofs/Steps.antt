-- The relation of steps is what the plain program finds.
use Rattle.std.proofs.Common.{◌≡◌, ℕ, ◌+◌, ◌==◌, Bool, true, false, List, Option, Some, None, arith, refl, if◌then◌else◌}
use Rattle.std.proofs.lemmas.Bool.Decides.{nat_tests}
use Rattle.st_walk.specs.declared.header.Layer.{Layer}
use Rattle.st_walk.specs.declared.header.Layer.TheVariants.{Ether, Next, Label, Ip4, Ip6, Chain, Last, Fragment, Ports}
use Rattle.st_walk.specs.declared.header.Spot.{Spot}
use Rattle.st_walk.specs.declared.numbers.TheConstants.{IP4, IP6}
use Rattle.st_walk.specs.Layers.{byte, holds, is_tag, is_labelled, is_bottom, is_version, is_ip4, is_ip6, is_first, has_ports, is_extension, is_later}
use Rattle.st_walk.specs.Walk.{Step}
use Rattle.st_walk.specs.Walk.Step.{ether, tag, labelled, ip4, ip6, label, label_ip4, label_ip6, ip4_ports, ip6_chain, extension, fragment, last, last_ports}
use Rattle.st_walk.specs.Listing.{spot_at, following}

-- no EtherType announces two things
labelled_is_no_tag : (n : ℕ) → is_labelled n ≡ true → is_tag n ≡ false
unfolding is_tag is_labelled
labelled_is_no_tag n h = grind (arith, nat_tests)

-- a packet has one version
one_version : (p : List ℕ) (o : ℕ) → is_version p o 6 ≡ true → is_version p o 4 ≡ false
unfolding is_version
one_version p o h = grind (arith, nat_tests)

ip4_found : (p : List ℕ) (o : ℕ) → following p o (Next IP4) ≡ spot_at o Ip4
unfolding is_tag is_labelled
ip4_found p o = refl

ip6_found : (p : List ℕ) (o : ℕ) → following p o (Next IP6) ≡ spot_at o Ip6
unfolding is_tag is_labelled
ip6_found p o = refl

-- the program finds each step of the relation
pub finds : (p : List ℕ) (o m : ℕ) (l k : Layer) → Step p o l m k → following p o l ≡ spot_at m k
finds p o m l k (ether h) = rw h refl
finds p o m l k (tag t h) = rw (t, h) refl
finds p o m l k (labelled {n = n} t) = rw (labelled_is_no_tag n t, t) refl
finds p o m l k (ip4 e) = rw e (ip4_found p o)
finds p o m l k (ip6 e) = rw e (ip6_found p o)
finds p o m l k (label h b) = rw (h, b) refl
finds p o m l k (label_ip4 h b v) = rw (h, b, v) refl
finds p o m l k (label_ip6 h b v) = rw (h, b, one_version p (o + 4) v, v) refl
finds p o m l k (ip4_ports h f q) = rw (h, f, q) refl
finds p o m l k (ip6_chain h) = rw h refl
finds p o m l k (extension h f) = rw (h, f) refl
finds p o m l k (fragment h f) = rw (h, f) refl
finds p o m l k (last h) = rw h refl
finds p o m l k (last_ports h) = rw h refl

-- the relation has this step
abbrev pub Leads : List ℕ → ℕ → Layer → Option Spot → Type 0
Leads p o l None = Unit {0}
Leads p o l (Some q) = Step p o l q.at q.layer

-- either side of a test
branch : (P : Option Spot → Type 0) (b : Bool) (x y : Option Spot) → (b ≡ true → P x) → (b ≡ false → P y) → P (if b then x else y)
branch P true x y f g = f refl
branch P false x y f g = g refl

-- where two numbers are the same
same_number : (m n : ℕ) → (m == n) ≡ true → m ≡ n
same_number m n h = grind (arith, nat_tests)

-- each step that the program finds is one of the relation
pub leads : (p : List ℕ) (o : ℕ) (l : Layer) → Leads p o l (following p o l)
leads p o Ether = branch (Leads p o Ether) (holds p o 14) _ _ (λ h. ether h) (λ _. tt)
leads p o (Next n) =
    let L : Option Spot → Type 0 = Leads p o (Next n) in
    branch L (is_tag n) _ _ (λ t. branch L (holds p o 4) _ _ (λ h. tag t h) (λ _. tt))
    (λ _. branch L (is_labelled n) _ _ (λ t. labelled t)
    (λ _. branch L (n == IP4) _ _ (λ e. ip4 (same_number n IP4 e)) (λ _. branch L (n == IP6) _ _ (λ e. ip6 (same_number n IP6 e)) (λ _. tt))))
leads p o Label =
    let L : Option Spot → Type 0 = Leads p o Label in
    branch L (holds p o 4) _ _
    (λ h. branch L (is_bottom p o) _ _
    (λ b. branch L (is_version p (o + 4) 4) _ _ (λ v. label_ip4 h b v) (λ _. branch L (is_version p (o + 4) 6) _ _ (λ v. label_ip6 h b v) (λ _. tt)))
    (λ b. label h b))
    (λ _. tt)
leads p o Ip4 =
    let L : Option Spot → Type 0 = Leads p o Ip4 in
    branch L (is_ip4 p o) _ _
    (λ h. branch L (is_first p o) _ _ (λ f. branch L (has_ports (byte p (o + 9))) _ _ (λ q. ip4_ports h f q) (λ _. tt)) (λ _. tt)) (λ _. tt)
leads p o Ip6 = branch (Leads p o Ip6) (is_ip6 p o) _ _ (λ h. ip6_chain h) (λ _. tt)
leads p o (Chain n) =
    let L : Option Spot → Type 0 = Leads p o (Chain n) in
    branch L (is_extension p o n) _ _ (λ h. branch L (is_later p o n) _ _ (λ f. fragment h f) (λ f. extension h f)) (λ h. last h)
leads p o (Last n) = branch (Leads p o (Last n)) (has_ports n) _ _ (λ h. last_ports h) (λ _. tt)
leads p o (Fragment n) = tt
leads p o Ports = tt
