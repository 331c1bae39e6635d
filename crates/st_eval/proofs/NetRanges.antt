-- The keys between two keys, and the addresses of a net.
use Rattle.std.proofs.Common.{◌≡◌, ℕ, ◌+◌, ◌-◌, ◌*◌, ◌/◌, ◌^◌, ◌<◌, ◌≤◌, true, false, not, ◌&&◌, IsTrue, refl, sym, ap, ◌∙◌, arith, nat_cmp, is_lt, true≢false, subst, pow_pos, div-add-mod', mod-lt, ◌%◌, mul-le-mul_right, add-mul}
use Rattle.std.proofs.lemmas.Bool.Decides.{nat_tests}
use Rattle.std.proofs.lemmas.Nat.{div-mul-add, shr_below, pow-add}
use Rattle.st_base.specs.Records.{Rec}
use Rattle.st_walk.specs.declared.text.Key.{Key}
use Rattle.st_walk.specs.declared.text.Key.TheVariants as key
use Rattle.st_walk.specs.Walk.{HasKey}
use Rattle.st_query.specs.declared.addrs.Addr.{Addr}
use Rattle.st_query.specs.declared.addrs.Addr.TheVariants.{V4, V6}
use Rattle.st_query.specs.Words.{cleared}
use Rattle.st_query.specs.Meaning.{IsInNet}
use Rattle.st_rows.specs.KeyOrder.{lies}
use Rattle.st_walk.specs.KeyText.{Fits}
use Rattle.st_query.specs.Words.{FitsAddr}
use Rattle.st_eval.specs.Ranges.{net_low, net_high, NetIsRange}

-- between two numbers of one kind
between : (a b x : ℕ) → (not (is_lt (nat_cmp b x)) && not (is_lt (nat_cmp x a))) ≡ true → (a ≤ x) × (x ≤ b)
between a b x h = grind (arith, nat_tests)

pub within : (a b x : ℕ) → a ≤ x → x ≤ b → (not (is_lt (nat_cmp b x)) && not (is_lt (nat_cmp x a))) ≡ true
within a b x h i = grind (arith, nat_tests)

never : {A : Type 0} → false ≡ true → A
never h = absurd (true≢false (sym h))

pub v4_lies : (a b : ℕ) (k : Key) → IsTrue (lies (key.V4 a) (key.V4 b) k) → (x : ℕ) × (k ≡ key.V4 x) × (a ≤ x) × (x ≤ b)
v4_lies a b (key.V4 x) h = let i = between a b x h in (x, refl, i.0, i.1)
v4_lies a b _ h = never h

pub v6_lies : (a b : ℕ) (k : Key) → IsTrue (lies (key.V6 a) (key.V6 b) k) → (x : ℕ) × (k ≡ key.V6 x) × (a ≤ x) × (x ≤ b)
v6_lies a b (key.V6 x) h = let i = between a b x h in (x, refl, i.0, i.1)
v6_lies a b _ h = never h

pub second_lies : (a b : ℕ) (k : Key) → IsTrue (lies (key.Second a) (key.Second b) k) → (x : ℕ) × (k ≡ key.Second x) × (a ≤ x) × (x ≤ b)
second_lies a b (key.Second x) h = let i = between a b x h in (x, refl, i.0, i.1)
second_lies a b _ h = never h

-- the only key from a key to itself
same : (a x : ℕ) → (not (is_lt (nat_cmp a x)) && not (is_lt (nat_cmp x a))) ≡ true → x ≡ a
same a x h = grind (arith, nat_tests)

pub lies_only : (k j : Key) → IsTrue (lies k k j) → j ≡ k
lies_only (key.Proto n) (key.Proto x) h = ap (λ m. key.Proto m) (same n x h)
lies_only (key.Port n) (key.Port x) h = ap (λ m. key.Port m) (same n x h)
lies_only (key.Vlan n) (key.Vlan x) h = ap (λ m. key.Vlan m) (same n x h)
lies_only (key.V4 n) (key.V4 x) h = ap (λ m. key.V4 m) (same n x h)
lies_only (key.Mpls n) (key.Mpls x) h = ap (λ m. key.Mpls m) (same n x h)
lies_only (key.V6 n) (key.V6 x) h = ap (λ m. key.V6 m) (same n x h)
lies_only (key.Second n) (key.Second x) h = ap (λ m. key.Second m) (same n x h)
lies_only _ _ h = never h

pub lies_itself : (k : Key) → IsTrue (lies k k k)
lies_itself (key.Proto n) = within n n n (omega arith) (omega arith)
lies_itself (key.Port n) = within n n n (omega arith) (omega arith)
lies_itself (key.Vlan n) = within n n n (omega arith) (omega arith)
lies_itself (key.V4 n) = within n n n (omega arith) (omega arith)
lies_itself (key.Mpls n) = within n n n (omega arith) (omega arith)
lies_itself (key.V6 n) = within n n n (omega arith) (omega arith)
lies_itself (key.Second n) = within n n n (omega arith) (omega arith)

-- numbers with one quotient are a range
quotient_in : (a x p : ℕ) → 0 < p → x / p * p ≡ a / p * p → (a / p * p ≤ x) × (x ≤ a / p * p + (p - 1))
quotient_in a x p some e =
    let whole : x / p * p + x % p ≡ x = div-add-mod' x p in
    let small : x % p < p = mod-lt x some in
    (omega arith, omega arith)

in_quotient : (a x p : ℕ) → 0 < p → a / p * p ≤ x → x ≤ a / p * p + (p - 1) → x / p * p ≡ a / p * p
in_quotient a x p some h i =
    let rest : x ≡ a / p * p + (x - a / p * p) = omega arith in
    let same : x / p ≡ a / p = ap (λ y. y / p) rest ∙ div-mul-add (a / p) p (x - a / p * p) (omega arith) in
    ap (λ q. q * p) same

abbrev bits_of : Addr → ℕ
bits_of (V4 x) = x
bits_of (V6 x) = x

net_in : (a : Addr) (n : ℕ) (r : Rec) → IsInNet a n r → (k : Key) × HasKey r.body r.sec k × IsTrue (lies (net_low a n) (net_high a n) k)
net_in (V4 a) n r (V4 x, e, h) = let i = quotient_in a x (2 ^ (32 - n)) (pow_pos (32 - n)) (ap bits_of e) in (key.V4 x, h, within _ _ x i.0 i.1)
net_in (V6 a) n r (V6 x, e, h) = let i = quotient_in a x (2 ^ (128 - n)) (pow_pos (128 - n)) (ap bits_of e) in (key.V6 x, h, within _ _ x i.0 i.1)
net_in (V4 a) n r (V6 x, e, h) = cc
net_in (V6 a) n r (V4 x, e, h) = cc

in_net : (a : Addr) (n : ℕ) (r : Rec) (k : Key) → HasKey r.body r.sec k → IsTrue (lies (net_low a n) (net_high a n) k) → IsInNet a n r
in_net (V4 a) n r k h i =
    let (x, e, low, high) = v4_lies _ _ k i in
    (V4 x, ap (λ y. V4 y) (in_quotient a x (2 ^ (32 - n)) (pow_pos (32 - n)) low high), subst (λ (j : Key). HasKey r.body r.sec j) e h)
in_net (V6 a) n r k h i =
    let (x, e, low, high) = v6_lies _ _ k i in
    (V6 x, ap (λ y. V6 y) (in_quotient a x (2 ^ (128 - n)) (pow_pos (128 - n)) low high), subst (λ (j : Key). HasKey r.body r.sec j) e h)

pub nets : NetIsRange
nets a n r = (net_in a n r, λ (k, h, i). in_net a n r k h i)

-- the greatest number of a net has no more bits
fits : (w n a : ℕ) → a < 2 ^ w → cleared w n a + (2 ^ (w - n) - 1) < 2 ^ w
fits w n a h =
    let k = w - n in
    let parts : (w - k) + k ≡ w = omega arith in
    let top : a / 2 ^ k < 2 ^ (w - k) = shr_below a (w - k) k (subst (λ m. a < 2 ^ m) (sym parts) h) in
    let rows : (a / 2 ^ k + 1) * 2 ^ k ≤ 2 ^ (w - k) * 2 ^ k = mul-le-mul_right (2 ^ k) (omega arith) in
    let out : (a / 2 ^ k + 1) * 2 ^ k ≡ a / 2 ^ k * 2 ^ k + 1 * 2 ^ k = add-mul (a / 2 ^ k) 1 (2 ^ k) in
    let all : 2 ^ w ≡ 2 ^ (w - k) * 2 ^ k = ap (λ m. 2 ^ m) (sym parts) ∙ pow-add 2 (w - k) k in
    let some : 0 < 2 ^ k = pow_pos k in
    omega arith

pub net_fits : (a : Addr) (n : ℕ) → FitsAddr a → Fits (net_low a n) × Fits (net_high a n)
net_fits (V4 a) n f = let h = fits 32 n a f in (omega arith, h)
net_fits (V6 a) n f = let h = fits 128 n a f in (omega arith, h)

pub capped : (w host a low one : ℕ) → host ≤ w → a < 2 ^ w → low ≡ a / 2 ^ host * 2 ^ host → one + 1 ≡ 2 ^ host → low + one < 2 ^ w
capped w host a low one h small e f =
    let parts : (w - host) + host ≡ w = omega arith in
    let top : a / 2 ^ host < 2 ^ (w - host) = shr_below a (w - host) host (subst (λ m. a < 2 ^ m) (sym parts) small) in
    let rows : (a / 2 ^ host + 1) * 2 ^ host ≤ 2 ^ (w - host) * 2 ^ host = mul-le-mul_right (2 ^ host) (omega arith) in
    let out : (a / 2 ^ host + 1) * 2 ^ host ≡ a / 2 ^ host * 2 ^ host + 1 * 2 ^ host = add-mul (a / 2 ^ host) 1 (2 ^ host) in
    let all : 2 ^ w ≡ 2 ^ (w - host) * 2 ^ host = ap (λ m. 2 ^ m) (sym parts) ∙ pow-add 2 (w - host) host in
    omega arith
