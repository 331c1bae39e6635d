-- The order of keys by their texts.
use Rattle.std.proofs.Common.{◌≡◌, ℕ, zero, suc, ◌+◌, ◌*◌, ◌/◌, ◌%◌, ◌^◌, ◌<◌, ◌≤◌, refl, sym, ap, ◌∙◌, arith, nat_cmp, mul-le-mul_right, add-mul}
use Rattle.std.proofs.Math.Nat.{add_assoc, div-add-mod', div-one, mod-eq_of_lt, mod-lt, mul-add-mod_self_right, mul_assoc, one-le-pow, pow-succ'}
use Rattle.std.specs.Ordering.{ordering_then}
use Rattle.std.specs.Cmp.Lexicographic.{slice_cmp}
use Rattle.std.specs.Int.{byte_at, bytes_high_first}
use Rattle.std.proofs.lemmas.Bool.Decides.{nat_tests}
use Rattle.st_walk.specs.declared.text.Key.TheVariants.{Proto, Port, Vlan, V4, Mpls, V6, Second}
use Rattle.st_rows.specs.KeyOrder.{TextOrder, TextsLie}

pow_pos256 : (n : ℕ) → 0 < 256 ^ n
pow_pos256 n = let h = one-le-pow n 256 (omega arith) in omega arith

byte_at-pow : (k x : ℕ) → byte_at k x ≡ x / 256 ^ k % 256
byte_at-pow zero x = ap (λ (y : ℕ). y % 256) (sym (div-one x))
byte_at-pow (suc k) x = refl

-- the two low digits of n, to the bases c and then m
mod-split : (n : ℕ) {m c : ℕ} → zero < m → zero < c → n % (m * c) ≡ (n / c % m) * c + n % c
mod-split n {m} {c} hm hc =
    let a = mod-lt (n / c) hm in
    let b = mod-lt n hc in
    let top : (n / c % m + 1) * c ≤ m * c = mul-le-mul_right c (omega arith) in
    let expand : (n / c % m + 1) * c ≡ n / c % m * c + 1 * c = add-mul (n / c % m) 1 c in
    let split : n ≡ n / c / m * (m * c) + (n / c % m * c + n % c) =
    sym (div-add-mod' n c)
    ∙ ap (λ (x : ℕ). x * c + n % c) (sym (div-add-mod' (n / c) m))
    ∙ ap (λ (x : ℕ). x + n % c) (add-mul (n / c / m * m) (n / c % m) c ∙ ap (λ (x : ℕ). x + n / c % m * c) (mul_assoc (n / c / m) m c))
    ∙ add_assoc (n / c / m * (m * c)) (n / c % m * c) (n % c) in
    ap (λ (x : ℕ). x % (m * c)) split ∙ mul-add-mod_self_right (n / c / m) (m * c) (n / c % m * c + n % c) ∙ mod-eq_of_lt (omega arith)

-- a row of equal digits is below the next
below : (a b p r s : ℕ) → r < p → a < b → a * p + r < b * p + s
below a b p r s h less =
    let step : (a + 1) * p ≤ b * p = mul-le-mul_right p (omega arith) in
    let out : (a + 1) * p ≡ a * p + 1 * p = add-mul a 1 p in
    omega arith

-- a high digit decides, and else the rest does
digits : (a b p r s : ℕ) → r < p → s < p → ordering_then (nat_cmp a b) (nat_cmp r s) ≡ nat_cmp (a * p + r) (b * p + s)
digits a b p r s h i =
    let up : a < b → a * p + r < b * p + s = below a b p r s h in
    let down : b < a → b * p + s < a * p + r = below b a p s r i in
    let same : a ≡ b → a * p ≡ b * p = λ e. ap (λ x. x * p) e in
    grind (arith, nat_tests)

-- the order of the bytes of two numbers is that of the numbers
bytes_cmp : (n x y : ℕ) → slice_cmp nat_cmp (bytes_high_first n x) (bytes_high_first n y) ≡ nat_cmp (x % 256 ^ n) (y % 256 ^ n)
bytes_cmp zero x y = grind (arith, nat_tests)
bytes_cmp (suc n) x y =
    let some = pow_pos256 n in
    let left = mod-split x {m = 256} {c = 256 ^ n} (omega arith) some in
    let right = mod-split y {m = 256} {c = 256 ^ n} (omega arith) some in
    rw (bytes_cmp n x y, byte_at-pow n x, byte_at-pow n y, pow-succ' 256 n, left, right) (digits _ _ (256 ^ n) _ _ (mod-lt x some) (mod-lt y some))

-- the order of two texts of one kind
pub alike : (n x y : ℕ) → x < 256 ^ n → y < 256 ^ n → slice_cmp nat_cmp (bytes_high_first n x) (bytes_high_first n y) ≡ nat_cmp x y
alike n x y h i = rw (bytes_cmp n x y, mod-eq_of_lt h, mod-eq_of_lt i) refl

pub texts : TextOrder
texts (Proto n) (Proto m) h i = alike 1 n m h i
texts (Port n) (Port m) h i = alike 2 n m h i
texts (Vlan n) (Vlan m) h i = alike 2 n m h i
texts (V4 n) (V4 m) h i = alike 4 n m h i
texts (Mpls n) (Mpls m) h i = alike 4 n m h i
texts (V6 n) (V6 m) h i = alike 16 n m h i
texts (Second n) (Second m) h i = alike 4 n m h i
texts _ _ h i = refl

pub texts_between : TextsLie
texts_between low high k f g h = rw (texts high k g h, texts k low h f) refl
