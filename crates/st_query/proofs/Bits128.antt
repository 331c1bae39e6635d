-- A number of 128 bits, its sixteen bytes and its eight groups of 16 bits.
use Rattle.std.proofs.Common.{◌≡◌, ℕ, zero, suc, ◌+◌, ◌*◌, ◌/◌, ◌%◌, ◌^◌, ◌<◌, ◌≤◌, [], ◌∷◌, refl, sym, ap, ◌∙◌, arith, mul-le-mul_right}
use Rattle.std.proofs.Math.Nat.{pow-succ'}
use Rattle.std.specs.Int.{w128, to_be_bytes, from_be_bytes, bytes_high_first, byte_at}
use Rattle.std.specs.Int.Digits.{number_from_digits, number_from_digits_after, AllBelowBase}
use Rattle.std.specs.List.{AllByRecursion}
use Rattle.std.specs.Net.Addr.{segments_of, octets_of}
use Rattle.std.proofs.lemmas.Int.Digits.{number_lt}
use Rattle.std.proofs.lemmas.Nat.{div-add-mod', mod-mul-add, mod_below}

-- sixteen bytes, the first highest
pub from_sixteen : (a b c d e f g h i j k l m n o p : ℕ)
    → from_be_bytes w128 (a ∷ b ∷ c ∷ d ∷ e ∷ f ∷ g ∷ h ∷ i ∷ j ∷ k ∷ l ∷ m ∷ n ∷ o ∷ p ∷ [])
    ≡ number_from_digits 256 (a ∷ b ∷ c ∷ d ∷ e ∷ f ∷ g ∷ h ∷ i ∷ j ∷ k ∷ l ∷ m ∷ n ∷ o ∷ p ∷ [])
from_sixteen a b c d e f g h i j k l m n o p = omega arith

byte_is : (k v : ℕ) → byte_at k v ≡ v / 256 ^ k % 256
byte_is zero v = omega arith
byte_is (suc k) v = refl

-- one byte more from the top
step : (p n v : ℕ) → 0 < p → (n * 256 + v / p % 256) * p + v % p ≡ n * (256 * p) + v % (256 * p)
step p n v some =
    let whole : v / p * p + v % p ≡ v = div-add-mod' v p in
    let high : v / p / 256 * 256 + v / p % 256 ≡ v / p = omega arith in
    let small : v % p < p = mod_below v p some in
    let bound : v / p % 256 * p ≤ 255 * p = mul-le-mul_right p (omega arith) in
    let joined : (v / p / 256 * 256 + v / p % 256) * p ≡ v / p * p = ap (λ x. x * p) high in
    let split : v ≡ v / p / 256 * (256 * p) + (v / p % 256 * p + v % p) = omega arith in
    let rest : v % (256 * p) ≡ v / p % 256 * p + v % p =
    ap (λ x. x % (256 * p)) split ∙ mod-mul-add (v / p / 256) (256 * p) (v / p % 256 * p + v % p) (omega arith) in
    omega arith

pow_256 : (k : ℕ) → 0 < 256 ^ k
pow_256 zero = omega arith
pow_256 (suc k) = let later = pow_256 k in rw (pow-succ' 256 k) (omega arith)

-- the lowest k bytes of v behind n
number_after-bytes : (k n v : ℕ) → number_from_digits_after 256 n (bytes_high_first k v) ≡ n * 256 ^ k + v % 256 ^ k
number_after-bytes zero n v = omega arith
number_after-bytes (suc k) n v =
    number_after-bytes k (n * 256 + byte_at k v) v
    ∙ ap (λ b. (n * 256 + b) * 256 ^ k + v % 256 ^ k) (byte_is k v)
    ∙ step (256 ^ k) n v (pow_256 k)
    ∙ ap (λ p. n * p + v % p) (sym (pow-succ' 256 k))

-- two bytes make a group, and a group two bytes
unsplit : (a b : ℕ) → b < 256 → (((a * 256 + b) / 256) ≡ a) × (((a * 256 + b) % 256) ≡ b)
unsplit a b h = (omega arith, omega arith)

byte_small : (k v : ℕ) → byte_at k v < 256
byte_small zero v = omega arith
byte_small (suc k) v = mod_below (v / 256 ^ suc k) 256 (omega arith)

abbrev twice : ℕ → ℕ
twice zero = zero
twice (suc k) = suc (suc (twice k))

octets-segments : (k v : ℕ) → octets_of (segments_of (bytes_high_first (twice k) v)) ≡ bytes_high_first (twice k) v
octets-segments zero v = refl
octets-segments (suc k) v =
    let parts = unsplit (byte_at (suc (twice k)) v) (byte_at (twice k) v) (byte_small (twice k) v) in
    λ i. parts.0 i ∷ (parts.1 i ∷ octets-segments k v i)

-- the groups of a number have its bits
pub groups_bits : (v : ℕ) → v < 2 ^ 128 → from_be_bytes w128 (octets_of (segments_of (to_be_bytes w128 v))) ≡ v
groups_bits v small =
    ap (from_be_bytes w128) (octets-segments 8 v)
    ∙ from_sixteen (byte_at 15 v) (byte_at 14 v) (byte_at 13 v) (byte_at 12 v) (byte_at 11 v) (byte_at 10 v) (byte_at 9 v) (byte_at 8 v)
    (byte_at 7 v) (byte_at 6 v) (byte_at 5 v) (byte_at 4 v) (byte_at 3 v) (byte_at 2 v) (byte_at 1 v) (byte_at 0 v)
    ∙ number_after-bytes 16 0 v ∙ omega arith

-- eight groups of 16 bits have 128 bits
pub bits_small : (a b c d e f g h : ℕ) → a < 2 ^ 16 → b < 2 ^ 16 → c < 2 ^ 16 → d < 2 ^ 16 → e < 2 ^ 16 → f < 2 ^ 16 → g < 2 ^ 16 → h < 2 ^ 16
    → from_be_bytes w128 (octets_of (a ∷ b ∷ c ∷ d ∷ e ∷ f ∷ g ∷ h ∷ [])) < 2 ^ 128
bits_small a b c d e f g h a< b< c< d< e< f< g< h< =
    let bytes = octets_of (a ∷ b ∷ c ∷ d ∷ e ∷ f ∷ g ∷ h ∷ []) in
    let same = from_sixteen (a / 256) (a % 256) (b / 256) (b % 256) (c / 256) (c % 256) (d / 256) (d % 256) (e / 256) (e % 256) (f / 256) (f % 256) (g / 256) (g % 256) (h / 256) (h % 256) in
    let below : AllBelowBase 256 bytes = search (arith) in
    rw same (number_lt 256 bytes below)

segments-small : (k v : ℕ) → AllByRecursion (λ n. n < 2 ^ 16) (segments_of (bytes_high_first (twice k) v))
segments-small zero v = tt
segments-small (suc k) v =
    let high = byte_small (suc (twice k)) v in
    let low = byte_small (twice k) v in
    (omega arith, segments-small k v)

-- each group of a number has 16 bits
pub groups_small : (v : ℕ) → AllByRecursion (λ n. n < 2 ^ 16) (segments_of (to_be_bytes w128 v))
groups_small v = segments-small 8 v
