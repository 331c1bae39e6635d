-- Shifting bits out is linear, and leaves what stands above them alone.
use Rattle.std.proofs.Common.{◌≡◌, ℕ, zero, suc, ◌+◌, ◌*◌, ◌/◌, ◌%◌, ◌^◌, ◌<◌, refl, sym, ap, ◌∙◌, arith, inl, inr, ◌⊎◌}
use Rattle.std.specs.Prelude.{bit_xor, nat_eq, if◌then◌else◌}
use Rattle.std.specs.Int.Bits.{xor_assoc, xor_zero_l, xor_zero_r}
use Rattle.std.proofs.lemmas.Nat.{xor_comm, xor_shr, xor_mod, xor_block}
use Rattle.std.proofs.Math.Nat.{mul-one, pow-suc}
use Rattle.st_crc.specs.declared.numbers.TheConstants.{POLYNOMIAL}
use Rattle.st_crc.specs.Sum.{bits_out, bit_out}

-- four parts, the inner two changed over
regroup : (a b c d : ℕ) → bit_xor (bit_xor a b) (bit_xor c d) ≡ bit_xor (bit_xor a c) (bit_xor b d)
regroup a b c d =
    xor_assoc a b (bit_xor c d)
    ∙ ap (bit_xor a) (sym (xor_assoc b c d) ∙ ap (λ (x : ℕ). bit_xor x d) (xor_comm b c) ∙ xor_assoc c b d)
    ∙ sym (xor_assoc a c (bit_xor b d))

-- what a lowest bit takes off
taken : ℕ → ℕ
taken bit = if nat_eq bit 0 then 0 else POLYNOMIAL

-- a number below 2 is 0 or 1
bit_is : (n : ℕ) → n < 2 → (n ≡ 0) ⊎ (n ≡ 1)
bit_is zero l = inl refl
bit_is (suc zero) l = inr refl
bit_is (suc (suc n)) l = absurd (omega arith)

taken_linear : (r s : ℕ) → r < 2 → s < 2 → taken (bit_xor r s) ≡ bit_xor (taken r) (taken s)
unfolding taken
taken_linear r s lr ls = elim (bit_is r lr) [
  | inl e ↦ elim (bit_is s ls) [ inl f ↦ rw (e, f) refl | inr f ↦ rw (e, f) refl ]
  | inr e ↦ elim (bit_is s ls) [ inl f ↦ rw (e, f) refl | inr f ↦ rw (e, f) refl ]
]

bit_linear : (a b : ℕ) → bit_out (bit_xor a b) ≡ bit_xor (bit_out a) (bit_out b)
unfolding bit_out taken
bit_linear a b =
    ap (λ (x : ℕ). bit_xor x (taken (bit_xor a b % 2))) (xor_shr a b 1)
    ∙ ap (λ (x : ℕ). bit_xor (bit_xor (a / 2) (b / 2)) (taken x)) (xor_mod a b 1)
    ∙ ap (bit_xor (bit_xor (a / 2) (b / 2))) (taken_linear (a % 2) (b % 2) (omega arith) (omega arith))
    ∙ regroup (a / 2) (b / 2) (taken (a % 2)) (taken (b % 2))

pub bits_linear : (k a b : ℕ) → bits_out k (bit_xor a b) ≡ bit_xor (bits_out k a) (bits_out k b)
unfolding bits_out
bits_linear zero a b = refl
bits_linear (suc k) a b = ap (bits_out k) (bit_linear a b) ∙ bits_linear k (bit_out a) (bit_out b)

bit_zero : (m : ℕ) → bit_out (2 * m) ≡ m
unfolding bit_out
bit_zero m =
    let low : 2 * m % 2 ≡ 0 = omega arith in
    let high : 2 * m / 2 ≡ m = omega arith in
    rw (low, high) (xor_zero_r m)

-- so many zero bits go, and what stands above them stays
pub zeros_out : (k a : ℕ) → bits_out k (a * 2 ^ k) ≡ a
unfolding bits_out
zeros_out zero a = simp mul-one
zeros_out (suc k) a =
    let double : a * 2 ^ suc k ≡ 2 * (a * 2 ^ k) = rw (pow-suc 2 k) (omega arith) in
    ap (λ (x : ℕ). bits_out k (bit_out x)) double ∙ ap (bits_out k) (bit_zero (a * 2 ^ k)) ∙ zeros_out k a

-- first so many bits, then so many
pub bits_more : (j k c : ℕ) → bits_out (j + k) c ≡ bits_out k (bits_out j c)
unfolding bits_out
bits_more zero k c = let none : 0 + k ≡ k = omega arith in ap (λ (n : ℕ). bits_out n c) none
bits_more (suc j) k c =
    let next : suc j + k ≡ suc (j + k) = omega arith in
    ap (λ (n : ℕ). bits_out n c) next ∙ bits_more j k (bit_out c)

-- a number is its lowest byte beside the rest
pub bytes_apart : (a r : ℕ) → r < 256 → bit_xor (a * 256) r ≡ a * 256 + r
bytes_apart a r l =
    let split = xor_block 8 a 0 0 r (omega arith) l in
    let left : a * 2 ^ 8 + 0 ≡ a * 256 = omega arith in
    let right : 0 * 2 ^ 8 + r ≡ r = omega arith in
    let first : bit_xor (a * 256) r ≡ bit_xor (a * 2 ^ 8 + 0) (0 * 2 ^ 8 + r) = ap (λ (x : ℕ). bit_xor x r) (sym left) ∙ ap (bit_xor (a * 2 ^ 8 + 0)) (sym right) in
    first ∙ split ∙ ap (λ (x : ℕ). x * 2 ^ 8 + bit_xor 0 r) (xor_zero_r a) ∙ ap (λ (x : ℕ). a * 2 ^ 8 + x) (xor_zero_l r)

-- the lowest byte goes by itself
pub byte_out : (k c : ℕ) → bits_out (8 + k) c ≡ bit_xor (bits_out (8 + k) (c % 256)) (bits_out k (c / 256))
byte_out k c =
    let parts : bit_xor (c / 256 * 256) (c % 256) ≡ c = bytes_apart (c / 256) (c % 256) (omega arith) ∙ omega arith in
    let high : bits_out (8 + k) (c / 256 * 256) ≡ bits_out k (c / 256) = bits_more 8 k (c / 256 * 256) ∙ ap (bits_out k) (zeros_out 8 (c / 256)) in
    ap (bits_out (8 + k)) (sym parts)
    ∙ bits_linear (8 + k) (c / 256 * 256) (c % 256)
    ∙ xor_comm (bits_out (8 + k) (c / 256 * 256)) (bits_out (8 + k) (c % 256))
    ∙ ap (bit_xor (bits_out (8 + k) (c % 256))) high
