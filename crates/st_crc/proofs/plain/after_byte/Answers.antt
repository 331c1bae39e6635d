use Rattle.std.proofs.Common.{◌≡◌, ℕ, ◌-◌, suc, ◌+◌, ◌<◌, arith, ap, ◌∙◌, sym}
use Rattle.std.specs.Prelude.{bit_xor}
use Rattle.st_crc.specs.Sum.{bits_out, bit_out}
use Rattle.st_crc.proofs.Eights.{over_byte_is, bits_one, no_bits}
use Rattle.st_crc.proofs.plain.after_byte.Goals as goal

-- the bit that goes in this turn
turn : (i x y : ℕ) → i < 8 → bits_out (8 - i) x ≡ y → bits_out (8 - (i + 1)) (bit_out x) ≡ y
turn i x y l h =
    let one : 8 - i ≡ suc (8 - (i + 1)) = omega arith in
    sym (bits_one (8 - (i + 1)) x) ∙ ap (λ (k : ℕ). bits_out k x) (sym one) ∙ h

pub bits-init : goal.bits-init
bits-init c = ap (λ (b : ℕ). bits_out 8 (bit_xor c.args.remainder b)) c.from.ensures

pub bits-preserved : goal.bits-preserved
bits-preserved c =
    ap (bits_out (8 - (c.bits._bit + 1))) c.shift-shifted.ensures ∙ turn c.bits._bit c.bits.shifted _ c.bits-test.true c.bits.invariant

pub returns : goal.returns
returns c =
    let done : 8 - c.bits._bit ≡ 0 = omega arith in
    sym (no_bits c.bits.shifted)
    ∙ ap (λ (k : ℕ). bits_out k c.bits.shifted) (sym done)
    ∙ c.bits.invariant
    ∙ sym (over_byte_is c.args.remainder c.args.byte)
