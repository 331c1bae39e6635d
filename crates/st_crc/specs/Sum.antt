-- CRC-32C as RFC 3720, section 12.1, and its appendix B.4 define it: the remainder modulo the
-- Castagnoli polynomial, bit by bit, lowest bit first.
use Rattle.std.specs.Prelude.{ℕ, zero, suc, ◌+◌, ◌/◌, ◌%◌, ◌^◌, List, [], ◌∷◌, nat_eq, if◌then◌else◌, bit_xor}
use Rattle.std.specs.Int.{w32, rotate_right}
use Rattle.st_crc.specs.declared.numbers.TheConstants.{POLYNOMIAL, ALL_ONES, MASK_TURN, MASK_DELTA}

-- the remainder after its lowest bit was shifted out: where that bit was 1, the polynomial is taken
-- off
unfoldable pub bit_out : ℕ → ℕ
bit_out c = bit_xor (c / 2) (if nat_eq (c % 2) 0 then 0 else POLYNOMIAL)

-- the remainder after this many bits were shifted out
unfoldable pub bits_out : ℕ → ℕ → ℕ
bits_out zero c = c
bits_out (suc k) c = bits_out k (bit_out c)

-- the remainder after one more byte
unfoldable pub crc_over_byte : ℕ → ℕ → ℕ
crc_over_byte c b = bits_out 8 (bit_xor c b)

-- the remainder after these bytes
unfoldable pub crc_over : ℕ → List ℕ → ℕ
crc_over c [] = c
crc_over c (b ∷ bytes) = crc_over (crc_over_byte c b) bytes

-- the CRC-32C of bytes: it begins with all ones, and all its bits are turned at the end
unfoldable pub crc_of : List ℕ → ℕ
crc_of bytes = bit_xor (crc_over ALL_ONES bytes) ALL_ONES

-- a sum as a table stores it (LevelDB, util/crc32c.h): turned right by some bits, plus a constant
unfoldable pub masked : ℕ → ℕ
masked crc = (rotate_right w32 crc MASK_TURN + MASK_DELTA) % 2 ^ 32
