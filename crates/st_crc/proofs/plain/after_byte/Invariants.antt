use Rattle.std.proofs.Common.{◌≡◌, ◌-◌}
use Rattle.std.specs.Prelude.{bit_xor}
use Rattle.st_crc.specs.Sum.{bits_out}
use Rattle.st_crc.proofs.plain.after_byte.Given as goal

abbrev pub invariant-bits : goal.invariant-bits
invariant-bits l = bits_out (8 - l._bit) l.shifted ≡ bits_out 8 (bit_xor l.fn.remainder l.fn.byte)
