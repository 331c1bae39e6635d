use Rattle.std.proofs.Common.{◌≡◌, drop}
use Rattle.st_crc.specs.declared.numbers.TheConstants.{ALL_ONES}
use Rattle.st_crc.specs.Sum.{crc_over}
use Rattle.st_crc.proofs.plain.crc32c_by_bits.Given as goal

abbrev pub invariant-bytes : goal.invariant-bytes
invariant-bytes l = crc_over l.remainder (drop l.byte-index l.bytes) ≡ crc_over ALL_ONES l.bytes
