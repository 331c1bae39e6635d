use Rattle.std.proofs.Common.{◌≡◌, drop}
use Rattle.st_crc.specs.Sum.{crc_over}
use Rattle.st_crc.proofs.sum.after_each.Given as goal

abbrev pub invariant-bytes : goal.invariant-bytes
invariant-bytes l = crc_over l.state (drop l.byte-index l.bytes) ≡ crc_over l.fn.start l.bytes
