use Rattle.std.proofs.Common.{◌≡◌, length}
use Rattle.st_crc.specs.Sum.{crc_over}
use Rattle.st_crc.proofs.sum.after_bytes.Given as goal

abbrev pub invariant-sixteens : goal.invariant-sixteens
invariant-sixteens l = crc_over l.state l.rest ≡ crc_over l.fn.start l.fn.bytes

abbrev pub decreases-sixteens : goal.decreases-sixteens
decreases-sixteens l = length l.rest
