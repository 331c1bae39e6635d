use Rattle.std.proofs.Common.{arith}
use Rattle.st_folder.proofs.Numerals.{stamped}
use Rattle.st_folder.proofs.real.digits.stamp_of.Goals as goal

pub returns : goal.returns
returns c = stamped c.as_bytes-digits.result.now c.args.text.now c.number_of_digits.result c.as_bytes-digits.ensures.value (omega (arith, c.if-not-is_whole.false)) c.number_of_digits.ensures
