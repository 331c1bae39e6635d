use Rattle.std.proofs.Common.{rules}
use Rattle.st_folder.proofs.Numerals.{plain}
use Rattle.st_folder.proofs.real.digits.number_of.Goals as goal

pub returns-then-not-is_plain : goal.returns-then-not-is_plain
returns-then-not-is_plain c = λ n h e. let told = plain c.args.text.now n h e in search rules
