use Rattle.std.proofs.Common.{length}
use Rattle.st_folder.proofs.real.digits.+number_of_digits.Given as goal

abbrev pub decreases-number_of_digits : goal.decreases-number_of_digits
decreases-number_of_digits l = length l.digits.now
