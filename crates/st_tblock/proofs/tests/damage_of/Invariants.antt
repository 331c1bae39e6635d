use Rattle.std.proofs.Common.{length}
use Rattle.st_tblock.proofs.tests.damage_of.Given as goal

abbrev pub decreases-entries : goal.decreases-entries
decreases-entries l = length l.cursor.reading.rest
