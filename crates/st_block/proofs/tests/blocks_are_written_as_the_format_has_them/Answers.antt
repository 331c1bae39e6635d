use Rattle.std.proofs.Common.{refl, arith}
use Rattle.st_block.proofs.tests.blocks_are_written_as_the_format_has_them.Goals as goal

pub new-requires : goal.new-requires
new-requires g c = record { power = 12; is = refl; least = omega arith; most = omega arith }

pub new-requires-2 : goal.new-requires-2
new-requires-2 g c = record { power = 13; is = refl; least = omega arith; most = omega arith }

pub position_in-requires-clause-size : goal.position_in-requires-clause-size
position_in-requires-clause-size g c = record { power = 13; is = refl; least = omega arith; most = omega arith }
