use Rattle.std.proofs.Common.{refl, arith}
use Rattle.st_block.proofs.scan.tests.the_largest_blocks_and_the_longest_file_come_back.Goals as goal

pub full_file-requires-clause-size : goal.full_file-requires-clause-size
full_file-requires-clause-size g c = record { power = 20; is = refl; least = omega arith; most = omega arith }

pub full_file-requires-2-clause-size : goal.full_file-requires-2-clause-size
full_file-requires-2-clause-size g c = record { power = 12; is = refl; least = omega arith; most = omega arith }

pub full_file-requires-3-clause-size : goal.full_file-requires-3-clause-size
full_file-requires-3-clause-size g c = record { power = 12; is = refl; least = omega arith; most = omega arith }
