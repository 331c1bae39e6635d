use Rattle.std.proofs.Common.{arith, refl}
use Rattle.seated_answer.proofs.pairs.open_lane.Goals as goal

-- 4,096 is the twelfth power of two
pub new-requires-clause-size : goal.new-requires-clause-size
new-requires-clause-size g c =
    record { power = 12; is = refl; least = omega arith; most = omega arith }
