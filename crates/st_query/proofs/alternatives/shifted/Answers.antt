use Rattle.st_query.proofs.Chains.{none_left}
use Rattle.st_query.proofs.alternatives.shifted.Goals as goal

pub returns-then-dropped-ge-V6_BITS : goal.returns-then-dropped-ge-V6_BITS
returns-then-dropped-ge-V6_BITS c = none_left c.args.number c.args.dropped c.ranges.number.fits c.if-dropped-ge-V6_BITS.true
