use Rattle.std.proofs.Common.{◌<◌, length, arith}
use Rattle.st_spool.proofs.Gathered.{above_more, some_more}
use Rattle.st_spool.proofs.opening.last_stamp.Goals as goal

pub names-preserved : goal.names-preserved
names-preserved c =
    let lt : c.names.i < length c.args.names.now = omega arith in
    record {
      above = above_more c.args.names.now c.names.i lt c.names.last c.in-Some.stamp c.max-last.result c.names.invariant.above c.in-Some.ensures.1 c.max-last.ensures;
      some = some_more c.args.names.now c.names.i lt c.names.last c.in-Some.stamp c.max-last.result c.names.invariant.some c.in-Some.ensures.0 c.in-Some.ensures.1 c.max-last.ensures;
    }
