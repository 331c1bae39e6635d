use Rattle.std.proofs.Common.{◌<◌, length, arith}
use Rattle.st_spool.proofs.Gathered.{each_still, all_still, each_more, all_more, rises_more, all_paired}
use Rattle.st_spool.proofs.opening.pair_stamps.Goals as goal

pub names-preserved-in_default : goal.names-preserved-in_default
names-preserved-in_default c =
    let lt : c.names.i < length c.args.names.now = omega arith in
    record {
      rises = c.names.invariant.rises;
      each = each_still c.args.names.now c.names.i lt c.names.stamps.items c.names.invariant.each;
      all = all_still c.args.names.now c.names.i lt c.names.stamps.items c.names.invariant.all c.in_default.ensures;
    }

pub names-preserved : goal.names-preserved
names-preserved c =
    let lt : c.names.i < length c.args.names.now = omega arith in
    let v = c.names.stamps.items in
    let w = c.push.new.self.items in
    record {
      rises = rises_more c.args.names.now c.names.i lt v w c.in-Some.stamp c.in_default-push.ensures.items c.in-Some.ensures.0 c.in-Some.ensures.1 c.requires c.names.invariant.each c.names.invariant.rises;
      each = each_more c.args.names.now c.names.i lt v w c.in-Some.stamp c.in_default-push.ensures.items c.in-Some.ensures.0 c.in-Some.ensures.1 c.names.invariant.each;
      all = all_more c.args.names.now c.names.i lt v w c.in-Some.stamp c.in_default-push.ensures.items c.in-Some.ensures.0 c.in-Some.ensures.1 c.names.invariant.all;
    }

pub returns : goal.returns
returns c = all_paired c.args.names.now c.names.stamps.items c.names.i (omega arith) c.names.invariant.rises c.names.invariant.each c.names.invariant.all (λ k lt. omega arith)
