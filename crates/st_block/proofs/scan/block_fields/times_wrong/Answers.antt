use Rattle.std.proofs.Common.{arith}
use Rattle.st_block.proofs.Checking.{head_times_checks}
use Rattle.st_block.proofs.scan.block_fields.times_wrong.Goals as goal

pub returns : goal.returns
returns c =
    let e = head_times_checks c.args.place c.args.first.now c.args.last.now c.args.block.now in grind (arith, e)
