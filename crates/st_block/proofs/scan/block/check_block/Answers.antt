use Rattle.std.proofs.Common.{arith}
use Rattle.st_block.proofs.Whole.{laid_whole}
use Rattle.st_block.proofs.scan.block.check_block.Goals as goal

pub returns-in-None-clause-whole : goal.returns-in-None-clause-whole
returns-in-None-clause-whole c =
    laid_whole c.args.block.now c.in-Ok.layout c.in-Ok.ensures.laid (λ k. omega (arith, (c.type_inv.block k).fits))
