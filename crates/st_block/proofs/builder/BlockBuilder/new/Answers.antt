use Rattle.std.proofs.Common.{refl, arith, rules}
use Rattle.st_block.proofs.Adding.{none_held}
use Rattle.st_block.proofs.builder.BlockBuilder.new.Goals as goal

pub returns : goal.returns
returns c =
    let least = c.requires.least in
    (refl, none_held _ refl refl (omega arith) (search rules))
