use Rattle.std.proofs.Common.{◌∙◌}
use Rattle.st_crc.proofs.Eights.{over_word}
use Rattle.st_crc.proofs.sum.after_eight.Goals as goal

pub returns : goal.returns
returns c =
    c.word_out.ensures
    ∙ over_word c.from.result c.args.state c.read_u64.result c.args.eight.now (λ i. (c.type_inv.eight i).fits) c.requires c.from.ensures c.read_u64.ensures
