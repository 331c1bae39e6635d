use Rattle.st_crc.proofs.Eights.{over_words}
use Rattle.st_crc.proofs.sum.after_sixteen.Goals as goal

pub returns : goal.returns
returns c =
    let front = c.split_at.result.0.now in
    let back = c.split_at.result.1.now in
    rw (c.word_out.ensures, c.word_out-2.ensures)
    (over_words c.from.result c.args.state c.read_u64.result c.read_u64-second.result c.args.sixteen.now front back (λ i. (c.type_inv.sixteen i).fits) c.requires c.split_at.ensures.front c.split_at.ensures.back c.from.ensures c.read_u64.ensures c.read_u64-second.ensures)
