use Rattle.st_crc.proofs.Eights.{over_split}
use Rattle.st_crc.proofs.sum.after_few.Goals as goal

pub returns : goal.returns
returns c =
    rw (c.after_each-2.ensures, c.after_eight.ensures, c.split_at.ensures.front, c.split_at.ensures.back) (over_split 8 c.args.start c.args.bytes.now)
