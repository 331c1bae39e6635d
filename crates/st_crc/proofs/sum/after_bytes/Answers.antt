use Rattle.std.proofs.Common.{◌∙◌}
use Rattle.st_crc.proofs.Eights.{over_split}
use Rattle.st_crc.proofs.sum.after_bytes.Goals as goal

pub sixteens-preserved : goal.sixteens-preserved
sixteens-preserved c =
    rw (c.after_sixteen-state.ensures, c.split_at.ensures.front, c.split_at.ensures.back) (over_split 16 c.sixteens.state c.sixteens.rest.now ∙ c.sixteens.invariant)
