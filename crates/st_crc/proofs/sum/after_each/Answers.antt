use Rattle.std.proofs.Common.{◌∙◌, sym}
use Rattle.st_crc.proofs.Eights.{over_at, over_all}
use Rattle.st_crc.proofs.sum.after_each.Goals as goal

pub bytes-preserved : goal.bytes-preserved
bytes-preserved c =
    rw (c.after_byte-state.ensures) (over_at c.bytes.byte-index c.bytes.state c.args.bytes.now c.bytes-test.true ∙ c.bytes.invariant)

pub returns : goal.returns
returns c = sym (over_all c.bytes.byte-index c.bytes.state c.args.bytes.now c.bytes-test.false) ∙ c.bytes.invariant
