use Rattle.std.proofs.Common.{◌∙◌, sym}
use Rattle.st_crc.proofs.Eights.{over_at, over_all, of_both}
use Rattle.st_crc.proofs.plain.crc32c_by_bits.Goals as goal

pub bytes-preserved : goal.bytes-preserved
bytes-preserved c =
    rw (c.after_byte-remainder.ensures) (over_at c.bytes.byte-index c.bytes.remainder c.args.bytes.now c.bytes-test.true ∙ c.bytes.invariant)

pub returns : goal.returns
returns c =
    of_both c.args.bytes.now c.args.kind c.bytes.remainder c.after_byte.result
    (sym (over_all c.bytes.byte-index c.bytes.remainder c.args.bytes.now c.bytes-test.false) ∙ c.bytes.invariant)
    c.after_byte.ensures
