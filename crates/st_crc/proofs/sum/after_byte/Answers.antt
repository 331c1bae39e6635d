use Rattle.st_crc.proofs.Eights.{byte_read}
use Rattle.st_crc.proofs.sum.after_byte.Goals as goal

pub returns : goal.returns
returns c =
    rw (c.lowest_out.ensures, c.from-2.ensures, c.from.ensures) (byte_read c.args.state c.args.byte c.ranges.byte.fits)
