use Rattle.st_crc.proofs.Eights.{of_both}
use Rattle.st_crc.proofs.sum.crc32c.Goals as goal

pub returns : goal.returns
returns c = of_both c.args.bytes.now c.args.kind c.after_bytes.result c.after_byte.result c.after_bytes.ensures c.after_byte.ensures
