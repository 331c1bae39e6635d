use Rattle.std.proofs.Common.{◌%◌, arith}
use Rattle.st_crc.proofs.Known.{entry_is}
use Rattle.st_crc.proofs.sum.lowest_out.Goals as goal

pub returns : goal.returns
returns c =
    entry_is c.args.bytes (c.args.word % 256) c.requires.at_least c.requires.at_most (omega arith)
