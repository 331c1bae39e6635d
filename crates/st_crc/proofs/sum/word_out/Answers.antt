use Rattle.st_crc.proofs.Eights.{eight_reads}
use Rattle.st_crc.proofs.sum.word_out.Goals as goal

pub returns : goal.returns
returns c =
    rw (c.lowest_out.ensures, c.lowest_out-2.ensures, c.lowest_out-3.ensures, c.lowest_out-4.ensures, c.lowest_out-5.ensures, c.lowest_out-6.ensures, c.lowest_out-7.ensures, c.lowest_out-8.ensures) (eight_reads c.args.bytes c.args.word c.requires.at_least c.ranges.word.fits)
