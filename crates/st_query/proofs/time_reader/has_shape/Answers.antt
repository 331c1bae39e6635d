use Rattle.std.proofs.Common.{ap, sym, ◌∙◌, length, length-take-le, arith}
use Rattle.st_query.proofs.time_reader.has_shape.Goals as goal

pub fits-requires : goal.fits-requires
fits-requires c = ap length c.as_slice.ensures ∙ sym (length-take-le 19 c.args.word.now (omega arith))
