use Rattle.std.proofs.Common.{◌≡◌, drop}
use Rattle.st_query.specs.TimeReader.{fits}
use Rattle.st_query.proofs.time_reader.fits.Given as goal

abbrev pub invariant-loop-i : goal.invariant-loop-i
invariant-loop-i l = fits (drop l.i l.pattern) (drop l.i l.text) ≡ fits l.pattern l.text
