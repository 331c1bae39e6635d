use Rattle.st_tblock.proofs.Groups.{varint_again}
use Rattle.st_tblock.proofs.varint.put_varint.Goals as goal

pub returns-clause-read : goal.returns-clause-read
returns-clause-read c = λ rest. rw c.groups_text.ensures (varint_again c.args.value rest c.ranges.value.fits)
