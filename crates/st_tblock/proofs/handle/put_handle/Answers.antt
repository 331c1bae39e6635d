use Rattle.st_tblock.proofs.Footers.{handle_again}
use Rattle.st_tblock.proofs.handle.put_handle.Goals as goal

pub returns-clause-read : goal.returns-clause-read
returns-clause-read c = λ rest. rw c.handle_bytes.ensures.text (handle_again c.args.handle rest c.handle_bytes.ensures.range)
