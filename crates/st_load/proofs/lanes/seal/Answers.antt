use Rattle.st_load.specs.Lanes.{KeepsSpool}
use Rattle.st_load.proofs.Keeping.{kept_then}
use Rattle.st_load.proofs.lanes.seal.Goals as goal

pub returns-in-Err-DiskFault-clause-spool : goal.returns-in-Err-DiskFault-clause-spool
returns-in-Err-DiskFault-clause-spool g c =
    let one : KeepsSpool g.D.Shelf.log c.args.spool.now c.abandon.new.self = record { keeps = c.abandon.ensures.keeps; state = c.abandon.ensures.state } in
    let two : KeepsSpool g.D.Shelf.log c.abandon.new.self c.abandon-in-Err-DiskFault.new.self = record { keeps = c.abandon-in-Err-DiskFault.ensures.keeps; state = c.abandon-in-Err-DiskFault.ensures.state } in
    kept_then g.D.Shelf.log _ _ _ one two
