use Rattle.st_load.specs.Lanes.{KeepsSpool}
use Rattle.st_load.proofs.Keeping.{kept_then}
use Rattle.st_load.proofs.publishing.abandon_pair.Goals as goal

pub returns-clause-keeps : goal.returns-clause-keeps
returns-clause-keeps g c =
    let one : KeepsSpool g.D.Shelf.log c.args.spool.now c.abandon.new.self = record { keeps = c.abandon.ensures.keeps; state = c.abandon.ensures.state } in
    let two : KeepsSpool g.D.Shelf.log c.abandon.new.self c.abandon-2.new.self = record { keeps = c.abandon-2.ensures.keeps; state = c.abandon-2.ensures.state } in
    kept_then g.D.Shelf.log _ _ _ one two
