use Rattle.st_load.specs.Lanes.{KeepsSpool}
use Rattle.st_load.proofs.Keeping.{kept_then, known_empty}
use Rattle.st_load.proofs.lanes.open_lane.Goals as goal

pub returns-in-Err-create-clause-keeps : goal.returns-in-Err-create-clause-keeps
returns-in-Err-create-clause-keeps g c =
    let one : KeepsSpool g.D.Shelf.log c.args.spool.now c.create.new.self = record { keeps = c.create.ensures.keeps; state = c.create.ensures.state } in
    let two : KeepsSpool g.D.Shelf.log c.create.new.self c.create-2.new.self = record { keeps = c.create-2.ensures.keeps; state = c.create-2.ensures.state } in
    let three : KeepsSpool g.D.Shelf.log c.create-2.new.self c.abandon.new.self = record { keeps = c.abandon.ensures.keeps; state = c.abandon.ensures.state } in
    kept_then g.D.Shelf.log _ _ _ (kept_then g.D.Shelf.log _ _ _ one two) three

pub returns-in-Ok-new-clause-keeps : goal.returns-in-Ok-new-clause-keeps
returns-in-Ok-new-clause-keeps g c =
    let one : KeepsSpool g.D.Shelf.log c.args.spool.now c.create.new.self = record { keeps = c.create.ensures.keeps; state = c.create.ensures.state } in
    let two : KeepsSpool g.D.Shelf.log c.create.new.self c.create-2.new.self = record { keeps = c.create-2.ensures.keeps; state = c.create-2.ensures.state } in
    kept_then g.D.Shelf.log _ _ _ one two

pub returns-in-Ok-new-clause-empty : goal.returns-in-Ok-new-clause-empty
returns-in-Ok-new-clause-empty g c = λ log known.
    c.in-Ok-new.ensures.records
    (known_empty _ c.in-Ok.ensures.empty.0 (g.met.D.Shelf.drafts_known c.create-2.new.self.shelf log c.in-Ok.block known))
    (known_empty _ c.in-Ok-create.ensures.empty.0 (g.met.D.Shelf.drafts_known c.create-2.new.self.shelf log c.in-Ok-create.index known))

pub returns-in-Err-new-clause-keeps : goal.returns-in-Err-new-clause-keeps
returns-in-Err-new-clause-keeps g c =
    let one : KeepsSpool g.D.Shelf.log c.args.spool.now c.create.new.self = record { keeps = c.create.ensures.keeps; state = c.create.ensures.state } in
    let two : KeepsSpool g.D.Shelf.log c.create.new.self c.create-2.new.self = record { keeps = c.create-2.ensures.keeps; state = c.create-2.ensures.state } in
    let three : KeepsSpool g.D.Shelf.log c.create-2.new.self c.abandon-in-Err-new.new.self = record { keeps = c.abandon-in-Err-new.ensures.keeps; state = c.abandon-in-Err-new.ensures.state } in
    let four : KeepsSpool g.D.Shelf.log c.abandon-in-Err-new.new.self c.abandon-in-Err-new-2.new.self = record { keeps = c.abandon-in-Err-new-2.ensures.keeps; state = c.abandon-in-Err-new-2.ensures.state } in
    kept_then g.D.Shelf.log _ _ _ (kept_then g.D.Shelf.log _ _ _ one two) (kept_then g.D.Shelf.log _ _ _ three four)
