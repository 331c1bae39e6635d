use Rattle.std.proofs.Common.{subst}
use Rattle.st_spool.specs.States.{SpoolView}
use Rattle.st_load.specs.Lanes.{KeepsSpool}
use Rattle.st_load.proofs.Keeping.{spent_same, fault_may}
use Rattle.st_load.proofs.publishing.publish.Goals as goal

pub returns-in-Ok-clause-publishes : goal.returns-in-Ok-clause-publishes
returns-in-Ok-clause-publishes g c = λ earlier h f stands. c.in-Ok.ensures.published earlier h f c.in-Ok.ensures.refused stands

pub returns-in-Err-StampsSpent-clause-publishes : goal.returns-in-Err-StampsSpent-clause-publishes
returns-in-Err-StampsSpent-clause-publishes g c = λ earlier h f stands.
    let same = spent_same c.args.spool.now c.publish.new.self c.args.pair c.in-Err-StampsSpent.field-0 c.in-Err-StampsSpent.last c.in-Err-StampsSpent.pair c.in-Err-StampsSpent.field-0-is c.in-Err-StampsSpent.ensures.refused in
    let keeps : KeepsSpool g.D.Shelf.log c.args.spool.now c.abandon_pair.new.spool =
    subst (λ (v : SpoolView g.row.D.Denot). KeepsSpool g.D.Shelf.log v c.abandon_pair.new.spool) same c.abandon_pair.ensures.keeps in
    keeps.keeps earlier h f stands

pub returns-in-Err-DiskFault-clause-publishes : goal.returns-in-Err-DiskFault-clause-publishes
returns-in-Err-DiskFault-clause-publishes g c = λ earlier h f stands.
    c.in-Err-DiskFault.ensures.published earlier h f
    (fault_may c.args.spool.now c.publish.new.self c.args.pair c.in-Err-DiskFault.field-0 c.in-Err-DiskFault.field-0-is c.in-Err-DiskFault.ensures.refused) stands
