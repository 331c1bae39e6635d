use Rattle.std.proofs.Common.{[]}
use Rattle.st_disk.specs.declared.naming.Name.TheVariants as name
use Rattle.st_spool.proofs.Keeping.{past_block, past_parked}
use Rattle.st_spool.proofs.Stages.{removes}
use Rattle.st_spool.proofs.Clearing.{removed_here}
use Rattle.st_spool.proofs.Swept.{still_none, stays_read}
use Rattle.st_spool.proofs.sweeping.forget.Goals as goal

pub returns-in-Err-clause-forgotten : goal.returns-in-Err-clause-forgotten
returns-in-Err-clause-forgotten g c = λ l rows past run.
    let D = g.D.Shelf in
    removes l [] rows (D.log c.args.shelf.now) (D.log c.remove.new.self) c.remove.result (name.Parked c.args.stamp) (past_parked rows c.args.stamp past) run c.remove.ensures.log

pub returns-in-Err-clause-still : goal.returns-in-Err-clause-still
returns-in-Err-clause-still g c = λ n none. still_none (g.D.Shelf.log c.args.shelf.now) (g.D.Shelf.log c.remove.new.self) c.remove.result (name.Parked c.args.stamp) n c.remove.ensures.log none

pub returns-in-Err-remove-clause-forgotten : goal.returns-in-Err-remove-clause-forgotten
returns-in-Err-remove-clause-forgotten g c = λ l rows past run.
    let D = g.D.Shelf in
    let a = removes l [] rows (D.log c.args.shelf.now) (D.log c.remove.new.self) c.remove.result (name.Parked c.args.stamp) (past_parked rows c.args.stamp past) run c.remove.ensures.log in
    removes l [] rows (D.log c.remove.new.self) (D.log c.remove-2.new.self) c.remove-2.result (name.Block c.args.stamp) (past_block rows c.args.stamp past) a c.remove-2.ensures.log

pub returns-in-Err-remove-clause-still : goal.returns-in-Err-remove-clause-still
returns-in-Err-remove-clause-still g c = λ n none.
    let D = g.D.Shelf in
    still_none (D.log c.remove.new.self) (D.log c.remove-2.new.self) c.remove-2.result (name.Block c.args.stamp) n c.remove-2.ensures.log
    (still_none (D.log c.args.shelf.now) (D.log c.remove.new.self) c.remove.result (name.Parked c.args.stamp) n c.remove.ensures.log none)

pub returns-clause-forgotten : goal.returns-clause-forgotten
returns-clause-forgotten g c = λ l rows past run.
    let D = g.D.Shelf in
    let a = removes l [] rows (D.log c.args.shelf.now) (D.log c.remove.new.self) c.remove.result (name.Parked c.args.stamp) (past_parked rows c.args.stamp past) run c.remove.ensures.log in
    removes l [] rows (D.log c.remove.new.self) (D.log c.remove-2.new.self) c.remove-2.result (name.Block c.args.stamp) (past_block rows c.args.stamp past) a c.remove-2.ensures.log

pub returns-clause-gone : goal.returns-clause-gone
returns-clause-gone g c =
    let D = g.D.Shelf in (
      removed_here (D.log c.remove.new.self) (D.log c.remove-2.new.self) (name.Block c.args.stamp) c.in_default-remove.ensures.log,
      still_none (D.log c.remove.new.self) (D.log c.remove-2.new.self) c.remove-2.result (name.Block c.args.stamp) (name.Parked c.args.stamp) c.remove-2.ensures.log
          (removed_here (D.log c.args.shelf.now) (D.log c.remove.new.self) (name.Parked c.args.stamp) c.in_default.ensures.log),
    )

pub returns-clause-still : goal.returns-clause-still
returns-clause-still g c = λ n none.
    let D = g.D.Shelf in
    still_none (D.log c.remove.new.self) (D.log c.remove-2.new.self) c.remove-2.result (name.Block c.args.stamp) n c.remove-2.ensures.log
    (still_none (D.log c.args.shelf.now) (D.log c.remove.new.self) c.remove.result (name.Parked c.args.stamp) n c.remove.ensures.log none)

pub returns-in-Err-clause-spares : goal.returns-in-Err-clause-spares
returns-in-Err-clause-spares g c = λ n v others read.
    let D = g.D.Shelf in
    stays_read (D.log c.args.shelf.now) (D.log c.remove.new.self) c.remove.result (name.Parked c.args.stamp) n v c.remove.ensures.log others.1 read

pub returns-in-Err-remove-clause-spares : goal.returns-in-Err-remove-clause-spares
returns-in-Err-remove-clause-spares g c = λ n v others read.
    let D = g.D.Shelf in
    stays_read (D.log c.remove.new.self) (D.log c.remove-2.new.self) c.remove-2.result (name.Block c.args.stamp) n v c.remove-2.ensures.log others.0
    (stays_read (D.log c.args.shelf.now) (D.log c.remove.new.self) c.remove.result (name.Parked c.args.stamp) n v c.remove.ensures.log others.1 read)

pub returns-clause-spares : goal.returns-clause-spares
returns-clause-spares g c = λ n v others read.
    let D = g.D.Shelf in
    stays_read (D.log c.remove.new.self) (D.log c.remove-2.new.self) c.remove-2.result (name.Block c.args.stamp) n v c.remove-2.ensures.log others.0
    (stays_read (D.log c.args.shelf.now) (D.log c.remove.new.self) c.remove.result (name.Parked c.args.stamp) n v c.remove.ensures.log others.1 read)
