use Rattle.std.proofs.Common.{◌≡◌, [], ◌∷◌, None}
use Rattle.st_disk.specs.Events.{Remove}
use Rattle.st_disk.specs.declared.naming.Name.TheVariants as name
use Rattle.st_disk.proofs.Reading.{reads_looked}
use Rattle.st_spool.specs.Rows.{Going, set_row}
use Rattle.st_spool.proofs.Sparing.{hidden_read}
use Rattle.st_spool.proofs.Stages.{start, looks, going_start, hidden, gone_flushed}
use Rattle.st_spool.proofs.settling.hide_out.Goals as goal

pub returns-in-Err-clause-hidden : goal.returns-in-Err-clause-hidden
returns-in-Err-clause-hidden g c = λ l rows f known each pair.
    let D = g.D.Shelf in
    looks l [] rows (D.log c.args.shelf.now) (D.log c.hide.new.self) (start l rows (D.log c.args.shelf.now) known each) c.in-Err.ensures.log

pub returns-in-Err-flush-clause-hidden : goal.returns-in-Err-flush-clause-hidden
returns-in-Err-flush-clause-hidden g c = λ l rows f known each pair.
    let D = g.D.Shelf in
    let a = hidden l rows c.args.stamp f (D.log c.args.shelf.now) (D.log c.hide.new.self) (going_start l rows c.args.stamp f (D.log c.args.shelf.now) pair known each) c.in_default.ensures.log in
    let gone = hidden_read (D.log c.args.shelf.now) (D.log c.hide.new.self) c.args.stamp l known c.in_default.ensures.parked in
    (looks l (Remove c.args.stamp ∷ []) (set_row rows c.args.stamp (Going f)) (D.log c.hide.new.self) (D.log c.flush.new.self) a c.in-Err-flush.ensures.log, reads_looked (D.log c.hide.new.self) (D.log c.flush.new.self) (name.Index c.args.stamp) (λ v. v ≡ None) gone c.in-Err-flush.ensures.log)

pub returns-clause-hidden : goal.returns-clause-hidden
returns-clause-hidden g c = λ l rows f known each pair.
    let D = g.D.Shelf in
    let a = hidden l rows c.args.stamp f (D.log c.args.shelf.now) (D.log c.hide.new.self) (going_start l rows c.args.stamp f (D.log c.args.shelf.now) pair known each) c.in_default.ensures.log in
    let gone = hidden_read (D.log c.args.shelf.now) (D.log c.hide.new.self) c.args.stamp l known c.in_default.ensures.parked in
    gone_flushed l rows c.args.stamp f (D.log c.hide.new.self) (D.log c.flush.new.self) a gone c.in_default-flush.ensures.log

pub returns-in-Err-flush-clause-stopped : goal.returns-in-Err-flush-clause-stopped
returns-in-Err-flush-clause-stopped g c = (g.D.Shelf.log c.hide.new.self, c.in_default.ensures.log, c.in-Err-flush.ensures.log)
