use Rattle.std.proofs.Common.{sym, subst}
use Rattle.st_disk.specs.Disks.{reads}
use Rattle.st_disk.specs.Names.{AreSorted}
use Rattle.st_disk.specs.Listing.{AreAll}
use Rattle.st_spool.proofs.Finding.{list_run, list_failed, there, tidy_failed, opens, paired_up_to}
use Rattle.st_spool.proofs.opening.open.Goals as goal

pub returns-in-Err-DiskFault-clause-opened : goal.returns-in-Err-DiskFault-clause-opened
returns-in-Err-DiskFault-clause-opened g c = λ first known.
    list_failed first (g.D.Shelf.log c.flush_both.new.shelf) (g.D.Shelf.log c.list.new.self) (c.in_default.ensures.flushed first known) c.list.result c.list.ensures.log

pub returns-in-Err-NoMemory-clause-opened : goal.returns-in-Err-NoMemory-clause-opened
returns-in-Err-NoMemory-clause-opened g c = λ first known.
    list_failed first (g.D.Shelf.log c.flush_both.new.shelf) (g.D.Shelf.log c.list.new.self) (c.in_default.ensures.flushed first known) c.list.result c.list.ensures.log

pub pair_stamps-requires : goal.pair_stamps-requires
pair_stamps-requires g c = subst AreSorted (sym c.items-items.ensures) c.in-Ok.ensures.sorted

pub returns-in-Err-pair_stamps-clause-opened : goal.returns-in-Err-pair_stamps-clause-opened
returns-in-Err-pair_stamps-clause-opened g c = λ first known.
    list_failed first (g.D.Shelf.log c.flush_both.new.shelf) (g.D.Shelf.log c.list.new.self) (c.in_default.ensures.flushed first known) c.list.result c.list.ensures.log

pub returns-in-Err-tidy-clause-opened : goal.returns-in-Err-tidy-clause-opened
returns-in-Err-tidy-clause-opened g c = λ first known.
    let D = g.D.Shelf in
    let names = c.items-items.result.now in
    let is = c.in_default.ensures.flushed first known in
    let all = subst (AreAll (D.log c.flush_both.new.shelf)) (sym c.items-items.ensures) c.in-Ok.ensures.all in
    let run = list_run first (D.log c.flush_both.new.shelf) (D.log c.list.new.self) is c.list.result c.list.ensures.log in
    tidy_failed first (D.log c.flush_both.new.shelf) (D.log c.list.new.self) is names all (D.log c.tidy.new.shelf) run
    (c.in-Err-tidy.ensures.tidied run.log (reads first) (there first (D.log c.flush_both.new.shelf) (D.log c.list.new.self) is names all) run.is run.each)

pub returns-clause-opened : goal.returns-clause-opened
returns-clause-opened g c = λ first known.
    let D = g.D.Shelf in
    let names = c.items-items.result.now in
    let is = c.in_default.ensures.flushed first known in
    let all = subst (AreAll (D.log c.flush_both.new.shelf)) (sym c.items-items.ensures) c.in-Ok.ensures.all in
    let run = list_run first (D.log c.flush_both.new.shelf) (D.log c.list.new.self) is c.list.result c.list.ensures.log in
    opens first (D.log c.flush_both.new.shelf) (D.log c.list.new.self) is names all (D.log c.tidy.new.shelf) run c.in-Ok-pair_stamps.stamps.items c.last_stamp-last.result c.in-Ok-pair_stamps.ensures c.last_stamp-last.ensures
    (c.in_default-tidy.ensures.tidied run.log (reads first) (there first (D.log c.flush_both.new.shelf) (D.log c.list.new.self) is names all) run.is run.each)

pub returns-clause-stamps : goal.returns-clause-stamps
returns-clause-stamps g c = paired_up_to c.items-items.result.now c.in-Ok-pair_stamps.stamps.items c.last_stamp-last.result c.in-Ok-pair_stamps.ensures c.last_stamp-last.ensures
