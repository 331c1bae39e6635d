use Rattle.st_index.specs.RowList.{rows_left}
use Rattle.st_index.proofs.Reading.{no_memory}
use Rattle.st_index.proofs.Judging.{walk_reads}
use Rattle.st_index.proofs.checker.index.read_table.Goals as goal

pub returns-in-Ok-clause-reads : goal.returns-in-Ok-clause-reads
returns-in-Ok-clause-reads g c bytes told entered =
    walk_reads bytes c.args.table.now.kept.entries.items c.in-Ok.cursor c.walk.new.cursor c.last_key.result.now (rows_left c.args.wanted.now) c.walk.result entered
    c.in-Ok.ensures.unread (c.last_key.ensures.last bytes entered) (c.in-Ok.ensures.first bytes entered) (c.walk.ensures.walks bytes told entered)

pub returns-in-Err-clause-reads : goal.returns-in-Err-clause-reads
returns-in-Err-clause-reads g c bytes told entered =
    no_memory bytes c.args.table.now.kept.entries.items entered
