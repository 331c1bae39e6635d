use Rattle.std.proofs.Common.{◌≡◌, length}
use Rattle.st_index.specs.KeyLists.{lists_left}
use Rattle.st_index.specs.RowList.{rows_left}
use Rattle.st_index.specs.Write.{IsReady}
use Rattle.st_index.proofs.Writing.{HasPut}
use Rattle.st_index.proofs.write.put_rows.Given as goal

abbrev pub invariant-rows : goal.invariant-rows
invariant-rows g l =
    HasPut l.fn.builder l.builder (rows_left l.fn.rows) (rows_left l.rows) (g.S.Sink.written l.fn.sink) (g.S.Sink.written l.sink)
    × IsReady l.builder l.rows.summary (lists_left l.rows.lists)
    × (g.S.Sink.faults l.sink ≡ g.S.Sink.faults l.fn.sink)
    × (g.S.Sink.beside l.sink ≡ g.S.Sink.beside l.fn.sink)

abbrev pub decreases-rows : goal.decreases-rows
decreases-rows g l = length (rows_left l.rows)
