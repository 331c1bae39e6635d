use Rattle.std.proofs.Common.{arith}
use Rattle.st_table.specs.TableFile.{footer_at}
use Rattle.st_table.proofs.Stepping.{next_read}
use Rattle.st_table.proofs.cursor.read_rows.Goals as goal

pub returns-clause-rows : goal.returns-clause-rows
returns-clause-rows g c = λ bytes index known d.
    next_read (λ v. v.items) c.rows_in.result (footer_at bytes) bytes c.read_block.new.block.items c.as_slice.result.now index c.args.next _ _ c.args.low.now c.args.high.now
    (omega arith) (c.block_at-bounds.ensures index d) (c.in-Ok.ensures.block bytes known) c.as_slice.ensures.value c.rows_in.ensures.rows
