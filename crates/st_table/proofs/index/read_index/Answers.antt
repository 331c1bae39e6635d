use Rattle.std.proofs.Common.{◌∙◌}
use Rattle.st_table.proofs.Entering.{index_read}
use Rattle.st_table.proofs.index.read_index.Goals as goal

pub returns-clause-entered : goal.returns-clause-entered
returns-clause-entered g c = λ bytes known.
    index_read (λ v. v.items) c.entries_in.result bytes c.in-Ok.handle c.read_block.new.block.items c.as_slice.result.now
    (c.in-Ok.ensures.footer bytes known) (c.in-Ok-read_block.ensures.block bytes (c.in-Ok.ensures.same.content ∙ known)) c.as_slice.ensures.value c.entries_in.ensures.entries
