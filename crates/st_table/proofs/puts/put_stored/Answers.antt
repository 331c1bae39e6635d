use Rattle.std.proofs.Common.{◌∷◌, List, ℕ, subst}
use Rattle.byteorder.specs.Endian.{little_bytes}
use Rattle.st_base.specs.Pieces.{Puts}
use Rattle.st_base.proofs.Putting.{prefix-more}
use Rattle.st_table.specs.TableFile.{sum_of}
use Rattle.st_table.specs.TableBuilderView.{stored_text}
use Rattle.st_table.proofs.Texts.{puts_then}
use Rattle.st_table.proofs.puts.put_stored.Goals as goal

pub returns-in-Ok-clause-bytes : goal.returns-in-Ok-clause-bytes
unfolding stored_text
returns-in-Ok-clause-bytes g c =
    let next = subst (λ (xs : List ℕ). Puts (g.S.Sink.written c.put.new.sink) (g.S.Sink.written c.put-in-Ok.new.sink) xs c.put-in-Ok.result) c.trailer.ensures c.put-in-Ok.ensures.bytes in
    puts_then _ _ _ c.args.block.now (0 ∷ little_bytes 4 (sum_of 0 c.args.block.now)) c.put-in-Ok.result c.in-Ok.ensures.bytes next

pub returns-in-Err-clause-bytes : goal.returns-in-Err-clause-bytes
unfolding stored_text
returns-in-Err-clause-bytes g c =
    prefix-more _ _ c.args.block.now (0 ∷ little_bytes 4 (sum_of 0 c.args.block.now)) c.in-Err.ensures.bytes
