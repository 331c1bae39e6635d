use Rattle.std.proofs.Common.{List, ℕ, subst}
use Rattle.st_base.specs.Pieces.{AppendsPrefix}
use Rattle.st_base.proofs.Putting.{prefix-more, prefix-then}
use Rattle.st_tblock.specs.Builder.{block_text}
use Rattle.st_tblock.specs.Handles.{footer_text}
use Rattle.st_table.specs.TableBuilderView.{stored_text}
use Rattle.st_table.proofs.builder.put_index.Goals as goal

pub returns-in-Err-put-clause-bytes : goal.returns-in-Err-put-clause-bytes
returns-in-Err-put-clause-bytes g c =
    let foot = subst (λ (xs : List ℕ). AppendsPrefix (g.S.Sink.written c.put_block.new.sink) (g.S.Sink.written c.put.new.sink) xs) c.footer-foot.ensures.text c.in-Err-put.ensures.bytes in
    prefix-then _ _ _ (stored_text (block_text c.args.index.now)) (footer_text c.args.meta c.args.named) c.in-Ok.ensures.bytes foot

pub returns-in-Err-clause-bytes : goal.returns-in-Err-clause-bytes
returns-in-Err-clause-bytes g c =
    prefix-more _ _ (stored_text (block_text c.args.index.now)) (footer_text c.args.meta c.args.named) c.in-Err.ensures.bytes
