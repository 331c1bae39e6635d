use Rattle.st_tblock.specs.Builder.{block_text}
use Rattle.st_table.specs.TableBuilderView.{stored_text}
use Rattle.st_table.proofs.Texts.{whole_front}
use Rattle.st_table.proofs.builder.put_named.Goals as goal

pub returns-in-Err-add-clause-bytes : goal.returns-in-Err-add-clause-bytes
returns-in-Err-add-clause-bytes g c = whole_front _ _ (stored_text (block_text c.args.block.now)) c.in-Ok.ensures.bytes
