use Rattle.std.proofs.Common.{List, ℕ, ◌+◌, ◌++◌, length, sym, ap, subst, arith}
use Rattle.std.specs.Io.KnownBytes.{Appends}
use Rattle.std.proofs.KnownBytes.{Appends-trans}
use Rattle.st_base.specs.Pieces.{AppendsPrefix}
use Rattle.st_base.proofs.Putting.{prefix-more, prefix-then}
use Rattle.st_tblock.specs.Builder.{block_text}
use Rattle.st_tblock.specs.Handles.{footer_text}
use Rattle.st_table.specs.TableFile.{IsTable}
use Rattle.st_table.specs.TableBuilderView.{stored_text, next_handle}
use Rattle.st_table.proofs.Ending.{zeros_and_one, ending_is, ending_size, indexed_table}
use Rattle.st_table.proofs.builder.put_ending.Goals as goal

pub returns-in-Ok-put_index-clause-bytes : goal.returns-in-Ok-put_index-clause-bytes
returns-in-Ok-put_index-clause-bytes g c =
    let ending = ending_is c.args.at c.size.result c.args.index.now c.size.ensures in
    subst (λ (xs : List ℕ). Appends (g.S.Sink.written c.args.sink.now) (g.S.Sink.written c.put_index.new.sink) xs) (sym ending)
    (Appends-trans _ _ _ (stored_text zeros_and_one) (stored_text (block_text c.args.index.now) ++ footer_text (next_handle c.args.at 8) (next_handle (c.args.at + 13) c.size.result)) c.in-Ok.ensures.bytes c.in-Ok-put_index.ensures.bytes)

pub returns-in-Ok-put_index-clause-length : goal.returns-in-Ok-put_index-clause-length
returns-in-Ok-put_index-clause-length g c =
    let ending = ap length (ending_is c.args.at c.size.result c.args.index.now c.size.ensures) in
    let size = ending_size c.args.at c.size.result c.args.index.now c.put_index.ensures.size in
    omega (arith, c.size.ensures)

pub returns-in-Ok-put_index-clause-table : goal.returns-in-Ok-put_index-clause-table
returns-in-Ok-put_index-clause-table g c =
    λ bytes rows l x.
    let ending = ending_is c.args.at c.size.result c.args.index.now c.size.ensures in
    subst (λ (xs : List ℕ). IsTable (bytes ++ xs) rows) (sym ending)
    (indexed_table c.args.at c.size.result c.args.index.now bytes rows c.size.ensures c.put_index.ensures.size c.put_index.ensures.read c.in-Ok-put_index.ensures.good l x)

pub returns-in-Err-put_index-clause-bytes : goal.returns-in-Err-put_index-clause-bytes
returns-in-Err-put_index-clause-bytes g c =
    let ending = ending_is c.args.at c.size.result c.args.index.now c.size.ensures in
    subst (λ (xs : List ℕ). AppendsPrefix (g.S.Sink.written c.args.sink.now) (g.S.Sink.written c.put_index.new.sink) xs) (sym ending)
    (prefix-then _ _ _ (stored_text zeros_and_one) (stored_text (block_text c.args.index.now) ++ footer_text (next_handle c.args.at 8) (next_handle (c.args.at + 13) c.size.result)) c.in-Ok.ensures.bytes c.in-Err-put_index.ensures.bytes)

pub returns-in-Err-clause-bytes : goal.returns-in-Err-clause-bytes
returns-in-Err-clause-bytes g c =
    let ending = ending_is c.args.at c.size.result c.args.index.now c.size.ensures in
    subst (λ (xs : List ℕ). AppendsPrefix (g.S.Sink.written c.args.sink.now) (g.S.Sink.written c.put_stored.new.sink) xs) (sym ending)
    (prefix-more _ _ (stored_text zeros_and_one) (stored_text (block_text c.args.index.now) ++ footer_text (next_handle c.args.at 8) (next_handle (c.args.at + 13) c.size.result)) c.in-Err.ensures.bytes)
