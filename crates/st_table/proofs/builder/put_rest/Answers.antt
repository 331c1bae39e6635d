use Rattle.std.proofs.Common.{◌≡◌, ◌+◌, ℕ, List, length, arith, sym, ◌∙◌, subst}
use Rattle.std.proofs.lemmas.Result.{IfOk-weaker}
use Rattle.st_base.specs.Pieces.{Puts, AppendsPrefix}
use Rattle.st_base.proofs.Putting.{prefix-more}
use Rattle.st_tblock.specs.Builder.{block_size}
use Rattle.st_tblock.specs.Handles.{InRange}
use Rattle.st_table.specs.TableBuilderView.{next_handle, closing, closed, ending, ending_at, finishing}
use Rattle.st_table.specs.TableBuilderView.{builder_view}
use Rattle.st_table.proofs.Texts.{puts_then, on_ok}
use Rattle.st_table.proofs.Rooms.{index_bound}
use Rattle.st_table.proofs.Ending.{is_empty, is_filled, finishing_some, finishing_size, empty_table, closed_table}
use Rattle.st_table.proofs.builder.put_rest.Goals as goal

pub returns-then-is_empty-clause-table : goal.returns-then-is_empty-clause-table
returns-then-is_empty-clause-table g c =
    let k = builder_view c.args.block.now c.args.index.now c.args.at 0 in
    let none = is_empty c.args.block.now.last (sym c.is_empty.ensures ∙ c.if-is_empty.true) in
    on_ok c.put_ending.result (empty_table k none) c.put_ending.ensures.table

pub put_ending-requires-in-Ok-clause-room : goal.put_ending-requires-in-Ok-clause-room
put_ending-requires-in-Ok-clause-room g c =
    index_bound c.args.index.now c.close.new.index _ (next_handle c.args.at (block_size c.args.block.now)) c.requires.key c.requires.room c.in-Ok.ensures.index

pub returns-in-Ok-clause-bytes : goal.returns-in-Ok-clause-bytes
returns-in-Ok-clause-bytes g c =
    let k = builder_view c.args.block.now c.args.index.now c.args.at 0 in
    let some = is_filled c.args.block.now.last (sym c.is_empty.ensures ∙ c.if-is_empty.false) in
    let end : ending_at c.close.new.at c.close.new.index ≡ ending (closed k) = λ i. ending_at (c.close.ensures.next.1 i) (c.in-Ok.ensures.index i) in
    let next = subst (λ (xs : List ℕ). Puts (g.S.Sink.written c.close.new.sink) (g.S.Sink.written c.put_ending-in-Ok.new.sink) xs c.put_ending-in-Ok.result) end c.put_ending-in-Ok.ensures.bytes in
    subst (λ (xs : List ℕ). Puts (g.S.Sink.written c.args.sink.now) (g.S.Sink.written c.put_ending-in-Ok.new.sink) xs c.put_ending-in-Ok.result) (sym (finishing_some k some.0 some.1))
    (puts_then _ _ _ (closing k) (ending (closed k)) c.put_ending-in-Ok.result c.in-Ok.ensures.bytes next)

pub returns-in-Ok-clause-length : goal.returns-in-Ok-clause-length
returns-in-Ok-clause-length g c =
    let k = builder_view c.args.block.now c.args.index.now c.args.at 0 in
    let some = is_filled c.args.block.now.last (sym c.is_empty.ensures ∙ c.if-is_empty.false) in
    let end : ending_at c.close.new.at c.close.new.index ≡ ending (closed k) = λ i. ending_at (c.close.ensures.next.1 i) (c.in-Ok.ensures.index i) in
    IfOk-weaker c.put_ending-in-Ok.result (λ n. n ≡ c.close.new.at + length (ending_at c.close.new.at c.close.new.index)) (λ n. n ≡ c.args.at + length (finishing k))
    (λ n e. finishing_size k some.0 (ending_at c.close.new.at c.close.new.index) c.close.new.at n some.1 end c.close.ensures.next.1 e)
    c.put_ending-in-Ok.ensures.length

pub returns-in-Ok-clause-table : goal.returns-in-Ok-clause-table
returns-in-Ok-clause-table g c =
    let k = builder_view c.args.block.now c.args.index.now c.args.at 0 in
    let some = is_filled c.args.block.now.last (sym c.is_empty.ensures ∙ c.if-is_empty.false) in
    let room = c.requires.at in
    let range : InRange (next_handle k.at (block_size k.block)) = record { offset = omega arith; size = omega arith } in
    on_ok c.put_ending-in-Ok.result
    (closed_table k c.close.new.index c.close.new.at some.0 some.1 range c.close.ensures.next.1 c.in-Ok.ensures.index c.in-Ok.ensures.good c.in-Ok.ensures.named)
    c.put_ending-in-Ok.ensures.table

pub returns-in-Err-clause-bytes : goal.returns-in-Err-clause-bytes
returns-in-Err-clause-bytes g c =
    let k = builder_view c.args.block.now c.args.index.now c.args.at 0 in
    let some = is_filled c.args.block.now.last (sym c.is_empty.ensures ∙ c.if-is_empty.false) in
    subst (λ (xs : List ℕ). AppendsPrefix (g.S.Sink.written c.args.sink.now) (g.S.Sink.written c.close.new.sink) xs) (sym (finishing_some k some.0 some.1))
    (prefix-more _ _ (closing k) (ending (closed k)) c.in-Err.ensures.bytes)
