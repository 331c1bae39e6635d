use Rattle.std.proofs.Common.{◌≡◌, ℕ, List, ◌++◌, length, take, refl, ap, ◌∙◌, sym, subst}
use Rattle.byteorder.specs.Endian.{little_bytes}
use Rattle.st_tblock.specs.Block.{IsBlock}
use Rattle.st_tblock.specs.Builder.{EntryBlockView, block_text, IsSound, restarts_text}
use Rattle.st_tblock.specs.contracts.builder.EntryBlock.{the_view}
use Rattle.st_tblock.proofs.Finishing.{block_when_finished, block_text_size}
use Rattle.st_tblock.proofs.Sound.{kept_front}
use Rattle.st_tblock.proofs.builder.EntryBlock.finish.Goals as goal

pub returns : goal.returns
unfolding block_text
returns c =
    let d : EntryBlockView = the_view c.self.inside in
    let front = kept_front c.self.inside.entries c.self.inside.text.items c.truncate.new.self.items c.put_restarts.new.text.items c.self.invariant.0 c.truncate.ensures.items c.in_ok-put_restarts.ensures.kept in
    let same : record d { text = take c.self.inside.entries c.put_restarts.new.text.items } ≡ c.args.self.now = ap (λ (xs : List ℕ). record d { text = xs }) front ∙ c.self.view_is in
    let text : c.as_slice-2.result.now ≡ block_text c.args.self.now =
    c.as_slice-2.ensures.value
    ∙ c.in_ok-put_restarts.ensures.ok
    ∙ ap (λ (xs : List ℕ). c.truncate.new.self.items ++ restarts_text xs ++ little_bytes 4 (length xs)) c.as_slice.ensures.value
    ∙ ap (λ (xs : List ℕ). xs ++ restarts_text c.self.inside.restarts.items ++ little_bytes 4 (length c.self.inside.restarts.items)) c.truncate.ensures.items
    ∙ ap block_text c.self.view_is in
    ((refl, λ _. tt, same), record { after = tt; text = text; size = ap length text ∙ block_text_size c.args.self.now; good = λ rows h. subst (λ (xs : List ℕ). IsBlock xs rows) (sym text) (block_when_finished c.args.self.now rows (subst IsSound c.self.view_is c.self.invariant.1) h) })
