use Rattle.std.proofs.Common.{ℕ, List, ◌<◌, ap, sym, subst, ◌∙◌, Some}
use Rattle.st_block.specs.Checks.{count_of, records_of}
use Rattle.st_block.specs.BlockText.{used_bytes}
use Rattle.st_block.specs.Layout.{IsWholeBlock}
use Rattle.st_block.specs.ScanView.{ScanView}
use Rattle.st_block.proofs.Sound.{sound_entered, not_wrong, loaded}
use Rattle.st_block.proofs.scan.state.ScanState.load.Goals as goal

pub invariant_of-self-in-Ok-check_block : goal.invariant_of-self-in-Ok-check_block
invariant_of-self-in-Ok-check_block g c =
    let same = c.as_slice.ensures.value in
    let len = c.in-Ok.ensures.bytes.0 in
    let more = subst (λ (p : ScanView). p.done < p.blocks) (sym c.self.view_is) c.requires.more.1 in
    let checked = c.in-Ok-check_block.ensures in
    let none = not_wrong c.self.inside.size c.self.inside.done c.self.inside.before c.as_slice.result.now c.in-Ok.block.items same len checked.wrong in
    sound_entered _ c.in-Ok.block.items (Some c.in-Ok-check_block.layout.end) c.in-Ok-check_block.layout.count c.self.invariant more len none (subst IsWholeBlock same checked.whole) (checked.laid.count ∙ ap count_of same)

pub returns-in-Ok-check_block-clause-loads : goal.returns-in-Ok-check_block-clause-loads
returns-in-Ok-check_block-clause-loads g c =
    let same = c.as_slice.ensures.value in
    let bytes = c.in-Ok.ensures.bytes in
    let checked = c.in-Ok-check_block.ensures in
    let none = not_wrong c.self.inside.size c.self.inside.done c.self.inside.before c.as_slice.result.now c.in-Ok.block.items same bytes.0 checked.wrong in
    let end = checked.laid.end ∙ ap (λ (l : List ℕ). used_bytes (records_of l)) same in
    let count = checked.laid.count ∙ ap count_of same in
    loaded _ _ (g.R.Reader.content c.args.file.now) c.in-Ok.block.items c.in-Ok-check_block.layout.end c.in-Ok-check_block.layout.count c.self.view_is bytes none (subst IsWholeBlock same checked.whole) end count
