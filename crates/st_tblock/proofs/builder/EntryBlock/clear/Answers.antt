use Rattle.std.proofs.Common.{◌≡◌, ℕ, List, [], None, arith, ap, ◌∙◌}
use Rattle.st_tblock.specs.Builder.{EntryBlockView, block_view, empty}
use Rattle.st_tblock.proofs.Sound.{empty_sound, begins_first}
use Rattle.st_tblock.proofs.builder.EntryBlock.clear.Goals as goal

pub invariant_of-self : goal.invariant_of-self
invariant_of-self c =
    let sound = c.self.invariant.1 in
    let first = begins_first c.self.inside.restarts.items sound.begins in
    (omega arith, rw (c.truncate.ensures.items, first) (empty_sound c.self.inside.interval sound.interval))

pub returns : goal.returns
returns c =
    let first = begins_first c.self.inside.restarts.items c.self.invariant.1.begins in
    let interval : c.self.inside.interval ≡ c.args.self.now.interval = ap (λ (d : EntryBlockView). d.interval) c.self.view_is in
    ap (λ (ns : List ℕ). block_view c.self.inside.interval 0 [] ns None) (c.truncate.ensures.items ∙ first) ∙ ap empty interval
