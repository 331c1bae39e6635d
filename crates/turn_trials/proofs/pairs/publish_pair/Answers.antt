use Rattle.std.proofs.Common.{◌≡◌, ◌∙◌, ap, Err}
use Rattle.st_shelf.specs.declared.shelves.SealedPair.{SealedPair}
use Rattle.st_turn.specs.declared.refusals.SharedPublishErr.TheVariants as shared
use Rattle.turn_trials.proofs.Returned.{halted_back}
use Rattle.turn_trials.proofs.pairs.publish_pair.Goals as goal

pub give_up-requires-clause-block : goal.give_up-requires-clause-block
give_up-requires-clause-block g c =
    let d = g.D.Shelf in
    let t = c.publish.ensures.turn in
    let a = c.in-Err-Halted.is in
    let b = c.in-Err-Halted.field-0-is in
    let p = c.in-Err-Halted.pair-is in
    let is : c.publish.result ≡ Err (shared.Halted c.in-Err-Halted.field-0-0 c.in-Err-Halted.pair) = cc in
    let back = halted_back t.0 t.1 _ _ d.log d.faults d.id d.loans g.D.Draft.Draft.sealed_bytes 0 c.in-Err-Halted.field-0-0 c.publish.result c.in-Err-Halted.pair t.4 is in
    ap (λ (p : SealedPair _ _). (g.D.Draft.Draft.sealed_origin p.block).home) back ∙ c.requires.pair.block_home

pub give_up-requires-clause-index : goal.give_up-requires-clause-index
give_up-requires-clause-index g c =
    let d = g.D.Shelf in
    let t = c.publish.ensures.turn in
    let a = c.in-Err-Halted.is in
    let b = c.in-Err-Halted.field-0-is in
    let p = c.in-Err-Halted.pair-is in
    let is : c.publish.result ≡ Err (shared.Halted c.in-Err-Halted.field-0-0 c.in-Err-Halted.pair) = cc in
    let back = halted_back t.0 t.1 _ _ d.log d.faults d.id d.loans g.D.Draft.Draft.sealed_bytes 0 c.in-Err-Halted.field-0-0 c.publish.result c.in-Err-Halted.pair t.4 is in
    ap (λ (p : SealedPair _ _). (g.D.Draft.Draft.sealed_origin p.index).home) back ∙ c.requires.pair.index_home
