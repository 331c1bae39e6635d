use Rattle.std.proofs.Common.{◌≡◌, length, refl, ap, ◌∙◌, arith, rules}
use Rattle.std.specs.Prelude.{replicate}
use Rattle.std.proofs.lemmas.List.{with_items_is}
use Rattle.st_block.proofs.Adding.{none_held}
use Rattle.st_block.proofs.builder.BlockBuilder.clear.Goals as goal

pub returns-clause-records : goal.returns-clause-records
returns-clause-records c =
    let s = c.self.invariant in
    let zeros = c.fill.ensures.after (λ y e. search rules) in
    let size : length c.as_mut_slice.result.now ≡ c.self.inside.size = ap length c.as_mut_slice.ensures.value ∙ s.whole in
    none_held _ refl refl (omega (arith, s.used, s.last, s.count))
    (with_items_is c.self.inside.bytes c.fill.new.self (omega (arith, c.fill.ensures.len, c.as_mut_slice.ensures.len)) ∙ zeros ∙ ap (λ n. replicate n 0) size)
