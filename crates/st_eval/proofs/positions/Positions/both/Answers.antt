use Rattle.std.proofs.Common.{◌&&◌, ◌∙◌, ap, sym, subst, List, ℕ, ◌<◌}
use Rattle.std.proofs.lemmas.List.Kept.{AllPairs-filter}
use Rattle.st_rows.specs.Positions.{has, Rising}
use Rattle.st_eval.proofs.Risings.{filter_has}
use Rattle.st_eval.proofs.positions.Positions.both.Goals as goal

pub keep_common-requires-clause-other : goal.keep_common-requires-clause-other
keep_common-requires-clause-other c = subst (λ (xs : List ℕ). Rising xs) (sym c.items.ensures.same) c.items.ensures.rising

pub invariant_of-self : goal.invariant_of-self
invariant_of-self c =
    subst (λ (xs : List ℕ). Rising xs) (sym c.keep_common.ensures) (AllPairs-filter (λ x y. x < y) (has c.items.result.now) c.self.inside.items.items c.self.invariant)

pub returns : goal.returns
returns c p =
    ap (λ (xs : List ℕ). has xs p) c.keep_common.ensures
    ∙ (filter_has (has c.items.result.now) c.self.inside.items.items p
    ∙ (ap (λ (xs : List ℕ). has xs p && has c.items.result.now p) c.self.view_is
    ∙ ap (λ (xs : List ℕ). has c.args.self.now p && has xs p) c.items.ensures.same))
