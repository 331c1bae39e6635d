use Rattle.std.proofs.Common.{◌∙◌, sym, ap, subst, eqb, List, ℕ}
use Rattle.std.proofs.lemmas.List.Filters.{dedup_is}
use Rattle.st_rows.specs.Positions.{has, Rising}
use Rattle.st_rows.specs.Values.{rises}
use Rattle.st_eval.proofs.Risings.{rising_from, sorted_has, sorted_rises}
use Rattle.st_eval.proofs.positions.sorted.Goals as goal

pub invariant_of-result : goal.invariant_of-result
invariant_of-result c = rising_from c.args.items.items (ap rises (sym c.deref.ensures.value) ∙ (sym c.rises.ensures ∙ c.if-rises.true))

pub invariant_of-result-2 : goal.invariant_of-result-2
invariant_of-result-2 c =
    let is = dedup_is eqb c.sort_unstable.new.self.items c.dedup.new.self.items c.dedup.ensures.filtered in
    subst (λ (xs : List ℕ). Rising xs) (sym is) (sorted_rises c.sort_unstable.new.self.items c.sort_unstable.ensures.sorted)

pub returns-clause-same : goal.returns-clause-same
returns-clause-same c p =
    let is = dedup_is eqb c.sort_unstable.new.self.items c.dedup.new.self.items c.dedup.ensures.filtered in
    ap (λ (xs : List ℕ). has xs p) is ∙ sorted_has c.args.items.items c.sort_unstable.new.self.items p c.sort_unstable.ensures.permutation

pub returns-clause-rising : goal.returns-clause-rising
returns-clause-rising c =
    let is = dedup_is eqb c.sort_unstable.new.self.items c.dedup.new.self.items c.dedup.ensures.filtered in
    subst (λ (xs : List ℕ). Rising xs) (sym is) (sorted_rises c.sort_unstable.new.self.items c.sort_unstable.ensures.sorted)

pub returns-then-rises-clause-rising : goal.returns-then-rises-clause-rising
returns-then-rises-clause-rising c = rising_from c.args.items.items (ap rises (sym c.deref.ensures.value) ∙ (sym c.rises.ensures ∙ c.if-rises.true))
