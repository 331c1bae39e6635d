-- A set that was held and given back.
use Rattle.std.proofs.Common.{Option, ◌≡◌, List, cond, ◌∙◌, arith}
use Rattle.std.proofs.lemmas.List.Sums.{sum_by-cons}
use Rattle.st_disk.specs.Pairs.{Entry}
use Rattle.st_answer.specs.Sets.{KeepsSets, AddsSet, DropsSet}

pub sets_back : (set set' : Option (List Entry)) (a b c d : Option (List (List Entry))) → AddsSet set a b → c ≡ b → set' ≡ set → DropsSet set' c d → KeepsSets a d
sets_back set set' a b c d adds same is drops sets known =
    let (one, now, e, f, more) = adds sets known in
    let (last, g, less) = drops now one (same ∙ f) (is ∙ e) in
    (last, g, λ test. omega (arith, more test, less test, sum_by-cons (λ x. cond (test x) 1 0) one sets, sum_by-cons (λ x. cond (test x) 1 0) one last))
