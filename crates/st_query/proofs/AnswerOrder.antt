-- A list of records has one answer at most.
use Rattle.std.proofs.Common.{◌≡◌, ◌<◌, sym, ap, arith, ◌⊎◌, ◌∙◌, map}
use Rattle.st_base.proofs.Ascending.{one_order}
use Rattle.st_query.specs.Answer.{Numbered, Precedes}
use Rattle.st_query.specs.Laws.{OneAnswer}

no_loop : (a b : Numbered) → Precedes a b → Precedes b a → ⊥
no_loop a b h k = grind arith

pub one_answer : OneAnswer
one_answer q now rs xs ys (ps, mine, e) (qs, yours, f) =
    let same : ps ≡ qs = one_order Precedes no_loop ps qs mine.ascending yours.ascending
    (λ p h. (yours.members p).1 ((mine.members p).0 h)) (λ p h. (mine.members p).1 ((yours.members p).0 h)) in
    e ∙ (ap (map (λ (p : Numbered). p.packet)) same ∙ sym f)
