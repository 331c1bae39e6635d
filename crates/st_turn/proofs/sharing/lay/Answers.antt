use Rattle.std.proofs.Common.{◌≡◌, ◌∷◌, [], ◌++◌, ◌<◌, ◌≤◌, ◌^◌, Some, Option, List, length, replicate, ap, sym, ◌∙◌, subst, refl}
use Rattle.st_turn.specs.Turn.{Turning, idle}
use Rattle.st_turn.specs.Parts.{Booked, Parts, HasNumber, blank}
use Rattle.st_turn.specs.Steps.{starts}
use Rattle.atomic_table.specs.Table.{opening}
use Rattle.st_turn.proofs.Stepping.{may_open}
use Rattle.st_turn.proofs.sharing.lay.Goals as goal

pub new-requires : goal.new-requires
new-requires g c =
    let facts = g.S.Turned.facts in
    let keeps = g.S.Turned.keeps in
    let key = c.of-about.result.value in
    let same : c.args.home ≡ key = sym c.of-about.ensures in
    let n = length key.lines in
    let fits : (facts key.spool).halts < 2 ^ 64 =
    subst (λ (h : Booked g.row.S.Denot). (facts h.spool).halts < 2 ^ 64) (c.home.view_is ∙ same) (subst (λ m. m < 2 ^ 64) c.failed_calls-fits.ensures c.failed_calls-fits.type_inv) in
    let items : c.push.new.self.items ≡ Some key ∷ [] = c.in_default.ensures.items ∙ ap (λ (l : List (Option (Booked g.row.S.Denot))). l ++ Some c.args.home ∷ []) c.new-slots.ensures.items ∙ ap (λ (h : Booked g.row.S.Denot). Some h ∷ []) same in
    subst (λ (xs : List (Option (Booked g.row.S.Denot))). Turning HasNumber (Parts facts keeps key) (opening (0 ∷ []) xs (idle (starts key.spool (facts key.spool) 0 n 1)))) (sym items)
    (may_open facts keeps key n
    (subst (λ (h : Booked g.row.S.Denot). h.lines ≡ replicate (length h.lines) blank) same c.requires.lines.0)
    refl
    (subst (λ (h : Booked g.row.S.Denot). 1 ≤ length h.lines) same c.requires.lines.1)
    (subst (λ (h : Booked g.row.S.Denot). (facts h.spool).holds ≡ []) same c.requires.holds)
    fits
    (subst (λ (h : Booked g.row.S.Denot). keeps h.spool h.spool) (c.home.view_is ∙ same) c.keep.ensures))
