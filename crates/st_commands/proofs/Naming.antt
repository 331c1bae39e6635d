-- What the outcome of a command says of the pairs.
use Rattle.std.proofs.Common.{◌≡◌, ℕ, suc, List, [], ◌∷◌, All, Contains, refl, sym, ◌∙◌, ap, subst, arith, ⊎_elim}
use Rattle.std.proofs.lemmas.List.Elements.{All-cons, All-nil}
use Rattle.st_base.specs.Damages.{damage_view}
use Rattle.st_base.specs.declared.damages.Damage.{Damage}
use Rattle.st_disk.specs.Pairs.{Entry}
use Rattle.st_index.specs.Verdict.{Judges}
use Rattle.st_index.specs.declared.checker.Verdict.{Verdict}
use Rattle.st_index.specs.declared.checker.Verdict.TheVariants.{Whole, Differs}
use Rattle.st_index.proofs.PairStands.{pair_stands}
use Rattle.st_commands.specs.Laws.{DoneIsWhole, DamagedIsHurt}
use Rattle.st_pairs.specs.Pairs.{IsWholePair}
use Rattle.st_commands.specs.Reports.{LineView, IsLine, HasNoLine, AreLines, outcome_of, first_of_two, verdict_outcome}
use Rattle.st_commands.specs.declared.outcomes.Outcome.{Outcome}
use Rattle.st_commands.specs.declared.outcomes.Outcome.TheVariants.{Done, WriteFault, DiskFault, Damaged, NoMemory}
use Rattle.st_commands.specs.declared.outcomes.Report.{Report}
use Rattle.st_commands.specs.declared.outcomes.Report.TheVariants.{Summaries, Verdicts}

both_done : (a b : Outcome) → first_of_two a b ≡ Done → (a ≡ Done) × (b ≡ Done)
both_done Done b h = (refl, h)
both_done WriteFault b h = absurd (cc)
both_done DiskFault b h = absurd (cc)
both_done (Damaged s d) b h = absurd (cc)
both_done NoMemory b h = absurd (cc)

whole_pair : (e : Entry) (v : Verdict) → Judges e.block e.index v → verdict_outcome e.stamp v ≡ Done → IsWholePair e.block e.index
whole_pair e (Whole n) judges h = (judges.0, judges.1)
whole_pair e (Differs p d) judges h = absurd (cc)

all_whole : (ps : List Entry) (ls : List LineView) → AreLines Verdicts ps ls [] → outcome_of ls ≡ Done → All (λ e. IsWholePair e.block e.index) ps
all_whole [] [] are h = All-nil (λ (e : Entry). IsWholePair e.block e.index)
all_whole (e ∷ ps) [] are h = absurd (cc)
all_whole [] (l ∷ ls) are h = absurd are
all_whole (e ∷ ps) (l ∷ ls) are h =
    let line = are.0 in
    let both = both_done l.outcome (outcome_of ls) h in
    All-cons (λ (e : Entry). IsWholePair e.block e.index) e ps
    (whole_pair e line.0 line.1 (sym (ap (λ (w : LineView). w.outcome) line.2) ∙ both.0))
    (all_whole ps ls are.1 both.1)

pub done_is_whole : DoneIsWhole
done_is_whole ps old new all = all_whole ps all.lines all.are all.says

abbrev IsHurt : List Entry → ℕ → Type 0
IsHurt ps stamp = (e : Entry) × Contains ps e × (e.stamp ≡ stamp) × (IsWholePair e.block e.index → ⊥)

later : (p : Entry) (ps : List Entry) (stamp : ℕ) → IsHurt ps stamp → IsHurt (p ∷ ps) stamp
later p ps stamp (e, (i, less, is), same, hurt) = (e, (suc i, omega arith, is), same, hurt)

by_verdict : (e : Entry) (ps : List Entry) (v : Verdict) (rest : Outcome) (stamp : ℕ) (d : Damage) → Judges e.block e.index v
    → first_of_two (verdict_outcome e.stamp v) rest ≡ Damaged stamp d → (rest ≡ Damaged stamp d → IsHurt ps stamp) → IsHurt (e ∷ ps) stamp
by_verdict e ps (Whole n) rest stamp d judges h more = later e ps stamp (more h)
by_verdict e ps (Differs p x) rest stamp d judges h more =
    let same : e.stamp ≡ stamp = cc in
    (e, (0, omega arith, refl), same, λ (given, whole). pair_stands e.block e.index given p (damage_view x) whole judges)

by_line : (r : Report) (e : Entry) (ps : List Entry) (l : LineView) (rest : Outcome) (stamp : ℕ) (d : Damage) → IsLine r e l
    → first_of_two l.outcome rest ≡ Damaged stamp d → (rest ≡ Damaged stamp d → IsHurt ps stamp) → IsHurt (e ∷ ps) stamp
by_line Summaries e ps l rest stamp d (s, says, is) h more =
    later e ps stamp (more (subst (λ (o : Outcome). first_of_two o rest ≡ Damaged stamp d) (ap (λ (w : LineView). w.outcome) is) h))
by_line Verdicts e ps l rest stamp d (v, judges, is) h more =
    by_verdict e ps v rest stamp d judges (subst (λ (o : Outcome). first_of_two o rest ≡ Damaged stamp d) (ap (λ (w : LineView). w.outcome) is) h) more

in_lines : (r : Report) (ps : List Entry) (ls : List LineView) (rest : List Entry) (stamp : ℕ) (d : Damage) → AreLines r ps ls rest → outcome_of ls ≡ Damaged stamp d
    → IsHurt ps stamp
in_lines r ps [] rest stamp d are h = absurd (cc)
in_lines r [] (l ∷ ls) rest stamp d are h = absurd are
in_lines r (e ∷ ps) (l ∷ ls) rest stamp d are h =
    by_line r e ps l (outcome_of ls) stamp d are.0 h (λ more. in_lines r ps ls rest stamp d are.1 more)

at_stop : (r : Report) (ps : List Entry) (ls : List LineView) (e : Entry) (rest : List Entry) → AreLines r ps ls (e ∷ rest) → Contains ps e
at_stop r ps [] e rest are = subst (λ (xs : List Entry). Contains xs e) (sym are) (0, omega arith, refl)
at_stop r [] (l ∷ ls) e rest are = absurd are
at_stop r (p ∷ ps) (l ∷ ls) e rest are =
    let next = at_stop r ps ls e rest are.1 in
    (suc next.0, (let less = next.1 in omega arith), next.2)

no_line : (r : Report) (e : Entry) → HasNoLine r e → IsWholePair e.block e.index → ⊥
no_line Summaries e none = none
no_line Verdicts e none = absurd none

pub damaged_is_hurt : DamagedIsHurt
damaged_is_hurt r ps old new stamp d wrote =
    ⊎_elim (λ all. in_lines r ps all.lines [] stamp d all.are all.says)
    (λ stop. (stop.e, at_stop r ps stop.lines stop.e stop.rest stop.are, stop.stamp_is, no_line r stop.e stop.none)) wrote
