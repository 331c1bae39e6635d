use Rattle.std.proofs.Common.{MatchOption, map, string_bytes, subst, sym}
use Rattle.st_plan.specs.Plans.{IsPlan}
use Rattle.st_plan.specs.declared.jobs.Plan.{Plan}
use Rattle.st_plan.proofs.Standing.{folder_found, no_folder}
use Rattle.st_plan.proofs.places.spool_word.Goals as goal

pub returns-in-Some : goal.returns-in-Some
returns-in-Some c =
    let words = map string_bytes c.args.words.now in
    let is = subst (λ found. MatchOption found ((p : Plan) → IsPlan words p → ⊥) (λ p. IsPlan words p)) c.in-Ok-Some.field-0-is c.in-Ok-Some.ensures in
    folder_found c.args.words.now c.in-Ok-Some.plan c.in-Some.folder.now c.second_place.result is (sym c.in-Some.ensures) c.second_place.ensures

pub returns-in-None : goal.returns-in-None
returns-in-None c =
    let words = map string_bytes c.args.words.now in
    let is = subst (λ found. MatchOption found ((p : Plan) → IsPlan words p → ⊥) (λ p. IsPlan words p)) c.in-Ok-Some.field-0-is c.in-Ok-Some.ensures in
    no_folder words c.in-Ok-Some.plan is (sym c.in-None.ensures)

pub returns-in-Ok-None : goal.returns-in-Ok-None
returns-in-Ok-None c =
    let words = map string_bytes c.args.words.now in
    let none = subst (λ found. MatchOption found ((p : Plan) → IsPlan words p → ⊥) (λ p. IsPlan words p)) c.in-Ok-None.field-0-is c.in-Ok-None.ensures in
    λ p is. absurd (none p is)
