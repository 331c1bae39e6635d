use Rattle.std.proofs.Common.{subst, map, string_bytes}
use Rattle.std.specs.Prelude.{MatchOption}
use Rattle.st_plan.specs.Plans.{IsPlan}
use Rattle.st_plan.specs.declared.jobs.Plan.{Plan}
use Rattle.steno.specs.Messages.{line_of}
use Rattle.steno.proofs.Planning.{sound_plan, unplanned_cause, unsaid, word_alone, word_cause, word_fault}
use Rattle.steno.proofs.runner.obey.Goals as goal

pub follow-requires : goal.follow-requires
follow-requires g c =
    let given = map string_bytes c.args.words.now in
    let plan = subst (λ found. MatchOption found ((p : Plan) → IsPlan given p → ⊥) (IsPlan given)) c.in-Ok-Some.field-0-is c.in-Ok-Some.ensures in
    sound_plan given c.in-Ok-Some.plan plan

pub returns-in-Ok-Some-clause-asked : goal.returns-in-Ok-Some-clause-asked
returns-in-Ok-Some-clause-asked g c =
    let given = map string_bytes c.args.words.now in
    let plan = subst (λ found. MatchOption found ((p : Plan) → IsPlan given p → ⊥) (IsPlan given)) c.in-Ok-Some.field-0-is c.in-Ok-Some.ensures in
    word_cause given c.in-Ok-Some.plan c.follow.result.report.status plan c.follow.ensures.asked

pub returns-in-Ok-Some-clause-fault : goal.returns-in-Ok-Some-clause-fault
returns-in-Ok-Some-clause-fault g c =
    let given = map string_bytes c.args.words.now in
    let plan = subst (λ found. MatchOption found ((p : Plan) → IsPlan given p → ⊥) (IsPlan given)) c.in-Ok-Some.field-0-is c.in-Ok-Some.ensures in
    word_fault given c.in-Ok-Some.plan _ _ c.follow.result.report.status plan c.follow.ensures.asked c.follow.ensures.fault

pub returns-in-Ok-Some-clause-alone : goal.returns-in-Ok-Some-clause-alone
returns-in-Ok-Some-clause-alone g c =
    let given = map string_bytes c.args.words.now in
    let plan = subst (λ found. MatchOption found ((p : Plan) → IsPlan given p → ⊥) (IsPlan given)) c.in-Ok-Some.field-0-is c.in-Ok-Some.ensures in
    word_alone given c.in-Ok-Some.plan c.follow.result.report.status _ _ _ _ _ _ _ _ plan c.follow.ensures.asked c.follow.ensures.alone

pub returns-in-Ok-None-clause-asked : goal.returns-in-Ok-None-clause-asked
returns-in-Ok-None-clause-asked g c =
    let given = map string_bytes c.args.words.now in
    let none = subst (λ found. MatchOption found ((p : Plan) → IsPlan given p → ⊥) (IsPlan given)) c.in-Ok-None.field-0-is c.in-Ok-None.ensures in
    unplanned_cause given c.plain.result c.plain.ensures none

pub returns-in-Ok-Some-clause-unsaid : goal.returns-in-Ok-Some-clause-unsaid
returns-in-Ok-Some-clause-unsaid g c =
    let given = map string_bytes c.args.words.now in
    let plan = subst (λ found. MatchOption found ((p : Plan) → IsPlan given p → ⊥) (IsPlan given)) c.in-Ok-Some.field-0-is c.in-Ok-Some.ensures in
    unsaid given c.in-Ok-Some.plan _ _ c.follow.result.report.status (line_of c.follow.result.report) plan c.follow.ensures.does
