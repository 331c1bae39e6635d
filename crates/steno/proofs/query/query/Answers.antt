use Rattle.std.proofs.Common.{◌∙◌, refl, ap, subst, inr}
use Rattle.st_plan.specs.Jobs.{Job}
use Rattle.st_query.specs.Spelling.{Spells}
use Rattle.steno.specs.Messages.{line_of}
use Rattle.steno.proofs.Asked.{answered_cause, question_same}
use Rattle.steno.proofs.query.query.Goals as goal

pub returns-clause-does : goal.returns-clause-does
returns-clause-does g c = λ input.
    let plan = c.plan.view_is in
    let text = c.as_bytes.ensures.value ∙ ap (λ (j : Job). j.query) plan in
    record {
      now = c.micros-now.result;
      asks = c.micros-now.ensures;
      input = refl;
      ends = inr (record {
        q = c.in-Ok.asked;
        spelled = subst (λ t. Spells t c.in-Ok.asked) text c.in-Ok.ensures.spells;
        outcome = c.query-outcome.result.outcome;
        says = c.outcome_ended.ensures;
        answers = λ first pairs known found. question_same c.args.plan.now _ _ c.in-Ok.asked c.micros-now.result _ _ _ _ (ap (λ (j : Job). j.unit) plan) (ap (λ (j : Job). j.limits) plan) (c.query-outcome.ensures.answers first pairs known found);
        images = c.query-outcome.ensures.images;
        reads_most = c.query-outcome.ensures.reads;
        back = c.query-outcome.ensures.loans;
      });
    }

pub returns-clause-asked : goal.returns-clause-asked
returns-clause-asked g c =
    let text = c.as_bytes.ensures.value ∙ ap (λ (j : Job). j.query) c.plan.view_is in
    answered_cause c.args.plan.now c.in-Ok.asked c.query-outcome.result.outcome c.outcome_ended.result.status (line_of c.outcome_ended.result)
    (subst (λ t. Spells t c.in-Ok.asked) text c.in-Ok.ensures.spells) c.outcome_ended.ensures
