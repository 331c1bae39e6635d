use Rattle.st_plan.proofs.OnePlan as plans
use Rattle.st_plan.proofs.laws.one_plan.Goals as goal

pub returns : goal.returns
returns c = plans.one_plan
