use Rattle.st_seated.proofs.Sits.{starts_seatable, meets_seatable}
use Rattle.st_seated.proofs.laws.passes_sit.Goals as goal

pub returns-clause-started : goal.returns-clause-started
returns-clause-started g c = starts_seatable _

pub returns-clause-met : goal.returns-clause-met
returns-clause-met g c = meets_seatable _
