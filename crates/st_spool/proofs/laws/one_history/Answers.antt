use Rattle.st_spool.proofs.Remembered as remembered
use Rattle.st_spool.proofs.laws.one_history.Goals as goal

pub returns-clause-one : goal.returns-clause-one
returns-clause-one g c = remembered.one_history g.W.PairRule.is_whole

pub returns-clause-stays : goal.returns-clause-stays
returns-clause-stays g c = remembered.history_stays g.W.PairRule.is_whole

pub returns-clause-failed : goal.returns-clause-failed
returns-clause-failed g c = remembered.failed_stays g.W.PairRule.is_whole

pub returns-clause-published : goal.returns-clause-published
returns-clause-published g c = remembered.published_goes_on g.W.PairRule.is_whole

pub returns-clause-removed : goal.returns-clause-removed
returns-clause-removed g c = remembered.removed_goes_on g.W.PairRule.is_whole

pub returns-clause-taken : goal.returns-clause-taken
returns-clause-taken g c = remembered.takes_all
