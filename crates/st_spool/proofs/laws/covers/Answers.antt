use Rattle.st_spool.proofs.Covering.{covers_all, covers_opening, covers_on, covers_still, covers_doubt, covers_more, covers_without_doubt}
use Rattle.st_spool.proofs.laws.covers.Goals as goal

pub returns-clause-all : goal.returns-clause-all
returns-clause-all c = covers_all

pub returns-clause-opening : goal.returns-clause-opening
returns-clause-opening c = covers_opening

pub returns-clause-on : goal.returns-clause-on
returns-clause-on c = covers_on

pub returns-clause-still : goal.returns-clause-still
returns-clause-still c = covers_still

pub returns-clause-doubt : goal.returns-clause-doubt
returns-clause-doubt c = covers_doubt

pub returns-clause-more : goal.returns-clause-more
returns-clause-more c = covers_more

pub returns-clause-no_doubt : goal.returns-clause-no_doubt
returns-clause-no_doubt c = covers_without_doubt
