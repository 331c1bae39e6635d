use Rattle.st_folder.proofs.Namings.{no_parked}
use Rattle.st_folder.proofs.real.names.index_name.Goals as goal

pub returns-in-None : goal.returns-in-None
returns-in-None c = no_parked c.args.text.now c.in-Some.stamp.now c.in-Some.ensures c.in-None.ensures
