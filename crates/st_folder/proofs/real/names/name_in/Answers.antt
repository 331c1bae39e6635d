use Rattle.st_folder.proofs.Namings.{no_draft}
use Rattle.st_folder.proofs.real.names.name_in.Goals as goal

pub returns-in-None : goal.returns-in-None
returns-in-None c = no_draft c.args.kind c.args.text.now c.in-Some.number.now c.in-Some.ensures c.in-None.ensures
