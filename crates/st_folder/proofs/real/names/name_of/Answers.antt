use Rattle.st_folder.proofs.Namings.{exact_name}
use Rattle.st_folder.proofs.real.names.name_of.Goals as goal

pub returns : goal.returns
returns c = exact_name c.args.kind c.args.text.now c.name_in.result c.name_in.ensures
