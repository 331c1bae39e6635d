use Rattle.std.proofs.Common.{Ok, Err, rules}
use Rattle.std.specs.Result.{result_and}
use Rattle.st_block.specs.declared.errors.BlockErr.TheVariants as block_err
use Rattle.st_block.proofs.Finding.{body_found}
use Rattle.st_block.proofs.record.record_body_into.Goals as goal

pub returns-in-Some-clause-whole : goal.returns-in-Some-clause-whole
returns-in-Some-clause-whole g c =
    body_found _ (g.R.Reader.extent c.args.file.now) c.args.position c.args.head.now.len (Err (block_err.Damaged c.in-Some.damage)) (g.met.R.Reader.sized c.args.file.now) (search rules)

pub returns-in-None-clause-whole : goal.returns-in-None-clause-whole
returns-in-None-clause-whole g c =
    body_found _ (g.R.Reader.extent c.args.file.now) c.args.position c.args.head.now.len (result_and c.read_body.result (Ok c.read_body.new.body.items)) (g.met.R.Reader.sized c.args.file.now) c.read_body.ensures.gives
