use Rattle.std.proofs.Common.{Err, inl, rules}
use Rattle.st_block.specs.declared.errors.HeadErr.TheVariants as head_err
use Rattle.st_block.proofs.Finding.{head_found}
use Rattle.st_block.proofs.record.record_head_at.Goals as goal

pub returns-in-Some-clause-whole : goal.returns-in-Some-clause-whole
returns-in-Some-clause-whole g c =
    head_found _ (g.R.Reader.extent c.args.file.now) c.args.position (Err (head_err.Damaged c.in-Some.damage)) (g.met.R.Reader.sized c.args.file.now) (inl (search rules))

pub returns-in-None-clause-whole : goal.returns-in-None-clause-whole
returns-in-None-clause-whole g c =
    head_found _ (g.R.Reader.extent c.args.file.now) c.args.position c.read_head.result (g.met.R.Reader.sized c.args.file.now) c.read_head.ensures.gives
