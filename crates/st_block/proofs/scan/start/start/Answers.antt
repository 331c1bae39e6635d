use Rattle.std.proofs.Common.{sym, ◌∙◌}
use Rattle.st_block.proofs.Starting.{sized}
use Rattle.st_block.proofs.scan.start.start.Goals as goal

pub new-requires-clause-size : goal.new-requires-clause-size
new-requires-clause-size c = sized c.number_at-size.result (sym c.is_block_size.ensures.test ∙ c.if-not-is_block_size.false)
