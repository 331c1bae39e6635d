use Rattle.std.proofs.Common.{subst, Err}
use Rattle.st_block.specs.Record.{GivesHeadOf}
use Rattle.st_answer.proofs.heads.head_of.Goals as goal

pub returns-in-Ok-clause-picks : goal.returns-in-Ok-clause-picks
returns-in-Ok-clause-picks g c r at =
    let (sec, nsec, len, orig) = c.in-Ok.ensures.whole r at in cc

pub returns-in-Err-Damaged-clause-picks : goal.returns-in-Err-Damaged-clause-picks
returns-in-Err-Damaged-clause-picks g c r at =
    subst (λ e. GivesHeadOf r (Err e)) c.in-Err-Damaged.field-0-is (c.in-Err-Damaged.ensures.whole r at)
