use Rattle.st_block.proofs.Unhurt.{entered_outside}
use Rattle.st_block.proofs.scan.Scan+R.enter.Goals as goal

pub returns-in-Err-clause-whole : goal.returns-in-Err-clause-whole
returns-in-Err-clause-whole g c = λ bytes rs known is.
    entered_outside bytes rs c.in-Err.error is (c.in-Err.ensures.enters bytes known)
