use Rattle.st_block.proofs.Unhurt.{gives_outside}
use Rattle.st_block.proofs.scan.Scan+R.next.Goals as goal

pub returns-clause-whole : goal.returns-clause-whole
returns-clause-whole g c = λ bytes given rs known is stands.
    gives_outside bytes given rs c.next_in.new.self c.next_in.result is (c.next_in.ensures.gives bytes given known stands)
