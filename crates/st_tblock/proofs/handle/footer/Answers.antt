use Rattle.st_tblock.proofs.Footers.{footer_again}
use Rattle.st_tblock.proofs.handle.footer.Goals as goal

pub returns-clause-read : goal.returns-clause-read
returns-clause-read c =
    rw c.footer_bytes.ensures.text (footer_again c.args.meta c.args.index c.footer_bytes.ensures.meta c.footer_bytes.ensures.index c.footer_bytes.ensures.fit)
