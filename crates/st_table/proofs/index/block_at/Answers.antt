use Rattle.st_table.proofs.Finding.{block_at_is}
use Rattle.st_table.proofs.index.block_at.Goals as goal

pub returns : goal.returns
returns c = λ index d.
    block_at_is index c.args.entries.now c.args.i c.index-entries-i.result _ d c.requires c.index-entries-i.is
    (λ j. record { low = c.key_before-low.ensures index d j; high = c.bytes-high.ensures j })
