use Rattle.st_drill.proofs.Replied.{seen_of, counts_of, breaks_of}
use Rattle.st_drill.proofs.asking.ask.Goals as goal

pub returns-in-Ok-counted-clause-counts : goal.returns-in-Ok-counted-clause-counts
returns-in-Ok-counted-clause-counts g c l earlier h f is stands =
    let D = g.D.Shelf in
    let a = c.args.spool.now in
    counts_of D.log a c.counted.new.store h c.in-Ok.query c.args.question c.in-Ok-counted.told
    (seen_of D.log a l earlier h f is stands) c.counted.ensures.spent.0.became
    c.in-Ok-counted.ensures.asks c.in-Ok.ensures c.in-Ok-counted.ensures.tells

pub returns-clause-counts : goal.returns-clause-counts
returns-clause-counts g c l earlier h f is stands =
    let D = g.D.Shelf in
    let a = c.args.spool.now in
    breaks_of D.log a c.counted.new.store h c.in-Err-counted.error c.broken.result
    (seen_of D.log a l earlier h f is stands) c.counted.ensures.spent.0.became
    c.in-Err-counted.ensures.asks c.in-Err-counted.ensures.blames c.broken.ensures
