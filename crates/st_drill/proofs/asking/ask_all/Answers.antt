use Rattle.st_drill.proofs.Replied.{stands_after, stays_then, all_counts}
use Rattle.st_drill.proofs.asking.ask_all.Goals as goal

pub returns-in-Err-ask-clause-counts : goal.returns-in-Err-ask-clause-counts
returns-in-Err-ask-clause-counts g c l earlier h f is stands =
    let D = g.D.Shelf in
    let a = stands_after D.log c.args.spool.now c.ask.new.spool l earlier h f is stands c.ask.ensures.stays.remains in
    c.in-Err-ask.ensures.counts a.0 earlier h f a.1 a.2

pub returns-in-Err-ask-clause-stays : goal.returns-in-Err-ask-clause-stays
returns-in-Err-ask-clause-stays g c =
    let D = g.D.Shelf in
    stays_then D.log D.id D.loans c.args.spool.now c.ask.new.spool c.ask-2.new.spool c.ask.ensures.stays c.ask-2.ensures.stays

pub returns-in-Err-ask-2-clause-counts : goal.returns-in-Err-ask-2-clause-counts
returns-in-Err-ask-2-clause-counts g c l earlier h f is stands =
    let D = g.D.Shelf in
    let a = stands_after D.log c.args.spool.now c.ask.new.spool l earlier h f is stands c.ask.ensures.stays.remains in
    let b = stands_after D.log c.ask.new.spool c.ask-2.new.spool a.0 earlier h f a.1 a.2 c.ask-2.ensures.stays.remains in
    c.in-Err-ask-2.ensures.counts b.0 earlier h f b.1 b.2

pub returns-in-Err-ask-2-clause-stays : goal.returns-in-Err-ask-2-clause-stays
returns-in-Err-ask-2-clause-stays g c =
    let D = g.D.Shelf in
    let two = stays_then D.log D.id D.loans c.args.spool.now c.ask.new.spool c.ask-2.new.spool c.ask.ensures.stays c.ask-2.ensures.stays in
    stays_then D.log D.id D.loans c.args.spool.now c.ask-2.new.spool c.ask-3.new.spool two c.ask-3.ensures.stays

pub returns-in-Err-ask-3-clause-counts : goal.returns-in-Err-ask-3-clause-counts
returns-in-Err-ask-3-clause-counts g c l earlier h f is stands =
    let D = g.D.Shelf in
    let a = stands_after D.log c.args.spool.now c.ask.new.spool l earlier h f is stands c.ask.ensures.stays.remains in
    let b = stands_after D.log c.ask.new.spool c.ask-2.new.spool a.0 earlier h f a.1 a.2 c.ask-2.ensures.stays.remains in
    let d = stands_after D.log c.ask-2.new.spool c.ask-3.new.spool b.0 earlier h f b.1 b.2 c.ask-3.ensures.stays.remains in
    c.in-Err-ask-3.ensures.counts d.0 earlier h f d.1 d.2

pub returns-in-Err-ask-3-clause-stays : goal.returns-in-Err-ask-3-clause-stays
returns-in-Err-ask-3-clause-stays g c =
    let D = g.D.Shelf in
    let two = stays_then D.log D.id D.loans c.args.spool.now c.ask.new.spool c.ask-2.new.spool c.ask.ensures.stays c.ask-2.ensures.stays in
    let three = stays_then D.log D.id D.loans c.args.spool.now c.ask-2.new.spool c.ask-3.new.spool two c.ask-3.ensures.stays in
    stays_then D.log D.id D.loans c.args.spool.now c.ask-3.new.spool c.ask-4.new.spool three c.ask-4.ensures.stays

pub returns-clause-counts : goal.returns-clause-counts
returns-clause-counts g c l earlier h f is stands whole =
    let D = g.D.Shelf in
    let a = stands_after D.log c.args.spool.now c.ask.new.spool l earlier h f is stands c.ask.ensures.stays.remains in
    let b = stands_after D.log c.ask.new.spool c.ask-2.new.spool a.0 earlier h f a.1 a.2 c.ask-2.ensures.stays.remains in
    let d = stands_after D.log c.ask-2.new.spool c.ask-3.new.spool b.0 earlier h f b.1 b.2 c.ask-3.ensures.stays.remains in
    all_counts _ _ (c.in-Ok.ensures.counts l earlier h f is stands whole)
    (c.in-Ok-ask.ensures.counts a.0 earlier h f a.1 a.2 whole)
    (c.in-Ok-ask-2.ensures.counts b.0 earlier h f b.1 b.2 whole)
    (c.in-Ok-ask-3.ensures.counts d.0 earlier h f d.1 d.2 whole)

pub returns-clause-stays : goal.returns-clause-stays
returns-clause-stays g c =
    let D = g.D.Shelf in
    let two = stays_then D.log D.id D.loans c.args.spool.now c.ask.new.spool c.ask-2.new.spool c.ask.ensures.stays c.ask-2.ensures.stays in
    let three = stays_then D.log D.id D.loans c.args.spool.now c.ask-2.new.spool c.ask-3.new.spool two c.ask-3.ensures.stays in
    stays_then D.log D.id D.loans c.args.spool.now c.ask-3.new.spool c.ask-4.new.spool three c.ask-4.ensures.stays
