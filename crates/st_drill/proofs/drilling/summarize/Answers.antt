use Rattle.std.proofs.Common.{◌≡◌, refl, sym, ap, ◌∙◌, subst, arith}
use Rattle.st_drill.specs.declared.ends.DrillEnd.TheVariants as end
use Rattle.st_drill.proofs.Replied.{break_cause}
use Rattle.st_drill.proofs.Summed.{sum_unloaded, sum_broken, sum_done, stands_loaded, keeps_then}
use Rattle.st_drill.proofs.Unloaded.{break_says}
use Rattle.st_drill.proofs.drilling.summarize.Goals as goal

pub returns-in-Err-clause-job : goal.returns-in-Err-clause-job
returns-in-Err-clause-job g c log earlier h f known stands =
    sum_unloaded c.args.packets c.args.spool.now.state.limit _ _ c.args.spool.now.state
    c.load_packets.new.spool.state earlier h _ _ c.in-Err.end
    (c.in-Err.ensures.job log earlier h f known stands)

pub returns-in-Err-ask_all-clause-job : goal.returns-in-Err-ask_all-clause-job
returns-in-Err-ask_all-clause-job g c log earlier h f known stands =
    let D = g.D.Shelf in
    let a = c.load_packets.new.spool in
    let l = c.in-Ok.ensures.job log earlier h f known stands in
    let (now, is, stood) = stands_loaded c.args.packets c.args.spool.now.state.limit _ _ _ a.state
    earlier h _ _ l.loaded log known l.packed in
    sum_broken D.log c.args.packets c.args.spool.now.state.limit c.in-Ok.pairs _
    c.args.spool.now.state a c.ask_all.new.spool earlier h _ _ log known
    c.ask_all.ensures.stays.remains l c.in-Err-ask_all.end
    (c.in-Err-ask_all.ensures.counts now earlier _ l.packed.loads.f is stood)

pub returns-in-Err-ask_all-clause-says : goal.returns-in-Err-ask_all-clause-says
returns-in-Err-ask_all-clause-says g c = break_says c.in-Err-ask_all.end c.in-Err-ask_all.ensures.breaks

pub returns-in-Err-ask_all-clause-disk : goal.returns-in-Err-ask_all-clause-disk
returns-in-Err-ask_all-clause-disk g c =
    break_cause _ _ _ c.in-Err-ask_all.end c.in-Ok.ensures.disk.later c.in-Err-ask_all.ensures.disk

pub returns-in-Err-ask_all-clause-stays : goal.returns-in-Err-ask_all-clause-stays
returns-in-Err-ask_all-clause-stays g c =
    let D = g.D.Shelf in
    keeps_then D.log D.id D.loans c.args.spool.now c.load_packets.new.spool c.ask_all.new.spool
    c.load_packets.ensures.stays c.ask_all.ensures.stays

pub returns-in-Ok-summary-clause-job : goal.returns-in-Ok-summary-clause-job
returns-in-Ok-summary-clause-job g c log earlier h f known stands =
    let D = g.D.Shelf in
    let a = c.load_packets.new.spool in
    let l = c.in-Ok.ensures.job log earlier h f known stands in
    let (now, is, stood) = stands_loaded c.args.packets c.args.spool.now.state.limit _ _ _ a.state
    earlier h _ _ l.loaded log known l.packed in
    sum_done D.log c.args.packets c.args.spool.now.state.limit c.in-Ok.pairs _
    c.args.spool.now.state a c.ask_all.new.spool earlier h _ _ log known
    c.ask_all.ensures.stays.remains l c.in-Ok-ask_all.answers c.in-Ok-summary.text
    (c.in-Ok-ask_all.ensures.counts now earlier _ l.packed.loads.f is stood)
    c.in-Ok-summary.ensures

pub returns-in-Ok-summary-clause-stays : goal.returns-in-Ok-summary-clause-stays
returns-in-Ok-summary-clause-stays g c =
    let D = g.D.Shelf in
    keeps_then D.log D.id D.loans c.args.spool.now c.load_packets.new.spool c.ask_all.new.spool
    c.load_packets.ensures.stays c.ask_all.ensures.stays

pub returns-in-Err-summary-clause-job : goal.returns-in-Err-summary-clause-job
returns-in-Err-summary-clause-job g c log earlier h f known stands =
    let D = g.D.Shelf in
    let a = c.load_packets.new.spool in
    let l = c.in-Ok.ensures.job log earlier h f known stands in
    sum_broken D.log c.args.packets c.args.spool.now.state.limit c.in-Ok.pairs _
    c.args.spool.now.state a c.ask_all.new.spool earlier h _ _ log known
    c.ask_all.ensures.stays.remains l end.NoMemory tt

pub returns-in-Err-summary-clause-stays : goal.returns-in-Err-summary-clause-stays
returns-in-Err-summary-clause-stays g c =
    let D = g.D.Shelf in
    keeps_then D.log D.id D.loans c.args.spool.now c.load_packets.new.spool c.ask_all.new.spool
    c.load_packets.ensures.stays c.ask_all.ensures.stays
