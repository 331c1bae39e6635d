use Rattle.std.proofs.Common.{◌≡◌, ◌≤◌, refl, sym, ap, ◌∙◌, subst, inr, arith}
use Rattle.st_spool.specs.States.{SpoolState}
use Rattle.st_drill.specs.Drilling.{Drills}
use Rattle.st_drill.proofs.OverShelf.{drill_opened, unopened_so}
use Rattle.st_drill.proofs.drilling.drill.Goals as goal

pub returns-in-Err-clause-job : goal.returns-in-Err-clause-job
returns-in-Err-clause-job g c = λ log known.
    inr (c.in-Err.ensures.entered log known, unopened_so _ c.unopened.result c.unopened.ensures, refl, refl)

pub close-requires : goal.close-requires
close-requires g c =
    c.summarize-summed.ensures.stays.holds (ap (λ (s : SpoolState). s.holds) c.in-Ok.ensures.state)

pub returns-clause-job : goal.returns-clause-job
returns-clause-job g c = λ log known.
    let D = g.D.Shelf in
    let here = drill_opened c.args.packets log (D.log c.in-Ok.spool.shelf)
    (D.log c.summarize-summed.new.spool.shelf) c.in-Ok.spool.state c.summarize-summed.new.spool.state
    (g.C.Clock.to_come c.args.clock.now) (g.C.Clock.to_come c.summarize-summed.new.clock)
    c.summarize-summed.result (g.O.Sink.written c.args.out.now) (g.O.Sink.written c.written.new.out)
    c.written.result (c.in-Ok.ensures.entered log known)
    (ap (λ (s : SpoolState). s.limit) c.in-Ok.ensures.state) c.summarize-summed.ensures.stays.limit
    c.summarize-summed.ensures.job c.written.ensures.ends in
    subst (λ (x : g.row.D.Denot). Drills c.args.packets log (D.log x) (g.C.Clock.to_come c.args.clock.now)
    (g.C.Clock.to_come c.summarize-summed.new.clock) (g.O.Sink.written c.args.out.now)
    (g.O.Sink.written c.written.new.out) c.written.result) (sym c.close.ensures) here
