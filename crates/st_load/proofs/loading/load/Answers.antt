use Rattle.std.proofs.Common.{refl, sym, ap, subst, inr}
use Rattle.st_spool.specs.States.{SpoolState}
use Rattle.st_load.specs.Opening.{LoadsShelf}
use Rattle.st_load.proofs.Coming.{failure_stops}
use Rattle.st_load.proofs.Opened.{load_opened, unopened_fails}
use Rattle.st_load.proofs.loading.load.Goals as goal

pub returns-in-Err-clause-job : goal.returns-in-Err-clause-job
returns-in-Err-clause-job g c = λ log known. inr (c.in-Err.ensures.entered log known, unopened_fails _ c.unopened.result c.unopened.ensures, refl, refl)

pub returns-clause-job : goal.returns-clause-job
returns-clause-job g c = λ log known.
    let entered = c.in-Ok.ensures.entered log known in
    let here = load_opened c.args.limit c.args.layout log (g.D.Shelf.log c.in-Ok.spool.shelf) (g.D.Shelf.log c.load_into-end.new.spool.shelf) (g.S.Source.left c.args.source.now)
    (g.C.Clock.to_come c.args.clock.now) (g.C.Clock.to_come c.load_into-end.new.clock) (g.O.Sink.written c.args.out.now) (g.O.Sink.written c.load_into-end.new.out) c.load_into-end.result
    c.load_into-end.new.spool.state c.in-Ok.spool.state entered (ap (λ (s : SpoolState). s.limit) c.in-Ok.ensures.state) c.load_into-end.ensures.state.0 c.load_into-end.ensures.state.1
    c.load_into-end.ensures.job in
    subst (λ (x : g.row.D.Denot). LoadsShelf c.args.limit c.args.layout log (g.D.Shelf.log x) (g.S.Source.left c.args.source.now) (g.C.Clock.to_come c.args.clock.now) (g.C.Clock.to_come c.load_into-end.new.clock)
    (g.O.Sink.written c.args.out.now) (g.O.Sink.written c.load_into-end.new.out) c.load_into-end.result) (sym c.close.ensures) here

pub returns-in-Err-clause-input : goal.returns-in-Err-clause-input
returns-in-Err-clause-input g c = λ bytes left. failure_stops c.args.layout.size bytes c.unopened.result (unopened_fails _ c.unopened.result c.unopened.ensures)
