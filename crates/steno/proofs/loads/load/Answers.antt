use Rattle.std.proofs.Common.{subst}
use Rattle.st_load.specs.Causes as causes
use Rattle.st_load.specs.Opening.{LoadsShelf}
use Rattle.st_load.specs.Stopping.{StopsInput}
use Rattle.st_plan.specs.Jobs.{LoadPlan}
use Rattle.steno.specs.Loading.{SaysLoad}
use Rattle.steno.specs.Messages.{line_of}
use Rattle.steno.proofs.loads.load.Goals as goal

pub returns-clause-does : goal.returns-clause-does
returns-clause-does g c =
    let plan = c.plan.view_is in
    record {
      ended = c.load-end.result.end;
      says = subst (λ (l : LoadPlan). SaysLoad l.plan.size c.load-end.result.end c.load_ended.result.status (line_of c.load_ended.result)) plan c.load_ended.ensures;
      said = subst (λ (l : LoadPlan). causes.Says l.plan.size c.load-end.result.end) plan c.load-end.ensures.says;
      stops = λ bytes told. subst (λ (l : LoadPlan). StopsInput l.plan.size bytes c.load-end.result.end) plan (c.load-end.ensures.input bytes told);
      job = λ first known. subst (λ (l : LoadPlan). LoadsShelf l.limit l.plan first (g.D.Shelf.log c.load-end.result.shelf) (g.I.Source.left c.args.input.now)
          (g.C.Clock.to_come c.args.clock.now) (g.C.Clock.to_come c.load-end.new.clock) (g.O.Sink.written c.args.out.now) (g.O.Sink.written c.load-end.new.out) c.load-end.result.end)
          plan (c.load-end.ensures.job first known);
      loans = c.load-end.ensures.rest.1;
    }
