use Rattle.std.proofs.Common.{refl, subst}
use Rattle.st_drill.specs.Drilling.{Drills}
use Rattle.st_plan.specs.Jobs.{DrillPlan}
use Rattle.steno.proofs.drills.drill.Goals as goal

pub returns-clause-does : goal.returns-clause-does
returns-clause-does g c = λ input. record {
  ended = c.drill-end.result.end;
  says = c.drill_ended.ensures;
  said = c.drill-end.ensures.says;
  job = λ first known. subst (λ (p : DrillPlan). Drills p.packets first (g.D.Shelf.log c.drill-end.result.shelf)
      (g.C.Clock.to_come c.args.clock.now) (g.C.Clock.to_come c.drill-end.new.clock) (g.O.Sink.written c.args.out.now) (g.O.Sink.written c.drill-end.new.out) c.drill-end.result.end)
      c.plan.view_is (c.drill-end.ensures.job first known);
  lent = c.drill-end.ensures.rest.1;
  input = refl;
}
