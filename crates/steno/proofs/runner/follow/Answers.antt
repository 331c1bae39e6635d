use Rattle.std.proofs.Common.{refl}
use Rattle.steno.specs.Causes.{counts}
use Rattle.steno.specs.Messages.{line_of}
use Rattle.steno.specs.Scenes.{scene}
use Rattle.steno.proofs.Planning.{does_check, does_drill, does_list, drill_keeps, query_keeps}
use Rattle.steno.proofs.runner.follow.Goals as goal

pub returns-in-Query-clause-fault : goal.returns-in-Query-clause-fault
returns-in-Query-clause-fault g c = record {
  causes = c.query.ensures.fault (g.I.Source.faults c.args.input.now);
  keeps = query_keeps c.args.plan.now c.in-Query.plan
      (counts (g.I.Source.faults c.args.input.now) (g.O.Sink.faults c.args.out.now) (g.D.Shelf.faults c.args.shelf))
      (counts (g.I.Source.faults c.args.input.now) (g.O.Sink.faults c.query.new.out) (g.D.Shelf.faults c.query.result.shelf))
      c.query.result.report.status c.in-Query.is refl c.query.ensures.still;
}

pub returns-in-List-clause-does : goal.returns-in-List-clause-does
returns-in-List-clause-does g c = does_list c.args.plan.now c.in-List.field-0
    (scene (g.I.Source.left c.args.input.now) (g.O.Sink.written c.args.out.now) (g.C.Clock.to_come c.args.clock.now) (g.D.Shelf.log c.args.shelf) (g.D.Shelf.loans c.args.shelf))
    (scene (g.I.Source.left c.args.input.now) (g.O.Sink.written c.list-outcome.new.out) (g.C.Clock.to_come c.args.clock.now)
    (g.D.Shelf.log c.list-outcome.result.shelf) (g.D.Shelf.loans c.list-outcome.result.shelf))
    c.outcome_ended.result.status (line_of c.outcome_ended.result) c.in-List.is (record {
      outcome = c.list-outcome.result.outcome;
      says = c.outcome_ended.ensures;
      lines = c.list-outcome.ensures.lines;
      images = c.list-outcome.ensures.images;
      back = c.list-outcome.ensures.loans;
      input = refl;
      clock = refl;
    })

pub returns-in-Check-clause-does : goal.returns-in-Check-clause-does
returns-in-Check-clause-does g c = does_check c.args.plan.now c.in-Check.field-0
    (scene (g.I.Source.left c.args.input.now) (g.O.Sink.written c.args.out.now) (g.C.Clock.to_come c.args.clock.now) (g.D.Shelf.log c.args.shelf) (g.D.Shelf.loans c.args.shelf))
    (scene (g.I.Source.left c.args.input.now) (g.O.Sink.written c.check-outcome.new.out) (g.C.Clock.to_come c.args.clock.now)
    (g.D.Shelf.log c.check-outcome.result.shelf) (g.D.Shelf.loans c.check-outcome.result.shelf))
    c.check_ended.result.status (line_of c.check_ended.result) c.in-Check.is (record {
      outcome = c.check-outcome.result.outcome;
      says = c.check_ended.ensures;
      lines = c.check-outcome.ensures.lines;
      images = c.check-outcome.ensures.images;
      back = c.check-outcome.ensures.loans;
      input = refl;
      clock = refl;
    })

pub returns-in-Drill-clause-does : goal.returns-in-Drill-clause-does
returns-in-Drill-clause-does g c = does_drill c.args.plan.now c.in-Drill.plan
    (scene (g.I.Source.left c.args.input.now) (g.O.Sink.written c.args.out.now) (g.C.Clock.to_come c.args.clock.now) (g.D.Shelf.log c.args.shelf) (g.D.Shelf.loans c.args.shelf))
    (scene (g.I.Source.left c.args.input.now) (g.O.Sink.written c.drill.new.out) (g.C.Clock.to_come c.drill.new.clock)
    (g.D.Shelf.log c.drill.result.shelf) (g.D.Shelf.loans c.drill.result.shelf))
    c.drill.result.report.status (line_of c.drill.result.report) c.in-Drill.is (c.drill.ensures.does (g.I.Source.left c.args.input.now))

pub returns-in-Drill-clause-fault : goal.returns-in-Drill-clause-fault
returns-in-Drill-clause-fault g c = record {
  causes = c.drill.ensures.fault (g.I.Source.faults c.args.input.now);
  keeps = drill_keeps c.args.plan.now c.in-Drill.plan
      (counts (g.I.Source.faults c.args.input.now) (g.O.Sink.faults c.args.out.now) (g.D.Shelf.faults c.args.shelf))
      (counts (g.I.Source.faults c.args.input.now) (g.O.Sink.faults c.drill.new.out) (g.D.Shelf.faults c.drill.result.shelf))
      c.drill.result.report.status c.in-Drill.is refl c.drill.ensures.still;
}
