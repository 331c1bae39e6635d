use Rattle.std.proofs.Common.{Contains, refl, sym, ◌∙◌, ap, subst, arith}
use Rattle.std.specs.Io.KnownBytes.{Appends}
use Rattle.st_base.specs.Pieces.{AppendsPrefix}
use Rattle.st_spool.specs.States.{held, SpoolView}
use Rattle.st_spool.proofs.Aged.{split_at}
use Rattle.st_commands.specs.Reports.{IsSaid, line_view}
use Rattle.st_commands.proofs.Reporting.{begun, next_line, failed_line, no_line, ended, said_first}
use Rattle.st_commands.proofs.Staying.{stays_none, stays_then}
use Rattle.st_commands.proofs.reports.report_pairs.Goals as goal

pub pairs-init : goal.pairs-init
pairs-init g c = record {
  told = λ log earlier h f known stands. begun c.args.report (held c.args.hold.now h) (g.O.Sink.written c.args.out.now);
  has = c.requires;
  said = tt;
  stays = stays_none g.D.Shelf.log g.D.Shelf.id g.D.Shelf.faults g.D.Shelf.loans c.args.spool.now;
  unwritten = refl;
  rest = refl;
}

pub returns-in-Err-clause-lines : goal.returns-in-Err-clause-lines
returns-in-Err-clause-lines g c = λ log earlier h f known stands.
    let keeps = c.pairs.invariant.stays.kept.keeps earlier h f stands in
    let run = keeps.images log known in
    let n = c.count-count.ensures.held earlier h f stands in
    let at = split_at c.pairs.i (held c.args.hold.now h) (omega (arith, n, c.pairs-test.true)) in
    no_line c.args.report (held c.args.hold.now h) _ _ c.pairs.found c.pairs.i at.0 at.1 c.stamp_of-stamp.result c.in-Err.error c.stopped.result
    (c.pairs.invariant.told log earlier h f known stands) at.2 (c.stamp_of-stamp.ensures earlier h f at.0 at.1 keeps.stands at.2)
    (c.in-Err.ensures.tells run.log earlier h f at.0 at.1 run.is keeps.stands at.2) c.stopped.ensures.stops

pub returns-in-Err-clause-stays : goal.returns-in-Err-clause-stays
returns-in-Err-clause-stays g c = stays_then g.D.Shelf.log g.D.Shelf.id g.D.Shelf.faults g.D.Shelf.loans c.args.spool.now c.pairs.spool c.line_at.new.spool c.pairs.invariant.stays c.line_at.ensures.stays

pub returns-in-Err-put-clause-lines : goal.returns-in-Err-put-clause-lines
returns-in-Err-put-clause-lines g c = λ log earlier h f known stands.
    let keeps = c.pairs.invariant.stays.kept.keeps earlier h f stands in
    let run = keeps.images log known in
    let n = c.count-count.ensures.held earlier h f stands in
    let at = split_at c.pairs.i (held c.args.hold.now h) (omega (arith, n, c.pairs-test.true)) in
    failed_line c.args.report (held c.args.hold.now h) (g.O.Sink.written c.args.out.now) (g.O.Sink.written c.pairs.out) (g.O.Sink.written c.put.new.sink) c.pairs.found c.pairs.i at.0 at.1 (line_view c.in-Ok.line)
    (c.pairs.invariant.told log earlier h f known stands) at.2
    (c.in-Ok.ensures.tells run.log earlier h f at.0 at.1 run.is keeps.stands at.2)
    (subst (AppendsPrefix (g.O.Sink.written c.pairs.out) (g.O.Sink.written c.put.new.sink)) c.as_bytes.ensures.value c.in-Err-put.ensures.bytes)

pub returns-in-Err-put-clause-stays : goal.returns-in-Err-put-clause-stays
returns-in-Err-put-clause-stays g c = stays_then g.D.Shelf.log g.D.Shelf.id g.D.Shelf.faults g.D.Shelf.loans c.args.spool.now c.pairs.spool c.line_at.new.spool c.pairs.invariant.stays c.line_at.ensures.stays

pub pairs-preserved : goal.pairs-preserved
pairs-preserved g c =
    let stays = c.line_at.ensures.stays in
    let same = ap (λ (v : SpoolView g.row.D.Denot). v.state.holds) stays.kept.state in
    record {
      told = λ log earlier h f known stands.
          let keeps = c.pairs.invariant.stays.kept.keeps earlier h f stands in
          let run = keeps.images log known in
          let n = c.count-count.ensures.held earlier h f stands in
          let at = split_at c.pairs.i (held c.args.hold.now h) (omega (arith, n, c.pairs-test.true)) in
          let next = next_line c.args.report (held c.args.hold.now h) (g.O.Sink.written c.args.out.now) (g.O.Sink.written c.pairs.out) (g.O.Sink.written c.put.new.sink) c.pairs.found c.pairs.i at.0 at.1 (line_view c.in-Ok.line)
          (c.pairs.invariant.told log earlier h f known stands) at.2
          (c.in-Ok.ensures.tells run.log earlier h f at.0 at.1 run.is keeps.stands at.2)
          (subst (Appends (g.O.Sink.written c.pairs.out) (g.O.Sink.written c.put.new.sink)) c.as_bytes.ensures.value c.in-Ok-put.ensures.bytes) in
          record { lines = next.lines; rest = next.rest; are = next.are; says = next.says ∙ sym c.first_of-found.ensures; count = next.count; put = next.put };
      has = subst (λ hs. Contains hs c.args.hold.now) (sym same) c.pairs.invariant.has;
      said = subst IsSaid (sym c.first_of-found.ensures) (said_first c.pairs.found c.in-Ok.line.outcome c.pairs.invariant.said c.in-Ok.ensures.outcome);
      stays = stays_then g.D.Shelf.log g.D.Shelf.id g.D.Shelf.faults g.D.Shelf.loans c.args.spool.now c.pairs.spool c.line_at.new.spool c.pairs.invariant.stays stays;
      unwritten = c.in-Ok-put.ensures.cause.still ∙ c.pairs.invariant.unwritten;
      rest = c.in-Ok-put.ensures.rest ∙ c.pairs.invariant.rest;
    }

pub returns-clause-lines : goal.returns-clause-lines
returns-clause-lines g c = λ log earlier h f known stands.
    let n = c.count-count.ensures.held earlier h f stands in
    ended c.args.report (held c.args.hold.now h) (g.O.Sink.written c.args.out.now) (g.O.Sink.written c.pairs.out) c.pairs.found c.pairs.i
    (c.pairs.invariant.told log earlier h f known stands) (omega (arith, n, c.pairs-test.false)) c.pairs.invariant.said
