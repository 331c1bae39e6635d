use Rattle.std.proofs.Common.{◌<◌, [], IsSome, Contains, length, get_or, arith, ◌∙◌}
use Rattle.st_disk.specs.declared.naming.Name.TheVariants.{Block}
use Rattle.st_disk.specs.LoggedCalls.{removal}
use Rattle.st_disk.proofs.Runs.{known_then, known_adds, known_looks}
use Rattle.std.proofs.lemmas.List.Elements.{Contains-get_or}
use Rattle.st_spool.specs.Entering.{found_rows, IsPart}
use Rattle.st_spool.proofs.Stages.{removes}
use Rattle.st_spool.proofs.Entering.{stray_keeps, part_more}
use Rattle.st_spool.proofs.Clearing.{not_part, left_more, gone_more, cleared_reads}
use Rattle.st_spool.proofs.opening.clear.Goals as goal

pub returns-in-Err-clause-cleared : goal.returns-in-Err-clause-cleared
returns-in-Err-clause-cleared g c = λ l f all run.
    let D = g.D.Shelf in
    let lt : c.names.i < length c.args.names.now = omega arith in
    let here = get_or c.args.names.now c.names.i (Block 0) in
    let out = not_part c.is_part.result (IsPart (Contains c.args.names.now) here) c.if-is_part.false c.is_part.ensures in
    removes l [] (found_rows f) (D.log c.names.shelf) (D.log c.remove.new.self) c.remove.result here
    (stray_keeps f here ((all here).0 (Contains-get_or c.args.names.now c.names.i (Block 0) lt)) (λ part. out (part_more (λ n. IsSome (f n)) (Contains c.args.names.now) here (λ n there. (all n).1 there) part)))
    (c.names.invariant.cleared l f all run) c.remove.ensures.log

pub names-preserved : goal.names-preserved
names-preserved g c =
    let D = g.D.Shelf in
    let lt : c.names.i < length c.args.names.now = omega arith in
    let here = get_or c.args.names.now c.names.i (Block 0) in
    let out = not_part c.is_part.result (IsPart (Contains c.args.names.now) here) c.if-is_part.false c.is_part.ensures in
    record {
      cleared = λ l f all run. removes l [] (found_rows f) (D.log c.names.shelf) (D.log c.remove.new.self) c.remove.result here
          (stray_keeps f here ((all here).0 (Contains-get_or c.args.names.now c.names.i (Block 0) lt)) (λ part. out (part_more (λ n. IsSome (f n)) (Contains c.args.names.now) here (λ n there. (all n).1 there) part)))
          (c.names.invariant.cleared l f all run) c.remove.ensures.log;
      left = left_more c.args.names.now (D.log c.args.shelf.now) (D.log c.names.shelf) (D.log c.remove.new.self) c.names.i lt out c.in_default.ensures.log c.names.invariant.left;
      gone = gone_more c.args.names.now (D.log c.args.shelf.now) (D.log c.names.shelf) (D.log c.remove.new.self) c.names.i lt out c.in_default.ensures.log c.names.invariant.gone;
      known = known_then (D.log c.args.shelf.now) (D.log c.names.shelf) (D.log c.remove.new.self) c.names.invariant.known (known_adds (D.log c.names.shelf) (D.log c.remove.new.self) (removal (D.log c.names.shelf) here) c.in_default.ensures.log);
      still = c.in_default.ensures.cause.still ∙ c.names.invariant.still;
      id = c.in_default.ensures.rest.0 ∙ c.names.invariant.id;
      loans = c.in_default.ensures.rest.1 ∙ c.names.invariant.loans;
    }

pub returns-clause-reads : goal.returns-clause-reads
returns-clause-reads g c =
    let D = g.D.Shelf in
    cleared_reads c.args.names.now (D.log c.args.shelf.now) (D.log c.names.shelf) c.names.i (omega arith) c.names.invariant.left c.names.invariant.gone

pub returns-in-Err-clause-known : goal.returns-in-Err-clause-known
returns-in-Err-clause-known g c =
    let D = g.D.Shelf in
    known_then (D.log c.args.shelf.now) (D.log c.names.shelf) (D.log c.remove.new.self) c.names.invariant.known (known_looks (D.log c.names.shelf) (D.log c.remove.new.self) c.in-Err.ensures.log)
