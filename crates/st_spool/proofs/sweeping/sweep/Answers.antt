use Rattle.std.proofs.Common.{◌≡◌, ◌≤◌, false, sym, ◌∙◌, arith}
use Rattle.st_spool.specs.States.{covers}
use Rattle.st_disk.proofs.Runs.{known_then}
use Rattle.st_spool.proofs.Swept.{all_gone, one_more_gone, tried_more, tried_failed}
use Rattle.st_spool.proofs.sweeping.sweep.Goals as goal

pub places-preserved-in-Err : goal.places-preserved-in-Err
places-preserved-in-Err g c =
    let D = g.D.Shelf in
    let old = D.log c.places.shelf in
    let new = D.log c.forget.new.shelf in
    let i = c.places.invariant in
    let out : covers c.args.holds.now c.places.i ≡ false = sym c.is_covered.ensures ∙ c.if-is_covered.false in
    let le_now : D.faults c.places.shelf ≤ D.faults c.forget.new.shelf = c.forget.ensures.cause.later in
    let le_mid : D.faults c.args.shelf.now ≤ D.faults c.places.shelf = i.counted in
    let reach : c.places.swept ≤ c.places.i = i.reached in
    let lower : c.args.from ≤ c.places.swept = i.later in
    record {
      swept = λ first rows past run. c.forget.ensures.forgotten first rows (past c.places.i (omega arith) out) (i.swept first rows past run);
      later = i.later;
      reached = omega arith;
      gone = all_gone c.args.stamps.now c.args.holds.now old new c.forget.ensures.still c.args.from c.places.i c.places.swept i.gone;
      tried = tried_failed c.args.stamps.now c.args.holds.now old new c.forget.ensures.still c.args.from c.places.i (D.faults c.args.shelf.now) (D.faults c.places.shelf) (D.faults c.forget.new.shelf) le_mid le_now c.in-Err.ensures.cause.failed;
      still = λ n none. c.forget.ensures.still n (i.still n none);
      spares = λ n v others read. c.forget.ensures.spares n v (others c.places.i (omega arith)) (i.spares n v others read);
      known = known_then (D.log c.args.shelf.now) old new i.known c.forget.ensures.known;
      counted = omega arith;
      id = c.forget.ensures.rest.0 ∙ i.id;
      loans = c.forget.ensures.rest.1 ∙ i.loans;
    }

pub places-preserved-then-i-swept : goal.places-preserved-then-i-swept
places-preserved-then-i-swept g c =
    let D = g.D.Shelf in
    let old = D.log c.places.shelf in
    let new = D.log c.forget.new.shelf in
    let i = c.places.invariant in
    let out : covers c.args.holds.now c.places.i ≡ false = sym c.is_covered.ensures ∙ c.if-is_covered.false in
    let le_now : D.faults c.places.shelf ≤ D.faults c.forget.new.shelf = c.forget.ensures.cause.later in
    let le_mid : D.faults c.args.shelf.now ≤ D.faults c.places.shelf = i.counted in
    let reach : c.places.swept ≤ c.places.i = i.reached in
    let lower : c.args.from ≤ c.places.swept = i.later in
    record {
      swept = λ first rows past run. c.forget.ensures.forgotten first rows (past c.places.i (omega arith) out) (i.swept first rows past run);
      later = i.later;
      reached = omega arith;
      gone = all_gone c.args.stamps.now c.args.holds.now old new c.forget.ensures.still c.args.from c.places.i c.places.swept i.gone;
      tried = tried_more c.args.stamps.now c.args.holds.now old new c.forget.ensures.still c.args.from c.places.i (D.faults c.args.shelf.now) (D.faults c.places.shelf) (D.faults c.forget.new.shelf) le_mid le_now i.tried c.in_default.ensures.gone;
      still = λ n none. c.forget.ensures.still n (i.still n none);
      spares = λ n v others read. c.forget.ensures.spares n v (others c.places.i (omega arith)) (i.spares n v others read);
      known = known_then (D.log c.args.shelf.now) old new i.known c.forget.ensures.known;
      counted = omega arith;
      id = c.forget.ensures.rest.0 ∙ i.id;
      loans = c.forget.ensures.rest.1 ∙ i.loans;
    }

pub places-preserved : goal.places-preserved
places-preserved g c =
    let D = g.D.Shelf in
    let old = D.log c.places.shelf in
    let new = D.log c.forget.new.shelf in
    let i = c.places.invariant in
    let out : covers c.args.holds.now c.places.i ≡ false = sym c.is_covered.ensures ∙ c.if-is_covered.false in
    let le_now : D.faults c.places.shelf ≤ D.faults c.forget.new.shelf = c.forget.ensures.cause.later in
    let le_mid : D.faults c.args.shelf.now ≤ D.faults c.places.shelf = i.counted in
    let reach : c.places.swept ≤ c.places.i = i.reached in
    let lower : c.args.from ≤ c.places.swept = i.later in
    let same : c.places.i ≡ c.places.swept = omega (arith, c.if-i-swept.false) in
    record {
      swept = λ first rows past run. c.forget.ensures.forgotten first rows (past c.places.i (omega arith) out) (i.swept first rows past run);
      later = omega arith;
      reached = omega arith;
      gone = one_more_gone c.args.stamps.now c.args.holds.now old new c.forget.ensures.still c.args.from c.places.i c.places.swept same i.gone c.in_default.ensures.gone;
      tried = tried_more c.args.stamps.now c.args.holds.now old new c.forget.ensures.still c.args.from c.places.i (D.faults c.args.shelf.now) (D.faults c.places.shelf) (D.faults c.forget.new.shelf) le_mid le_now i.tried c.in_default.ensures.gone;
      still = λ n none. c.forget.ensures.still n (i.still n none);
      spares = λ n v others read. c.forget.ensures.spares n v (others c.places.i (omega arith)) (i.spares n v others read);
      known = known_then (D.log c.args.shelf.now) old new i.known c.forget.ensures.known;
      counted = omega arith;
      id = c.forget.ensures.rest.0 ∙ i.id;
      loans = c.forget.ensures.rest.1 ∙ i.loans;
    }
