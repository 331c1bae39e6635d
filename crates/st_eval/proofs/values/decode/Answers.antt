use Rattle.std.proofs.Common.{◌≡◌, ℕ, ◌+◌, ◌≤◌, length, drop, List, ◌∷◌, ◌++◌, [], sym, ap, ◌∙◌, arith, length-drop, drop-drop}
use Rattle.std.proofs.lemmas.List.{take_rest}
use Rattle.byteorder.specs.Endian.{big_number}
use Rattle.st_rows.specs.Positions.{positions_in}
use Rattle.st_eval.proofs.ValueTexts.{takes_position, no_position}
use Rattle.st_eval.proofs.values.decode.Goals as goal

pub positions-preserved : goal.positions-preserved
positions-preserved c =
    let v = c.args.value.now in
    let at = c.positions.at in
    let all = c.positions.all.items in
    let x = c.read_u32.result in
    let e : x ≡ big_number 4 (drop at v) = rw (take_rest v at) at c.read_u32.ensures in
    let long = length-drop at v in
    let room : 4 ≤ length (drop at v) = omega (arith, c.positions-test.true, long) in (
      omega (arith, c.positions-test.true),
      ap (λ (xs : List ℕ). xs ++ positions_in (drop (at + 4) v)) c.in_ok-push.ensures.items
          ∙ (ap (λ (ys : List ℕ). (all ++ x ∷ []) ++ positions_in ys) (sym (drop-drop 4 at v))
          ∙ takes_position all (drop at v) (c.args.all.now.items ++ positions_in v) x room e c.positions.invariant.1),
    )

pub returns : goal.returns
returns c = no_position c.positions.all.items (drop c.positions.at c.args.value.now) (c.args.all.now.items ++ positions_in c.args.value.now) (omega (arith, length-drop c.positions.at c.args.value.now, c.positions-test.false)) c.positions.invariant.1
