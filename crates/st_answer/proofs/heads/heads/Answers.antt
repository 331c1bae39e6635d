use Rattle.std.proofs.Common.{rules, arith, ◌≡◌, ◌<◌, ◌∷◌, [], ◌++◌, length, get_or, subst, sym, ap, ◌∙◌}
use Rattle.std.proofs.lemmas.Grind.{common_steps}
use Rattle.st_block.specs.Record.{IsRecordAt}
use Rattle.st_answer.specs.Picks.{pick_of}
use Rattle.st_answer.proofs.Heading.{no_record, count_at, position_at, picks_next, adds_next}
use Rattle.st_answer.proofs.heads.heads.Goals as goal

pub returns-in-Err-clause-picks : goal.returns-in-Err-clause-picks
returns-in-Err-clause-picks g c xs are =
    let content = g.F.Reader.content c.args.file.now in
    let i = c.heads.position-index in
    let (same, at) = position_at content c.args.positions.now xs i c.heads-test.true are in
    let r = (get_or xs i no_record).1 in
    let position = get_or c.args.positions.now i 0 in
    let at' = subst (λ z. IsRecordAt z position r) (sym c.heads.invariant.same.content) at in
    c.in-Err.ensures.picks r at'

pub heads-preserved : goal.heads-preserved
heads-preserved g c =
    let pushed : c.push.new.self.items ≡ c.heads.picked.items ++ c.in-Ok.pick ∷ [] = grind (arith, common_steps) in
    record {
      adds = adds_next c.args.place c.args.stamp c.args.picked.now.items c.heads.picked.items c.push.new.self.items c.in-Ok.pick c.heads.invariant.adds pushed c.in-Ok.ensures.of;
      picks = λ xs are.
          let content = g.F.Reader.content c.args.file.now in
          let i = c.heads.position-index in
          let count = count_at content c.args.positions.now xs are in
          let (same, at) = position_at content c.args.positions.now xs i c.heads-test.true are in
          let r = (get_or xs i no_record).1 in
          let position = get_or c.args.positions.now i 0 in
          let at' = subst (λ z. IsRecordAt z position r) (sym c.heads.invariant.same.content) at in
          let is = c.in-Ok.ensures.picks r at' in
          let lt : i < length xs = omega (arith, count, c.heads-test.true) in
          picks_next c.args.place c.args.stamp c.args.picked.now.items c.heads.picked.items c.push.new.self.items xs c.in-Ok.pick i lt
          (c.heads.invariant.picks xs are) pushed (is ∙ ap (λ n. pick_of c.args.place c.args.stamp n r) same);
      faults = search rules;
      reads = search rules;
      asked = search rules;
      same = search rules;
    }
