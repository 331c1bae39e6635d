use Rattle.std.proofs.Common.{List, ℕ, option_map, sym, subst}
use Rattle.st_tblock.specs.Search.{AnswersFrom}
use Rattle.st_tblock.proofs.Restarting.{found_in_good, no_halves}
use Rattle.st_tblock.proofs.search.find.Goals as goal

pub returns-in_default : goal.returns-in_default
returns-in_default c = no_halves c.args.bytes.now c.args.key.now (sym c.in_default.ensures.value)

pub returns : goal.returns
returns c =
    let key = c.args.key.now in
    let answer = option_map (λ v. v.now) c.scan.result in
    let there = subst (λ (t : List ℕ). AnswersFrom t key answer) c.split_at.ensures.back c.scan.ensures in
    found_in_good c.args.bytes.now c.in-Some.text.now c.in-Some.restarts.now key c.restart_before-from.result answer (sym c.in-Some.ensures.value) c.restart_before-from.ensures.begins there
