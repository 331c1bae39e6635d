use Rattle.std.proofs.Common.{rules, ◌≡◌, length, ◌++◌}
use Rattle.turn_trials.specs.Halves.{Done}
use Rattle.turn_trials.proofs.Sides.{joins}
use Rattle.turn_trials.proofs.halves.+all+fn-all-join_mut+arg2+fn-all-join_mut+arg3.Goals as goal

pub returns : goal.returns
returns g t c =
    let did = g.J.Work.did c.args.work.now in
    let a = c.split_at_mut-a.result.0.now in
    let b = c.split_at_mut-a.result.1.now in
    let d = c.split_at_mut-c.result.0.now in
    let e = c.split_at_mut-c.result.1.now in
    let front : Done did a c.a-1.given.0 d c.c-1.given.0 = search rules in
    let back : Done did b c.b-1.given.0 e c.d-1.given.0 = search rules in
    let len : length a ≡ length d = search rules in
    let whole : c.args.jobs.now ≡ a ++ b = search rules in
    let all : c.args.passes.now ≡ d ++ e = search rules in
    joins did a b c.a-1.given.0 c.b-1.given.0 d e c.c-1.given.0 c.d-1.given.0 len front back c.args.jobs.now c.args.passes.now whole all
