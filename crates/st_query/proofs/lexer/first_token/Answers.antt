use Rattle.std.proofs.Common.{◌≡◌, take, drop, arith, IsTrue, All, sym, subst, [], ℕ}
use Rattle.std.proofs.lemmas.Grind.{common_steps}
use Rattle.std.proofs.lemmas.List.{take_rest}
use Rattle.st_query.specs.Tokens.{is_space, EndsRun}
use Rattle.st_query.proofs.Runs.{run_all, run_ends, run_whole, three_parts}
use Rattle.st_query.proofs.lexer.first_token.Goals as goal

pub token_at-requires : goal.token_at-requires
token_at-requires c =
    let text = c.args.rest.now in
    rw (take_rest text c.space_len-gap.result)
    (subst (λ (n : ℕ). EndsRun is_space (drop n text)) (sym c.space_len-gap.ensures.value) (run_ends is_space text))

pub returns-in-None : goal.returns-in-None
returns-in-None c =
    let text = c.args.rest.now in
    let value = c.space_len-gap.ensures.value in
    let rest = rw (take_rest text c.space_len-gap.result) at c.in-None.ensures in
    run_whole is_space text (subst (λ (n : ℕ). drop n text ≡ []) value rest)

pub returns-in-Some : goal.returns-in-Some
returns-in-Some c =
    let text = c.args.rest.now in
    let gap = c.space_len-gap.result in
    let len = c.in-Some.first.1 in
    let value = c.space_len-gap.ensures.value in
    let fits = c.space_len-gap.ensures.bound in
    let first = rw (take_rest text gap) at c.in-Some.ensures in
    let inside = first.1 in (
      take gap text,
      take len (drop gap text),
      drop len (drop gap text),
      three_parts gap len text,
      subst (λ (n : ℕ). All (λ b. IsTrue (is_space b)) (take n text)) (sym value) (run_all is_space text),
      grind (arith, common_steps),
      grind (arith, common_steps),
      first.2,
    )
