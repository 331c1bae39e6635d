use Rattle.std.proofs.Common.{inl, inr, take, drop, arith, IsTrue, All, sym, subst, ℕ}
use Rattle.std.proofs.lemmas.Grind.{common_steps}
use Rattle.st_query.specs.Tokens.{is_word_byte, EndsRun}
use Rattle.st_query.proofs.Runs.{run_all, run_ends}
use Rattle.st_query.proofs.lexer.token_at.Goals as goal

pub returns-then-len-gt0 : goal.returns-then-len-gt0
returns-then-len-gt0 c =
    let text = c.args.rest.now in
    let value = c.word_len-len.ensures.value in (
      c.if-len-gt0.true,
      c.word_len-len.ensures.bound,
      inr (inr (inr (inr (inl (
        c.word_token.ensures,
        grind (arith, common_steps),
        subst (λ (n : ℕ). All (λ b. IsTrue (is_word_byte b)) (take n text)) (sym value) (run_all is_word_byte text),
        subst (λ (n : ℕ). EndsRun is_word_byte (drop n text)) (sym value) (run_ends is_word_byte text),
      ))))),
    )
