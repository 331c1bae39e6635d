use Rattle.std.proofs.Common.{◌≡◌, length, arith, refl, true, false}
use Rattle.st_query.specs.Automaton.{phase_view, open_halves}
use Rattle.st_query.specs.Trees.{tree}
use Rattle.st_query.proofs.Texts.{next_following, reads_on, token_refused, end_refused, spelled, error_refused, joined_read, whole_stack, reading_whole}
use Rattle.st_query.proofs.Sound.{sound}
use Rattle.st_query.proofs.parser.parse.Goals as goal

pub returns-in-Ok-None-clause-refuses : goal.returns-in-Ok-None-clause-refuses
returns-in-Ok-None-clause-refuses c = λ other.
    let text = c.args.text.now in
    let here = c.tokens.invariant in
    let none = rw c.in-Ok-None.field-0-is at c.in-Ok-None.ensures in
    (error_refused text c.in-Some.found.start _ _ _ c.error_at.ensures c.refusal-kind.ensures
    (token_refused text c.tokens.at c.in-Some.found (phase_view c.tokens.phase) (open_halves c.tokens.stack) c.if-text-gt-MAX_TEXT.false here.0 c.in-Some.ensures here.1 none))

pub tokens-smaller : goal.tokens-smaller
tokens-smaller c =
    let text = c.args.text.now in
    let here = c.tokens.invariant in
    let on = next_following text c.tokens.at c.in-Some.found here.0 c.in-Some.ensures in
    omega (arith, on.on, on.within)

pub tokens-preserved : goal.tokens-preserved
tokens-preserved c =
    let text = c.args.text.now in
    let here = c.tokens.invariant in
    let on = next_following text c.tokens.at c.in-Some.found here.0 c.in-Some.ensures in
    let taken = rw c.in-Ok-Some.field-0-is at c.in-Ok-Some.ensures in
    (on.within, reads_on text c.tokens.at c.in-Some.found (phase_view c.tokens.phase) (phase_view c.in-Ok-Some.next) (open_halves c.tokens.stack) (open_halves c.step.new.stack) here.0 c.in-Some.ensures here.1 taken)

pub new-requires : goal.new-requires
new-requires c =
    let text = c.args.text.now in
    let here = c.tokens.invariant in
    sound text (tree c.in-Joined.node) (spelled text c.tokens.at (tree c.in-Joined.node) c.in_default.ensures
    (joined_read text c.tokens.at c.tokens.phase c.tokens.stack c.in-Joined.node c.in-Joined.is (c.if-is_empty.ensures.0 refl) here.1))

pub returns-then-is_empty-clause-spells : goal.returns-then-is_empty-clause-spells
returns-then-is_empty-clause-spells c =
    let text = c.args.text.now in
    let here = c.tokens.invariant in
    rw c.in-Ok.ensures (
      c.if-text-gt-MAX_TEXT.false,
      spelled text c.tokens.at (tree c.in-Joined.node) c.in_default.ensures
          (joined_read text c.tokens.at c.tokens.phase c.tokens.stack c.in-Joined.node c.in-Joined.is (c.if-is_empty.ensures.0 refl) here.1),
    )

pub returns-in-Joined-clause-refuses : goal.returns-in-Joined-clause-refuses
returns-in-Joined-clause-refuses c = λ other.
    let text = c.args.text.now in
    let here = c.tokens.invariant in
    (error_refused text (length text) _ _ _ c.error_at-in-Joined.ensures c.refusal-kind-2.ensures
    (end_refused text c.tokens.at (phase_view c.tokens.phase) (open_halves c.tokens.stack) c.if-text-gt-MAX_TEXT.false c.in_default.ensures here.1
    (λ w. let never : false ≡ true = c.if-is_empty.ensures.1 (whole_stack c.tokens.stack (phase_view c.tokens.phase) w) in cc)))

pub returns-clause-refuses : goal.returns-clause-refuses
returns-clause-refuses c = λ other.
    let text = c.args.text.now in
    let here = c.tokens.invariant in
    (error_refused text (length text) _ _ _ c.error_at-in-Reading.ensures c.refusal-kind-2.ensures
    (end_refused text c.tokens.at (phase_view c.tokens.phase) (open_halves c.tokens.stack) c.if-text-gt-MAX_TEXT.false c.in_default.ensures here.1
    (reading_whole (open_halves c.tokens.stack) c.tokens.phase _ _ c.in-Reading.is)))
