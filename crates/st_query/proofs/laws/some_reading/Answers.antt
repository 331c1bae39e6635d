use Rattle.std.proofs.Common.{arith, length, refl, inr}
use Rattle.st_query.specs.declared.errors.QueryErr.TheVariants.{Long}
use Rattle.st_query.proofs.Texts.{next_following}
use Rattle.st_query.proofs.SomeReading.{so_far_start, so_far_on, reading}
use Rattle.st_query.proofs.laws.some_reading.Goals as goal

pub returns-then-text-gt-MAX_TEXT : goal.returns-then-text-gt-MAX_TEXT
returns-then-text-gt-MAX_TEXT c = inr (Long (length c.args.text.now), (c.if-text-gt-MAX_TEXT.true, refl))

pub tokens-init : goal.tokens-init
tokens-init c = (omega arith, so_far_start c.args.text.now)

pub tokens-smaller : goal.tokens-smaller
tokens-smaller c =
    let here = c.tokens.invariant in
    let on = next_following c.args.text.now c.tokens.at c.in-Some.found here.0 c.in-Some.ensures in
    omega (arith, on.on, on.within)

pub tokens-preserved : goal.tokens-preserved
tokens-preserved c =
    let here = c.tokens.invariant in
    let on = next_following c.args.text.now c.tokens.at c.in-Some.found here.0 c.in-Some.ensures in
    (on.within, so_far_on c.args.text.now c.tokens.at c.in-Some.found c.if-text-gt-MAX_TEXT.false here.0 c.in-Some.ensures here.1)

pub returns : goal.returns
returns c = reading c.args.text.now c.tokens.at c.if-text-gt-MAX_TEXT.false c.in_default.ensures c.tokens.invariant.1
