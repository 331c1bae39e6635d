use Rattle.std.proofs.Common.{◌≡◌, Bool, true, false, refl, sym, ap, ◌∙◌, arith}
use Rattle.std.specs.Prelude.{not}
use Rattle.std.specs.Ordering.{is_lt}
use Rattle.st_tblock.specs.Block.{entry_in}
use Rattle.st_tblock.specs.Cursor.{entry_of}
use Rattle.st_tblock.proofs.search.is_reached.Goals as goal

-- what a test that fails says
not_true : (b : Bool) → not b ≡ true → b ≡ false
not_true true e = cc
not_true false e = refl

pub returns-in-Some : goal.returns-in-Some
returns-in-Some c = λ t.
    (omega arith, (entry_of c.in-Some.parts, c.in-Some.field-0-1.now), ap (entry_in 0) (sym c.split_at.ensures.back) ∙ sym c.in-Some.ensures.value, ap is_lt (sym c.cmp.ensures) ∙ sym c.is_lt.ensures ∙ not_true c.is_lt.result t)
