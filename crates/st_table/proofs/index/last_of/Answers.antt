use Rattle.std.proofs.Common.{◌∙◌, arith}
use Rattle.std.proofs.lemmas.Bool.Decides.{nat_tests}
use Rattle.st_table.proofs.Finding.{no_last, last_is}
use Rattle.st_table.proofs.index.last_of.Goals as goal

pub returns-then-is_empty : goal.returns-then-is_empty
returns-then-is_empty c = λ index d.
    let e = c.is_empty.ensures in
    let t = c.if-is_empty.true in
    no_last index c.args.entries.now d (grind (arith, nat_tests))

pub returns : goal.returns
returns c = λ index d.
    let e = c.is_empty.ensures in
    let f = c.if-is_empty.false in
    c.bytes.ensures ∙ last_is index c.args.entries.now c.index-entries-entries.result d (grind (arith, nat_tests))
