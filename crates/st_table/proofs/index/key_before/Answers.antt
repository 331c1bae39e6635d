use Rattle.std.proofs.Common.{Some, ap, ◌∙◌, arith}
use Rattle.st_table.proofs.Finding.{key_before_is}
use Rattle.st_table.proofs.index.key_before.Goals as goal

pub returns : goal.returns
returns c = λ index d.
    ap Some c.bytes.ensures
    ∙ key_before_is index c.args.entries.now c.args.i c.index-entries-i.result d (let n = c.if-i-eq0.false in omega arith) (let l = c.requires in omega arith)
