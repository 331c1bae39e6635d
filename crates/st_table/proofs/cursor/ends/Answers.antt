use Rattle.std.proofs.Common.{◌∙◌, ap, is_lt}
use Rattle.st_table.proofs.Stepping.{done_at_end, done_behind}
use Rattle.st_table.proofs.cursor.ends.Goals as goal

pub returns-then-next-entries-clause-done : goal.returns-then-next-entries-clause-done
returns-then-next-entries-clause-done c = λ index d e.
    done_at_end index c.args.entries.now c.args.next c.args.high.now d c.if-next-entries.true

pub returns-in-Some-clause-done : goal.returns-in-Some-clause-done
returns-in-Some-clause-done c = λ index d e.
    done_behind index c.args.next c.in-Some.key.now c.args.high.now c.is_lt.result (c.in-Some.ensures index d) (c.is_lt.ensures ∙ ap is_lt c.cmp.ensures) e
