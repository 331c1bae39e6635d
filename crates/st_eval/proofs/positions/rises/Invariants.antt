use Rattle.std.proofs.Common.{◌≡◌, ◌-◌, drop}
use Rattle.st_rows.specs.Values.{rises}
use Rattle.st_eval.proofs.positions.rises.Given as goal

abbrev pub invariant-loop-i : goal.invariant-loop-i
invariant-loop-i l = rises l.items ≡ rises (drop (l.i - 1) l.items)
