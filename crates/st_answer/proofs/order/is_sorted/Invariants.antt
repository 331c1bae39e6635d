use Rattle.std.proofs.Common.{◌≡◌, ◌+◌, ◌<◌, ◌≤◌, ℕ, false, get_or}
use Rattle.st_answer.specs.declared.picked.Picked.{Picked}
use Rattle.st_answer.specs.Order.{comes_before}
use Rattle.st_answer.proofs.order.is_sorted.Given as goal

abbrev pub invariant-picks : goal.invariant-picks
invariant-picks l = (k : ℕ) (d : Picked) → 0 ≤ k → k + 1 < l.next → comes_before (get_or l.picked (k + 1) d) (get_or l.picked k d) ≡ false
