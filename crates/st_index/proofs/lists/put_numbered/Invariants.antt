use Rattle.std.proofs.Common.{◌≡◌, ℕ, ◌+◌, ◌-◌, ◌≤◌, max, length}
use Rattle.st_index.specs.NumberedLists.{at_number}
use Rattle.st_index.proofs.lists.put_numbered.Given as goal

abbrev pub invariant-fill : goal.invariant-fill
invariant-fill l =
    ((n : ℕ) → at_number l.lists.items n ≡ at_number l.fn.lists.items n)
    × (length l.lists.items ≤ max (length l.fn.lists.items) (l.number + 1))

abbrev pub decreases-fill : goal.decreases-fill
decreases-fill l = l.number + 1 - length l.lists.items
