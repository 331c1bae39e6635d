use Rattle.std.proofs.Common.{◌≡◌, ℕ, length}
use Rattle.st_walk.specs.declared.text.Key.{Key}
use Rattle.st_index.specs.EntryLists.{lists_of_values}
use Rattle.st_index.specs.Slots.{in_slot}
use Rattle.st_index.proofs.key_lists.Addressed.next.Given as goal

abbrev pub invariant-lists : goal.invariant-lists
invariant-lists l = (key : ℕ → Key) → lists_of_values (in_slot l.self.lists.now) key l.self.order ≡ lists_of_values (in_slot l.fn.self.lists.now) key l.fn.self.order

abbrev pub decreases-lists : goal.decreases-lists
decreases-lists l = length l.self.order
