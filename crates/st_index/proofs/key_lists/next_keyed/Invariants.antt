use Rattle.std.proofs.Common.{◌≡◌, length}
use Rattle.st_walk.specs.declared.text.Key.{Key}
use Rattle.st_index.specs.EntryLists.{lists_of_entries}
use Rattle.st_index.proofs.key_lists.next_keyed.Given as goal

abbrev pub invariant-lists : goal.invariant-lists
invariant-lists g l = (key : g.row.N.Denot → Key) → lists_of_entries key l.lists ≡ lists_of_entries key l.fn.lists

abbrev pub decreases-lists : goal.decreases-lists
decreases-lists g l = length l.lists
