use Rattle.std.proofs.Common.{◌≡◌, ℕ, ◌+◌, length}
use Rattle.st_walk.specs.declared.text.Key.{Key}
use Rattle.st_index.specs.EntryLists.{lists_of_numbers}
use Rattle.st_index.proofs.key_lists.Numbered.next.Given as goal

abbrev pub invariant-lists : goal.invariant-lists
invariant-lists l =
    ((key : ℕ → Key) → lists_of_numbers key l.self.number l.self.rest.now ≡ lists_of_numbers key l.fn.self.number l.fn.self.rest.now)
    × (l.self.number + length l.self.rest.now ≡ l.fn.self.number + length l.fn.self.rest.now)

abbrev pub decreases-lists : goal.decreases-lists
decreases-lists l = length l.self.rest.now
