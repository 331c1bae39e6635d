use Rattle.std.proofs.Common.{ℕ, ◌<◌, ◌≤◌, length, slice_index}
use Rattle.std.proofs.lemmas.List.Filters.{FiltersInPlace}
use Rattle.st_rows.specs.Positions.{has}
use Rattle.st_eval.proofs.positions.keep_common.Given as goal

abbrev pub invariant-loop-i : goal.invariant-loop-i
invariant-loop-i l =
    FiltersInPlace (has l.other) l.fn.items.items l.items.items l.kept l.i
    × (l.at ≤ length l.other)
    × ((k j : ℕ) → k < l.at → l.i ≤ j → j < length l.fn.items.items → slice_index l.other k < slice_index l.fn.items.items j)
