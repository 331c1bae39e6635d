use Rattle.std.proofs.Common.{List, ℕ, IsFalse, Contains}
use Rattle.st_walk.specs.declared.text.Key.{Key}
use Rattle.st_walk.specs.Walk.{FrameHas}
use Rattle.st_walk.specs.Listing.{keys_left}
use Rattle.st_index.specs.NumberedLists.{ends_with, MayHave}
use Rattle.st_index.specs.PositionLists.{positions_at}
use Rattle.st_index.proofs.lists.PositionLists.take_all.Given as goal

abbrev pub invariant-loop-key : goal.invariant-loop-key
invariant-loop-key l =
    (k : Key) (ps : List ℕ) → IsFalse (ends_with ps l.position) → MayHave (FrameHas l.frame k) ps (positions_at l.fn.self k) l.position
    → MayHave (Contains (keys_left l.key-iterator) k) ps (positions_at l.self k) l.position
