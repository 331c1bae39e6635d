use Rattle.std.proofs.Common.{List, ◌+◌, ◌≤◌, length, Contains}
use Rattle.st_walk.specs.declared.text.Key.{Key}
use Rattle.st_walk.specs.Walk.{FrameHas}
use Rattle.st_walk.specs.Listing.{keys_left, frame_keys}
use Rattle.st_index.specs.PositionLists.{positions_at, AreDistinct, count_in}
use Rattle.st_index.proofs.Adding.{Pushed}
use Rattle.st_index.proofs.lists.PositionLists.put_all.Given as goal

abbrev pub invariant-loop-key : goal.invariant-loop-key
invariant-loop-key l =
    ((k : Key) → Pushed (FrameHas l.frame k) (positions_at l.fn.self k) (positions_at l.self k) l.position (Contains (keys_left l.key-iterator) k))
    × ((k : Key) → Contains (keys_left l.key-iterator) k → FrameHas l.frame k)
    × ((ks : List Key) → AreDistinct ks → count_in l.self ks + length (keys_left l.key-iterator) ≤ count_in l.fn.self ks + length (frame_keys l.frame))
