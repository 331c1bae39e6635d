-- Lanes over the drafts of a shelf.
use Rattle.std.specs.Prelude.{◌≡◌, ℕ, false}
use Rattle.st_shelf.specs.Origins.{DraftOrigin}
use Rattle.st_lane.specs.Lane.{LaneView}

-- both drafts of the lane are of this shelf
abbrev pub IsLaneOf : {T : Type 0} → (T → DraftOrigin) → ℕ → LaneView T → Type 0
IsLaneOf origin home l = ((origin l.block).home ≡ home) × ((origin l.index).home ≡ home)

-- it has no records, and no write failed
abbrev pub IsFresh : {T : Type 0} → LaneView T → Type 0
IsFresh l = (l.filling.records ≡ 0) × (l.broken ≡ false)
