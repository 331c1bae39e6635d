-- What a load does, act by act.
use Rattle.std.specs.Prelude.{ℕ, ◌-◌, List, [], ◌∷◌, ◌++◌, length, take, drop, map, codes}
use Rattle.std.specs.Fmt.{decimal}
use Rattle.st_disk.specs.Events.{Event, Remove}
use Rattle.st_disk.specs.Pairs.{Entry}

-- an act: a pair is published or removed, or the line of a pair with this stamp and this many
-- packets is written
pub data Act : Type 0 where
  Happens : Event → Act
  Writes : ℕ → ℕ → Act

-- the line of a pair: its stamp and the number of its packets, in decimal, and a line feed
abbrev pub line_text : ℕ → ℕ → List ℕ
line_text stamp packets = decimal stamp ++ (codes " " ++ (decimal packets ++ codes "\n"))

-- the events among these acts, in their order
abbrev pub events_of : List Act → List Event
events_of [] = []
events_of (Happens e ∷ acts) = e ∷ events_of acts
events_of (Writes stamp packets ∷ acts) = events_of acts

-- the text of the lines among these acts, in their order
abbrev pub lines_of : List Act → List ℕ
lines_of [] = []
lines_of (Happens e ∷ acts) = lines_of acts
lines_of (Writes stamp packets ∷ acts) = line_text stamp packets ++ lines_of acts

-- these events as acts
abbrev pub happen : List Event → List Act
happen es = map Happens es

-- by how many pairs a file set is above the limit
abbrev pub excess : ℕ → List Entry → ℕ
excess limit set = length set - limit

-- the removal of this pair
abbrev pub removal : Entry → Event
removal e = Remove e.stamp

-- the removals of the oldest pairs of a file set, until no more than the limit are left
abbrev pub removals : ℕ → List Entry → List Event
removals limit set = map removal (take (excess limit set) set)

-- the newest pairs of a file set, as many as the limit allows
abbrev pub newest : ℕ → List Entry → List Entry
newest limit set = drop (excess limit set) set
