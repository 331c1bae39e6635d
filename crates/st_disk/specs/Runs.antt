-- A run of calls: what every crash since its first moment leaves, and what it did to the pairs.
use Rattle.std.specs.Prelude.{◌≡◌, ◌≤◌, ◌⊎◌, ◌++◌, ℕ, List, Option, Some}
use Rattle.st_disk.specs.Folders.{Folder}
use Rattle.st_disk.specs.Disks.{Log, Grew, Leaves, moment, Since}
use Rattle.st_disk.specs.Events.{Event, events}

-- each image that a crash now may leave has this
abbrev pub Each : Log → (Folder → Type 0) → Type 0
Each log Q = (c : Folder) → Leaves log c → Q c

-- a crash at any moment from the first log on, to the second, leaves what has P
pub record LeavesOnly (old new : Log) (P : Folder → Type 0) : Type 0 where
  pub grew : Grew old new
  pub later : moment old ≤ moment new
  pub since : (c : Folder) → Since new (moment old) c → P c
  -- for a run that began earlier
  pub before : (t : ℕ) (c : Folder) → t ≤ moment old → Since new t c → Since old t c ⊎ P c

-- from the first log on, to the one that is known now, each crash leaves what has P and the events
-- are these; a crash now leaves what has Q
pub record Ran (first : Log) (known : Option Log) (es : List Event)
    (P Q : Folder → Type 0) : Type 0 where
  pub log : Log
  pub is : known ≡ Some log
  pub only : LeavesOnly first log P
  pub each : Each log Q
  pub past : events log ≡ events first ++ es
