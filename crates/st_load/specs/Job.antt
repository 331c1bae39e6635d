-- What a load is to do with the packets of an input.
use Rattle.std.specs.Prelude.{◌≡◌, ◌<◌, ◌-◌, ◌^◌, ℕ, List, [], ◌∷◌, ◌++◌, length, All, Option, Some}
use Rattle.st_base.specs.Records.{Rec}
use Rattle.st_base.specs.Ticks.{Ticks}
use Rattle.st_block.specs.BlockText.{IsShort}
use Rattle.st_disk.specs.Events.{Publish}
use Rattle.st_disk.specs.Pairs.{Entry}
use Rattle.st_lane.specs.Cut.{IsLongest}
use Rattle.st_lane.specs.Sealing.{AreWhole}
use Rattle.st_spool.specs.Publishing.{next_stamp}
use Rattle.st_load.specs.Acts.{Act, Happens, Writes, happen, removals, newest}

-- what a load goes on from: the pairs that are published, the greatest stamp that there was, and
-- the clock's readings to come
pub record Situation : Type 0 where
  pub set : List Entry
  pub last : ℕ
  pub times : Option (List ℕ)

-- A pair of these packets is published: a whole pair, under the next stamp that is not below the
-- clock's reading. Then its line is written, and then the oldest pairs are removed while more than
-- the limit are there.
pub record Adds (limit size : ℕ) (old new : Situation) (rs : List Rec) (acts : List Act)
    : Type 0 where
  pub floor : ℕ
  pub ticks : Ticks old.times new.times floor
  pub left : old.last < 2 ^ 64 - 1
  pub e : Entry
  pub stamp : e.stamp ≡ next_stamp old.last floor
  pub whole : AreWhole size rs (Some e.block) (Some e.index)
  pub set : new.set ≡ newest limit (old.set ++ e ∷ [])
  pub last : new.last ≡ e.stamp
  pub acts_are : acts ≡ Happens (Publish e) ∷ Writes e.stamp (length rs)
      ∷ happen (removals limit (old.set ++ e ∷ []))

-- these acts add a pair for each of these lists of packets
abbrev pub AddsAll : ℕ → ℕ → Situation → List (List Rec) → List Act → Situation → Type 0
AddsAll limit size old [] acts new = (acts ≡ []) × (new ≡ old)
AddsAll limit size old (rs ∷ lists) acts new =
    (mid : Situation) × (first : List Act) × (later : List Act) × (acts ≡ first ++ later)
    × Adds limit size old mid rs first × AddsAll limit size mid lists later new

-- what a load of these lists of packets does: it removes the oldest pairs first
abbrev pub IsJob : ℕ → ℕ → Situation → List (List Rec) → List Act → Situation → Type 0
IsJob limit size old lists acts new =
    (later : List Act) × (acts ≡ happen (removals limit old.set) ++ later)
    × AddsAll limit size (record old { set = newest limit old.set }) lists later new

-- These records are cut into these lists and those that are left. Each list is the longest prefix,
-- of the records from its first one on, whose block file has at most this many blocks.
abbrev pub AreFirstLists : ℕ → ℕ → List (List Rec) → List Rec → List Rec → Type 0
AreFirstLists size most [] rs left = rs ≡ left
AreFirstLists size most (first ∷ lists) rs left =
    (rest : List Rec) × (rs ≡ first ++ rest) × IsLongest size most first rest
    × AreFirstLists size most lists rest left

-- there is no record, or the first one is too long for a block of this size
abbrev pub BeginsLong : ℕ → List Rec → Type 0
BeginsLong size [] = Unit {0}
BeginsLong size (r ∷ rs) = IsShort size r → ⊥

-- of these records a load takes the first ones, up to the first that is too long for a block, if
-- there is one
pub record Takes (size : ℕ) (rs taken others : List Rec) : Type 0 where
  pub are : rs ≡ taken ++ others
  pub short : All (IsShort size) taken
  pub ends : BeginsLong size others
