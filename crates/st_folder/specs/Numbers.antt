-- The numbers of drafts.
use Rattle.std.specs.Prelude.{◌≡◌, ◌<◌, ◌-◌, ◌^◌, ◌⊎◌, ℕ, List, All, Contains}
use Rattle.st_disk.specs.declared.naming.Name.{Name}
use Rattle.st_disk.specs.declared.naming.Name.TheVariants.{Block, Index, Parked, Draft}

-- a draft has a number below this one
abbrev pub IsBelow : ℕ → Name → Type 0
IsBelow next (Draft k number) = number < next
IsBelow next (Block stamp) = Unit {0}
IsBelow next (Index stamp) = Unit {0}
IsBelow next (Parked stamp) = Unit {0}

-- a draft with the greatest number of a u64
abbrev pub IsLastDraft : Name → Type 0
IsLastDraft (Draft k number) = number ≡ 2 ^ 64 - 1
IsLastDraft (Block stamp) = ⊥
IsLastDraft (Index stamp) = ⊥
IsLastDraft (Parked stamp) = ⊥

-- one of these is a draft with the greatest number
abbrev pub HasLastDraft : List Name → Type 0
HasLastDraft names = (last : Name) × Contains names last × IsLastDraft last

-- the number is above those of all drafts among these, or it is 0 and one of them has the greatest
abbrev pub IsFirstNumber : List Name → ℕ → Type 0
IsFirstNumber names next = All (IsBelow next) names ⊎ ((next ≡ 0) × HasLastDraft names)
