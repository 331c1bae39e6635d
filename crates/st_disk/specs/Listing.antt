-- The list of all names that are there.
use Rattle.std.specs.Prelude.{◌≡◌, ◌⊎◌, ◌↔◌, List, [], ◌∷◌, Option, Some, IsSome, Contains}
use Rattle.st_disk.specs.declared.naming.Name.{Name}
use Rattle.st_disk.specs.declared.changes.Update.{Update}
use Rattle.st_disk.specs.declared.changes.Update.TheVariants.{Set, Move}
use Rattle.st_disk.specs.Disks.{Log, reads}

-- where the log is known, these are just the names that are there
abbrev pub AreAll : Option Log → List Name → Type 0
AreAll known names =
    (log : Log) → known ≡ Some log → (n : Name) → Contains names n ↔ IsSome (reads log n)

-- the name under which an update sets bytes
abbrev pub target : Update → Name
target (Set n bytes) = n
target (Move a b bytes) = b

-- some of these updates is of this name
abbrev pub IsUpdated : List Update → Name → Type 0
IsUpdated [] n = ⊥
IsUpdated (p ∷ ps) n = (target p ≡ n) ⊎ IsUpdated ps n
