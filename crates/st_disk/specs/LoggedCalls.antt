-- What a call of a shelf adds to its log, and what is said of it where the log is known.
use Rattle.std.specs.Prelude.{◌≡◌, ◌⊎◌, ◌≤◌, ◌-◌, ◌^◌, ℕ, List, Option, None, Some, Result, Ok, Err}
use Rattle.st_base.specs.Faults.{Rose}
use Rattle.st_disk.specs.declared.naming.Kind.{Kind}
use Rattle.st_disk.specs.declared.naming.Name.{Name}
use Rattle.st_disk.specs.declared.naming.Name.TheVariants.{Block, Index, Parked, Draft}
use Rattle.st_disk.specs.declared.changes.Change.TheVariants.{Remove}
use Rattle.st_disk.specs.declared.changes.Call.{Call}
use Rattle.st_disk.specs.declared.changes.Call.TheVariants.{Did, Other}
use Rattle.st_disk.specs.Folders.{Folder, where_there}
use Rattle.st_disk.specs.Disks.{Log, Grew, reads, Leaves, and_then, moment}

-- the log has this call more; a log that isn't known stays so
abbrev pub Adds : Option Log → Option Log → Call → Type 0
Adds None new call = new ≡ None
Adds (Some log) new call = new ≡ Some (and_then log call)

-- a log that is known has all the moments that a u64 numbers
abbrev pub IsFull : Option Log → Type 0
IsFull known = (log : Log) → known ≡ Some log → 2 ^ 64 - 1 ≤ moment log

-- the log has one call more, which changed nothing; a full log stays as it is
abbrev pub Looks : Option Log → Option Log → Type 0
Looks old new = Adds old new Other ⊎ (IsFull old × (new ≡ old))

-- a call that succeeded did this, and one that failed changed nothing
abbrev pub Does : {T E : Type 0} → Option Log → Option Log → Result T E → (T → Call) → Type 0
Does old new (Ok v) call = Adds old new (call v)
Does old new (Err e) call = Looks old new

-- where the log is known, this is so of what is read under the name
abbrev pub Reads : Option Log → Name → (Option (List ℕ) → Type 0) → Type 0
Reads known n P = (log : Log) → known ≡ Some log → P (reads log n)

-- a removal is a change where the name is there, and else none
abbrev pub removal : Option Log → Name → Call
removal None n = Other
removal (Some log) n = where_there (reads log n) (λ _. Did (Remove n)) Other

-- the name was removed, and no fault was counted but where that file had any; or the removal
-- failed, and a fault was counted
abbrev pub Abandons : Option Log → Option Log → Name → ℕ → ℕ → ℕ → Type 0
Abandons old new n own before now =
    (Adds old new (removal old n) × (own ≡ 0 → now ≡ before)) ⊎ (Looks old new × Rose before now)

-- a log that is known after some calls was known before them, and has grown
abbrev pub KnownBefore : Option Log → Option Log → Type 0
KnownBefore old new = (log : Log) → new ≡ Some log → (was : Log) × (old ≡ Some was) × Grew was log

-- a call that leaves what is read under the name
abbrev pub Spares : Call → Name → Type 0
Spares call n = (log : Log) → reads (and_then log call) n ≡ reads log n

-- what was read as the index of a stamp is read under its parked name, and no longer as the index
abbrev pub Parks : Option Log → Option Log → ℕ → Type 0
Parks old new s =
    (log : Log) → old ≡ Some log
    → Reads new (Index s) (λ v. v ≡ None) × Reads new (Parked s) (λ v. v ≡ reads log (Index s))

-- no crash now leaves a draft of this kind and number
abbrev pub IsUnused : Option Log → Kind → ℕ → Type 0
IsUnused known k d =
    (log : Log) → known ≡ Some log → (c : Folder) → Leaves log c → c (Draft k d) ≡ None

-- a file shows what is read under its name; of a draft it may show anything
abbrev pub Shows : Name → Option (List ℕ) → Option (List ℕ) → Type 0
Shows (Draft k d) content bytes = Unit {0}
Shows (Block s) content bytes = content ≡ bytes
Shows (Index s) content bytes = content ≡ bytes
Shows (Parked s) content bytes = content ≡ bytes
