-- The log of a shelf, what is read after it, and what a crash may leave.
use Rattle.std.specs.Prelude.{◌≡◌, ◌≤◌, ◌⊎◌, ℕ, List, [], ◌∷◌, ◌++◌, length, take, cond}
use Rattle.st_disk.specs.declared.naming.Kind.{Kind}
use Rattle.st_disk.specs.declared.naming.Kind.TheVariants as kind
use Rattle.st_disk.specs.declared.changes.Change.{Change}
use Rattle.st_disk.specs.declared.changes.Call.{Call}
use Rattle.st_disk.specs.declared.changes.Call.TheVariants.{Did, Flush, Other}
use Rattle.st_disk.specs.declared.changes.Update.{Update}
use Rattle.st_disk.specs.Names.{same_kind, by_kind}
use Rattle.st_disk.specs.Folders.{Folder, apply, apply_all, change_kind, join, folder_of}

-- what stood in each folder as the shelf was made, and what each call did since
pub record Log : Type 0 where
  pub start_blocks : List Update
  pub start_indexes : List Update
  pub calls : List Call

-- a log by its parts
abbrev pub log_of : List Update → List Update → List Call → Log
log_of blocks indexes calls =
    record { start_blocks = blocks; start_indexes = indexes; calls = calls }

-- one folder on the disk: as last flushed, and the changes since
pub record Side : Type 0 where
  pub flushed : Folder
  pub later : List Change

-- one call, as the folder of this kind sees it
abbrev pub step : Kind → Side → Call → Side
step k side (Did c) =
    cond (same_kind (change_kind c) k)
    (record { flushed = side.flushed; later = side.later ++ c ∷ [] }) side
step k side (Flush j) =
    cond (same_kind j k) (record { flushed = apply_all side.later side.flushed; later = [] }) side
step k side Other = side

abbrev pub after : Kind → Side → List Call → Side
after k side [] = side
after k side (c ∷ cs) = after k (step k side c) cs

abbrev pub flushed_side : Folder → Side
flushed_side f = record { flushed = f; later = [] }

-- a folder of the shelf, after all calls
unfoldable pub side : Kind → Log → Side
side k log =
    after k (flushed_side (folder_of (by_kind k log.start_blocks log.start_indexes))) log.calls

-- what is read of one folder: all its changes are made
abbrev pub read_of : Side → Folder
read_of side = apply_all side.later side.flushed

-- what is read
unfoldable pub reads : Log → Folder
reads log = join (read_of (side kind.Block log)) (read_of (side kind.Index log))

-- the second folder is the first with some of the changes, in order
abbrev pub SomeOf : List Change → Folder → Folder → Type 0
SomeOf [] f g = g ≡ f
SomeOf (c ∷ cs) f g = SomeOf cs f g ⊎ SomeOf cs (apply c f) g

-- a crash now may leave this: each folder as flushed, with some of its later changes
unfoldable pub Leaves : Log → Folder → Type 0
Leaves log c =
    (b : Folder) × (i : Folder) × SomeOf (side kind.Block log).later (side kind.Block log).flushed b
    × SomeOf (side kind.Index log).later (side kind.Index log).flushed i × (c ≡ join b i)

abbrev pub and_then : Log → Call → Log
and_then log call =
    record {
      start_blocks = log.start_blocks;
      start_indexes = log.start_indexes;
      calls = log.calls ++ call ∷ [];
    }

-- a moment is a number of calls
abbrev pub moment : Log → ℕ
moment log = length log.calls

abbrev pub at_moment : ℕ → Log → Log
at_moment k log =
    record {
      start_blocks = log.start_blocks;
      start_indexes = log.start_indexes;
      calls = take k log.calls;
    }

-- a crash at some moment from t on might have left this
abbrev pub Since : Log → ℕ → Folder → Type 0
Since log t c = (k : ℕ) × (t ≤ k) × (k ≤ moment log) × Leaves (at_moment k log) c

-- The second log is the first with calls more. At the moments of the first both are one.
pub record Grew (old new : Log) : Type 0 where
  pub blocks : new.start_blocks ≡ old.start_blocks
  pub indexes : new.start_indexes ≡ old.start_indexes
  pub more : List Call
  pub calls : new.calls ≡ old.calls ++ more
