-- What an opening makes of a shelf.
use Rattle.std.specs.Prelude.{◌≡◌, ◌<◌, ◌≤◌, ◌⊎◌, ◌↔◌, ℕ, List, [], ◌∷◌, length, Option, None, Some, IsSome, Contains, AllPairs, ⊤}
use Rattle.st_disk.specs.declared.naming.Kind.TheVariants as kind
use Rattle.st_disk.specs.declared.naming.Name.{Name}
use Rattle.st_disk.specs.declared.naming.Name.TheVariants.{Block, Index, Parked, Draft}
use Rattle.st_disk.specs.declared.changes.Call.TheVariants.{Flush}
use Rattle.st_disk.specs.Names.{number_of}
use Rattle.st_disk.specs.Folders.{Folder}
use Rattle.st_disk.specs.Disks.{Log, reads, Leaves, and_then}
use Rattle.st_disk.specs.LoggedCalls.{Looks, Reads}
use Rattle.st_disk.specs.Runs.{Ran}
use Rattle.st_disk.specs.Pairs.{Entry, Files, PairsIn, both}
use Rattle.st_disk.specs.Events.{Found, events}
use Rattle.st_spool.specs.Rows.{Row, Past, Lone, Both}
use Rattle.st_spool.specs.States.{SpoolState}
use Rattle.st_spool.specs.Standing.{StandsFor}
use Rattle.st_spool.specs.declared.state.Doubt.TheVariants as doubt

-- the second file if the first is there, and no file otherwise
abbrev pub beside : Option (List ℕ) → Option (List ℕ) → Option (List ℕ)
beside None own = None
beside (Some other) own = own

-- a folder without its drafts, parked indexes and halves of pairs
abbrev pub pairs_alone : Folder → Folder
pairs_alone f (Block s) = beside (f (Index s)) (f (Block s))
pairs_alone f (Index s) = beside (f (Block s)) (f (Index s))
pairs_alone f (Parked s) = None
pairs_alone f (Draft k d) = None

-- both folders have the same files
abbrev pub Is : Folder → Folder → Type 0
Is f c = (n : Name) → c n ≡ f n

-- both folders have the same pairs
abbrev pub SamePairs : Folder → Folder → Type 0
SamePairs f c = (s : ℕ) → both (c (Block s)) (c (Index s)) ≡ both (f (Block s)) (f (Index s))

-- the row of a block and an index that were found: a pair keeps both files, and of any other file
-- nothing is said
abbrev pub found_row : Option (List ℕ) → Option (List ℕ) → Row
found_row None index = Lone
found_row (Some block) None = Past
found_row (Some block) (Some index) = Both (record { block = block; index = index })

-- the row of each stamp, by the files that were found
abbrev pub found_rows : Folder → ℕ → Row
found_rows f s = found_row (f (Block s)) (f (Index s))

-- the name is that of one file of a pair, and the other one is among these names
abbrev pub IsPart : (Name → Type 0) → Name → Type 0
IsPart P (Block s) = P (Index s)
IsPart P (Index s) = P (Block s)
IsPart P (Parked s) = ⊥
IsPart P (Draft k d) = ⊥

-- these are the names of all files that are there, and no others
abbrev pub AreThere : List Name → Folder → Type 0
AreThere names f = (n : Name) → Contains names n ↔ IsSome (f n)

-- these are, in order, the stamps for whose block and index P holds
pub record ArePaired (P : Name → Type 0) (stamps : List ℕ) : Type 0 where
  pub rises : AllPairs (λ s t. s < t) stamps
  pub each : (s : ℕ) → Contains stamps s → P (Block s) × P (Index s)
  pub all : (s : ℕ) → P (Block s) → P (Index s) → Contains stamps s

-- the name has a stamp
abbrev pub IsStamped : Name → Type 0
IsStamped (Block s) = ⊤
IsStamped (Index s) = ⊤
IsStamped (Parked s) = ⊤
IsStamped (Draft k d) = ⊥

-- the greatest stamp of the names for which P holds, or 0 if there is none
pub record IsLastStamp (P : Name → Type 0) (last : ℕ) : Type 0 where
  pub above : (n : Name) → IsStamped n → P n → number_of n ≤ last
  pub some : (last ≡ 0) ⊎ ((n : Name) × IsStamped n × P n × (number_of n ≡ last))

-- after a clearing the pairs that were read before are read, and nothing else
abbrev pub ReadsCleared : Option Log → Option Log → List Name → Type 0
ReadsCleared old new names =
    (f : Folder) → AreThere names f → ((n : Name) → Reads old n (λ v. v ≡ f n)) → (n : Name)
    → Reads new n (λ v. v ≡ pairs_alone f n)

-- the log with both folders flushed
abbrev pub flushed_log : Log → Log
flushed_log log = and_then (and_then log (Flush kind.Block)) (Flush kind.Index)

-- Until both folders were flushed each crash leaves what it might have left at first, and from then
-- on the pairs that are read; a crash now leaves a folder with Q. No event happened.
pub record Clears (first : Log) (known : Option Log) (Q : Folder → Type 0) : Type 0 where
  pub flushed : Ran first (Some (flushed_log first)) [] (Leaves first) (Is (reads first))
  pub cleared : Ran (flushed_log first) known [] (SamePairs (reads first)) Q

-- One of the two flushes failed, and no other call was made: the block folder was not flushed, or
-- the index folder after it. Each crash leaves what it might have left at first.
pub record FailsToFlush (first : Log) (known : Option Log) : Type 0 where
  pub calls : Looks (Some first) known ⊎ Looks (Some (and_then first (Flush kind.Block))) known
  pub images : Ran first known [] (Leaves first) (Leaves first)

-- an opening that failed, at one of the two flushes or after both
abbrev pub FailsToEnter : Log → Option Log → Type 0
FailsToEnter first known =
    FailsToFlush first known ⊎ Clears first known (SamePairs (reads first))

-- an opening found pairs with these stamps and this greatest stamp of all files, and cleared the
-- folders of all other files
pub record Opens (first : Log) (known : Option Log) (stamps : List ℕ) (last : ℕ) : Type 0 where
  pub paired : ArePaired (λ n. IsSome (reads first n)) stamps
  pub greatest : IsLastStamp (λ n. IsSome (reads first n)) last
  pub images : Clears first known (Is (pairs_alone (reads first)))

-- the state of a spool just after its opening
abbrev pub opened : ℕ → List ℕ → ℕ → SpoolState
opened limit stamps last = record {
  limit = limit;
  stamps = stamps;
  found = length stamps;
  removed = 0;
  swept = 0;
  last = last;
  holds = [];
  doubt = doubt.Nothing;
  halted = None;
  halts = 0;
  asks = 0;
  asked = record { from = 0; to = length stamps };
}

-- An opening that succeeded: the spool represents the history that found the pairs that were read.
-- A crash now leaves these, and no draft, parked index or half of a pair.
pub record Enters (IsWhole : List ℕ → List ℕ → Type 0) (first : Log) (known : Option Log)
    (st : SpoolState) : Type 0 where
  pub pairs : List Entry
  pub found : PairsIn (reads first) pairs
  pub stands : (f : Files) → StandsFor IsWhole known st (events first) (Found pairs ∷ []) f
  pub last : IsLastStamp (λ n. IsSome (reads first n)) st.last
  pub images : Clears first known (Is (pairs_alone (reads first)))
