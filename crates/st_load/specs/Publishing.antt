-- What removing the oldest pairs and publishing a new one make of a spool.
use Rattle.std.specs.Prelude.{◌≡◌, ◌<◌, ◌-◌, ◌^◌, ◌⊎◌, ℕ, List, [], ◌∷◌, ◌++◌, take, Option, Result, Ok, Err}
use Rattle.std.specs.Io.KnownBytes.{Appends}
use Rattle.st_base.specs.Records.{Rec}
use Rattle.st_disk.specs.Disks.{Log}
use Rattle.st_disk.specs.Events.{Event}
use Rattle.st_disk.specs.Pairs.{Files}
use Rattle.st_pairs.specs.Pairs.{IsWholePair}
use Rattle.st_spool.specs.History.{set_of}
use Rattle.st_spool.specs.Publishing.{FailsToPublish, Fails, Keeps}
use Rattle.st_spool.specs.Standing.{StandsFor, failed_event, in_doubt}
use Rattle.st_spool.specs.States.{SpoolState}
use Rattle.st_load.specs.Acts.{Act, line_text, events_of, lines_of, removals, newest}
use Rattle.st_load.specs.Job.{Situation, Adds, AddsAll}
use Rattle.st_load.specs.Loading.{Covered, Loads, situation}
use Rattle.st_load.specs.declared.ends.LoadEnd.{LoadEnd}
use Rattle.st_load.specs.declared.ends.LoadEnd.TheVariants as end

-- Of the removals that a history asks for these happened, in order; the others are to come. If one
-- is in doubt, it is the next.
pub record Ages (before known : Option Log) (st : SpoolState) (earlier h : List Event)
    : Type 0 where
  pub events : List Event
  pub to_come : List Event
  pub are : removals st.limit (set_of h) ≡ events ++ to_come
  pub f : Files
  pub stands : StandsFor IsWholePair known st earlier (h ++ events) f
  pub later : List Event
  pub doubt : to_come ≡ failed_event st.doubt f ++ later
  pub images : Covered before known h events (in_doubt st.doubt f)

-- all removals that a history asks for happened, in order, and the newest pairs are left
pub record AgesAll (before known : Option Log) (st : SpoolState) (earlier h : List Event)
    (f : Files) : Type 0 where
  pub stands : StandsFor IsWholePair known st earlier (h ++ removals st.limit (set_of h)) f
  pub set : set_of (h ++ removals st.limit (set_of h)) ≡ newest st.limit (set_of h)
  pub images : Covered before known h (removals st.limit (set_of h)) []

-- a pair with these files was not published: the shelf failed, or no stamp was left
abbrev pub IsUnpublished :
    Option Log → Option Log → SpoolState → List Event → List Event → Files → Files → LoadEnd
    → Type 0
IsUnpublished old new st earlier h p f end.Done = ⊥
IsUnpublished old new st earlier h p f (end.BadInput e) = ⊥
IsUnpublished old new st earlier h p f (end.TooLong number len) = ⊥
IsUnpublished old new st earlier h p f end.ReadFault = ⊥
IsUnpublished old new st earlier h p f end.WriteFault = ⊥
IsUnpublished old new st earlier h p f end.DiskFault = Fails IsWholePair old new st earlier h p
IsUnpublished old new st earlier h p f (end.StampsSpent last) =
    Keeps IsWholePair old new st earlier h f
IsUnpublished old new st earlier h p f end.NoMemory = ⊥

-- the spool's state after a pair was not published under this stamp, `since` being the shelf's
-- count of faults then
abbrev pub IsUnpublishedState : SpoolState → SpoolState → ℕ → ℕ → LoadEnd → Type 0
IsUnpublishedState old new stamp since end.Done = ⊥
IsUnpublishedState old new stamp since (end.BadInput e) = ⊥
IsUnpublishedState old new stamp since (end.TooLong number len) = ⊥
IsUnpublishedState old new stamp since end.ReadFault = ⊥
IsUnpublishedState old new stamp since end.WriteFault = ⊥
IsUnpublishedState old new stamp since end.DiskFault =
    (old.last < 2 ^ 64 - 1) × FailsToPublish old new stamp since
IsUnpublishedState old new stamp since (end.StampsSpent last) =
    (new ≡ old) × (old.last ≡ 2 ^ 64 - 1) × (last ≡ old.last)
IsUnpublishedState old new stamp since end.NoMemory = ⊥

-- a line was written, or a prefix of it, or nothing as memory ran out
abbrev pub WritesLine : ℕ → ℕ → Option (List ℕ) → Option (List ℕ) → Result (Unit {0}) LoadEnd
    → Type 0
WritesLine stamp packets old new (Ok u) = Appends old new (line_text stamp packets)
WritesLine stamp packets old new (Err e) =
    ((e ≡ end.NoMemory) × (new ≡ old))
    ⊎ ((e ≡ end.WriteFault)
    × ((n : ℕ) × Appends old new (take n (line_text stamp packets))))

-- the pairs that were added for these packets, by how finishing them failed: none, or one; none if
-- no stamp was left
abbrev pub AreAdded : List Rec → LoadEnd → List (List Rec) → Type 0
AreAdded rs end.Done pairs = ⊥
AreAdded rs (end.BadInput e) pairs = ⊥
AreAdded rs (end.TooLong number len) pairs = ⊥
AreAdded rs end.ReadFault pairs = ⊥
AreAdded rs end.WriteFault pairs = (pairs ≡ []) ⊎ (pairs ≡ rs ∷ [])
AreAdded rs end.DiskFault pairs = (pairs ≡ []) ⊎ (pairs ≡ rs ∷ [])
AreAdded rs (end.StampsSpent last) pairs = pairs ≡ []
AreAdded rs end.NoMemory pairs = (pairs ≡ []) ⊎ (pairs ≡ rs ∷ [])

-- All was done for the pair of these packets, over a spool that stood for the history h: it was
-- published, its line was written, and the oldest pairs were removed.
pub record AddsPair (limit size : ℕ) (start : Situation) (rs : List Rec) (before known : Option Log)
    (st : SpoolState) (earlier h : List Event) (f : Files) (times : Option (List ℕ))
    (old new : Option (List ℕ)) : Type 0 where
  pub acts : List Act
  pub adds : Adds limit size start (situation (h ++ events_of acts) st times) rs acts
  pub stands : StandsFor IsWholePair known st earlier (h ++ events_of acts) f
  pub lines : Appends old new (lines_of acts)
  pub images : Covered before known h (events_of acts) []

-- all was done for the pair of these packets; or, after an error, only the first acts
abbrev pub Finishes :
    ℕ → ℕ → Situation → List Rec → Option Log → Option Log → SpoolState → List Event → List Event
    → Files → Option (List ℕ) → Option (List ℕ) → Option (List ℕ) → Result (Unit {0}) LoadEnd
    → Type 0
Finishes limit size start rs before known st earlier h f times old new (Ok u) =
    AddsPair limit size start rs before known st earlier h f times old new
Finishes limit size start rs before known st earlier h f times old new (Err e) =
    Loads (AddsAll limit size start) (AreAdded rs e) e before known st earlier h times old new

-- the spool's limit and its holds stayed as they were
abbrev pub KeepsLimitAndHolds : SpoolState → SpoolState → Type 0
KeepsLimitAndHolds old new = (new.limit ≡ old.limit) × (new.holds ≡ old.holds)
