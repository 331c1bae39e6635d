-- What crashes leave over a whole run of calls, through which the history goes on.
use Rattle.std.specs.Prelude.{◌≡◌, ◌≤◌, ℕ, List, [], ◌∷◌, ◌++◌, length, take, Option, Some}
use Rattle.st_disk.specs.Folders.{Folder}
use Rattle.st_disk.specs.Disks.{Log, reads}
use Rattle.st_disk.specs.Runs.{Each, LeavesOnly}
use Rattle.st_disk.specs.Pairs.{Entry, PairsIn}
use Rattle.st_disk.specs.Events.{Event, Found}
use Rattle.st_spool.specs.History.{set_of}
use Rattle.st_spool.specs.Standing.{Gives}
use Rattle.st_spool.specs.Publishing.{RanTo, RanInDoubt, RanAsBefore}
use Rattle.st_spool.specs.Entering.{Clears, Is, pairs_alone, flushed_log}

-- Since the first log, which had the history h, these events came one after the other. Until the
-- call of the next event begins each crash leaves the set of the history so far; during that call
-- it leaves that set or the one with the event, and after it the set with the event.
abbrev pub Covers : List Event → List Event → Log → Log → Type 0
Covers h [] first now = LeavesOnly first now (Gives h [])
Covers h (e ∷ es) first now =
    (begins : Log) × (done : Log) × LeavesOnly first begins (Gives h [])
    × LeavesOnly begins done (Gives h (e ∷ [])) × Covers (h ++ e ∷ []) es done now

-- These events came one after the other until some log. Since then each crash leaves the set of the
-- history with them, or, if an event is in doubt, that set or the one with this event too.
pub record CoversInDoubt (h es doubt : List Event) (first now : Log) : Type 0 where
  pub sure : Log
  pub covers : Covers h es first sure
  pub since : LeavesOnly sure now (Gives (h ++ es) doubt)

-- a folder has the pairs of a history with the first of these events: none, some or all
abbrev pub HasSome : List Event → List Event → Folder → Type 0
HasSome h es c = (k : ℕ) × (k ≤ length es) × PairsIn c (set_of (h ++ take k es))

-- at every moment of such a run a crash leaves the pairs of the history with the first of its
-- events, none, some or all; a crash now leaves the pairs of the history with all of them
abbrev pub CoversAll : Type 0
CoversAll =
    (h es : List Event) (first now : Log) → Covers h es first now
    → LeavesOnly first now (HasSome h es) × Each now (Gives (h ++ es) [])

-- such a run begins in an opening, as soon as it flushed both folders
abbrev pub CoversOpening : Type 0
CoversOpening =
    (pairs : List Entry) (first now : Log) (known : Option Log) → PairsIn (reads first) pairs
    → Clears first known (Is (pairs_alone (reads first))) → known ≡ Some now
    → Covers (Found pairs ∷ []) [] (flushed_log first) now

-- a run followed by a publication or a removal that succeeds is a run with one event more
abbrev pub CoversOn : Type 0
CoversOn =
    (h es : List Event) (e : Event) (first mid now : Log) (known : Option Log)
    → Covers h es first mid → RanTo mid known (h ++ es) e → known ≡ Some now
    → Covers h (es ++ e ∷ []) first now

-- a run followed by calls without an event is a run with the same events
abbrev pub CoversStill : Type 0
CoversStill =
    (h es : List Event) (first mid now : Log) (known : Option Log)
    → Covers h es first mid → RanAsBefore mid known (h ++ es) [] → known ≡ Some now
    → Covers h es first now

-- after a publication or a removal that failed its event may be in doubt
abbrev pub CoversFault : Type 0
CoversFault =
    (h es doubt : List Event) (first mid now : Log) (known : Option Log)
    → Covers h es first mid → RanInDoubt mid known (h ++ es) doubt → known ≡ Some now
    → CoversInDoubt h es doubt first now

-- calls without an event leave the event in doubt as it was
abbrev pub CoversDoubt : Type 0
CoversDoubt =
    (h es doubt : List Event) (first mid now : Log) (known : Option Log)
    → CoversInDoubt h es doubt first mid → RanAsBefore mid known (h ++ es) doubt → known ≡ Some now
    → CoversInDoubt h es doubt first now

-- a run that is covered with no event in doubt is covered with any event in doubt
abbrev pub CoversMore : Type 0
CoversMore =
    (h es doubt : List Event) (first now : Log) → Covers h es first now
    → CoversInDoubt h es doubt first now

-- if nothing is in doubt the run is covered by its events
abbrev pub CoversWithoutDoubt : Type 0
CoversWithoutDoubt =
    (h es : List Event) (first now : Log) → CoversInDoubt h es [] first now
    → Covers h es first now
