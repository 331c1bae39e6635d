-- The history that a spool represents.
use Rattle.std.specs.Prelude.{◌≡◌, ◌<◌, ◌≤◌, ℕ, List, [], ◌∷◌, ◌++◌, length, drop, map, Option, None, Some, ⊤}
use Rattle.st_disk.specs.Folders.{Folder}
use Rattle.st_disk.specs.Disks.{Log, reads}
use Rattle.st_disk.specs.Runs.{Each}
use Rattle.st_disk.specs.Pairs.{Entry, Files, IsFileSet, PairsIn}
use Rattle.st_disk.specs.Events.{Event, Found, Publish, Remove, events}
use Rattle.st_spool.specs.Rows.{Has, Either}
use Rattle.st_spool.specs.History.{set_of, entries_of, Legal}
use Rattle.st_spool.specs.Settling.{entry}
use Rattle.st_spool.specs.States.{SpoolState, rows_by, read_rows, MayBe, AreUpTo, IsWithin, AreWithin}
use Rattle.st_spool.specs.Recalling.{history, event_count}
use Rattle.st_spool.specs.declared.state.Doubt.{Doubt}
use Rattle.st_spool.specs.declared.state.Doubt.TheVariants.{Nothing, Unsettled, Settled, Unhidden, Hidden}

-- the stamp of a pair
abbrev pub stamp_of : Entry → ℕ
stamp_of e = e.stamp

-- the event of the call that failed, if one did, whether it is in doubt or not: the publication of
-- a pair with these files, or the removal of its stamp
abbrev pub failed_event : Doubt → Files → List Event
failed_event Nothing f = []
failed_event (Unsettled t) f = Publish (entry t f) ∷ []
failed_event (Settled t) f = Publish (entry t f) ∷ []
failed_event (Unhidden t) f = Remove t ∷ []
failed_event (Hidden t) f = Remove t ∷ []

-- the event in doubt, which a crash may leave or not: that of the failed call, if that call settled
-- the block or hid the index
abbrev pub in_doubt : Doubt → Files → List Event
in_doubt Nothing f = []
in_doubt (Unsettled t) f = []
in_doubt (Settled t) f = Publish (entry t f) ∷ []
in_doubt (Unhidden t) f = []
in_doubt (Hidden t) f = Remove t ∷ []

-- the events of a history after its first one, which is what was found at the opening
abbrev pub after_found : List Event → List Event
after_found [] = []
after_found (e ∷ h) = h

-- each pair that is published is whole
abbrev pub PublishWhole : (List ℕ → List ℕ → Type 0) → List Event → Type 0
PublishWhole IsWhole [] = ⊤
PublishWhole IsWhole (Found es ∷ h) = PublishWhole IsWhole h
PublishWhole IsWhole (Publish e ∷ h) = IsWhole e.block e.index × PublishWhole IsWhole h
PublishWhole IsWhole (Remove s ∷ h) = PublishWhole IsWhole h

-- a folder has the pairs of a history, or of the history with a further event, if there is one
abbrev pub Gives : List Event → List Event → Folder → Type 0
Gives h [] c = PairsIn c (set_of h)
Gives h (e ∷ es) c = Either (set_of h) (set_of (h ++ e ∷ [])) c

-- until a call fails nothing is in doubt and no failed call is counted; from then on some are
abbrev pub NoDoubtUntilHalted : Option ℕ → Doubt → ℕ → Type 0
NoDoubtUntilHalted None doubt halts = (doubt ≡ Nothing) × (halts ≡ 0)
NoDoubtUntilHalted (Some since) doubt halts = 0 < halts

-- what is so of the shelf of such a spool, with its log
pub record OnDisk (IsWhole : List ℕ → List ℕ → Type 0) (log : Log) (st : SpoolState)
    (earlier h : List Event) (f : Files) : Type 0 where
  -- under the names of each stamp each image has what the state allows
  pub images : Each log (Has (rows_by st f (entries_of h)))
  -- the shelf's events are those before the opening, those of the history since, and the one in
  -- doubt, if there is one
  pub past : events log ≡ earlier ++ (after_found h ++ in_doubt st.doubt f)
  -- the pairs that were published are whole, and so is that of a publication that failed
  pub whole : PublishWhole IsWhole (h ++ failed_event st.doubt f)
  -- the history is the one that the state and the log tell
  pub recalls : history st log ≡ h
  -- what is read under the names of each stamp, also under those of the failed call's pair
  pub read : Has (read_rows st f (entries_of h)) (reads log)

-- A spool with this state, over a shelf with this log if it is known, represents the history h.
-- The events before its opening are `earlier`, and `f` has the files of the failed call's pair.
pub record StandsFor (IsWhole : List ℕ → List ℕ → Type 0) (known : Option Log) (st : SpoolState)
    (earlier h : List Event) (f : Files) : Type 0 where
  -- this is a history, and so it is with the failed call's event after it
  pub legal : Legal st.limit h
  pub more : Legal st.limit (h ++ failed_event st.doubt f)
  -- what is kept of the history
  pub stamps : map stamp_of (entries_of h) ≡ st.stamps
  pub set : set_of h ≡ drop st.removed (entries_of h)
  pub within : st.removed ≤ length (entries_of h)
  pub rises : IsFileSet (entries_of h)
  pub last : AreUpTo st.last (entries_of h)
  pub found : st.found ≤ length st.stamps
  pub counts : length (after_found h) ≡ event_count st
  -- the held sets, and the one that was asked for last
  pub holds : AreWithin (length (entries_of h)) st.holds
  pub asked : IsWithin (length (entries_of h)) st.asked
  -- the call that failed
  pub no_doubt : NoDoubtUntilHalted st.halted st.doubt st.halts
  pub doubt : MayBe st.doubt f st.removed st.last (entries_of h)
  -- the shelf
  pub disk : (log : Log) → known ≡ Some log → OnDisk IsWhole log st earlier h f

-- A spool represents some history. If the log is known, this is the one that the state and the log
-- tell (`history`).
abbrev pub Stands : (List ℕ → List ℕ → Type 0) → Option Log → SpoolState → Type 0
Stands IsWhole known st =
    (earlier : List Event) × (h : List Event) × (f : Files) × StandsFor IsWhole known st earlier h f
