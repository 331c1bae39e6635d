-- A spool as the rule of turns reads it, and what a later state of it keeps of an earlier one.
use Rattle.std.specs.Prelude.{◌≡◌, ◌≤◌, ◌+◌, ◌++◌, ℕ, List, [], ◌∷◌, Option, Some, None, replicate, max}
use Rattle.st_disk.specs.Disks.{Log}
use Rattle.st_disk.specs.LoggedCalls.{KnownBefore}
use Rattle.st_disk.specs.Events.{Event, Found, Publish, Remove, events}
use Rattle.st_spool.specs.declared.state.Span.{Span}
use Rattle.st_spool.specs.States.{SpoolState, SpoolView}
use Rattle.st_spool.specs.Recalling.{history, history_of, earlier, event_count}
use Rattle.st_spool.specs.Standing.{after_found}
use Rattle.st_spool.specs.Covers.{CoversInDoubt}
use Rattle.st_turn.specs.Parts.{Facts, IsPrefix}

-- a history; where the shelf's log is not known, nothing but its number of events
abbrev pub told_history : Option (List Event) → ℕ → List Event
told_history None n = replicate n (Found [])
told_history (Some h) n = h

-- the greatest of a number and of the stamps that a history published
abbrev pub top_stamp : ℕ → List Event → ℕ
top_stamp n [] = n
top_stamp n (Found es ∷ h) = top_stamp n h
top_stamp n (Publish e ∷ h) = top_stamp (max n e.stamp) h
top_stamp n (Remove s ∷ h) = top_stamp n h

-- a log that was known is known after some calls
abbrev pub StaysKnown : Option Log → Option Log → Type 0
StaysKnown old new = (log : Log) → old ≡ Some log → (now : Log) × (new ≡ Some now)

-- What two states of a spool, b and later x, and their logs say of what lies between them. The same
-- events came before the opening, and the history of x begins with that of b. At every moment
-- between them a crash leaves the pairs of the history so far or, on the way to the next event,
-- these or the set with that event. Once a publication or an ageing failed, the next event is that
-- of the call that failed, and a crash leaves the set with it only if the shelf settled its block
-- or hid its index.
pub record KeepsImages (b x : SpoolState) (first now : Log) : Type 0 where
  pub earlier_is : earlier x now ≡ earlier b first
  pub more : List Event
  pub history_is : history x now ≡ history b first ++ more
  pub last_is : x.last ≡ top_stamp b.last (history x now)
  -- the event in doubt, if the shelf's log has one
  pub doubt : List Event
  pub past : events now ≡ earlier x now ++ (after_found (history x now) ++ doubt)
  pub no_doubt : x.halted ≡ None → doubt ≡ []
  -- the crashes, if no publication or ageing had failed at b
  pub covers : b.halted ≡ None → CoversInDoubt (history b first) more doubt first now

module _ {D : Type 0} (log : D → Option Log) (faults home : D → ℕ) where
  -- what a turn reads off a spool
  abbrev pub facts_of : SpoolView D → Facts Event Span
  facts_of s = record {
    history = told_history (history_of log s) (event_count s.state + 1);
    holds = s.state.holds;
    faults = faults s.shelf;
    halts = s.state.halts;
  }

  -- The later spool has the same shelf and limit; its shelf's count never falls, and its history
  -- begins with that of the earlier one. The log of its shelf is known if and only if that of the
  -- earlier one was, whose calls it begins with: so up to then the images of both are the same.
  pub record KeepsOf (b x : SpoolView D) : Type 0 where
    pub shelf : home x.shelf ≡ home b.shelf
    pub limit : x.state.limit ≡ b.state.limit
    pub later : faults b.shelf ≤ faults x.shelf
    pub history : IsPrefix (facts_of b).history (facts_of x).history
    pub known : KnownBefore (log b.shelf) (log x.shelf)
    pub still_known : StaysKnown (log b.shelf) (log x.shelf)
    -- where the log is known
    pub images : (first now : Log) → log b.shelf ≡ Some first → log x.shelf ≡ Some now
        → KeepsImages b.state x.state first now
