-- What is so of every history of a spool.
use Rattle.std.specs.Prelude.{◌≡◌, ℕ, List, [], ◌∷◌, ◌++◌, length, take, Option, Some, option_map}
use Rattle.st_disk.specs.Disks.{Log}
use Rattle.st_disk.specs.Pairs.{Entry, Files}
use Rattle.st_disk.specs.Events.{Event, Publish, Remove}
use Rattle.st_spool.specs.History.{entries_of}
use Rattle.st_spool.specs.States.{SpoolState, IsWithin, held}
use Rattle.st_spool.specs.Recalling.{history, taken_count}
use Rattle.st_spool.specs.Standing.{StandsFor}
use Rattle.st_spool.specs.Publishing.{Publishes, Fails, Keeps}
use Rattle.st_spool.specs.Aging.{Removes}
use Rattle.st_spool.specs.Holding.{with_hold}
use Rattle.st_spool.specs.declared.state.Span.{Span}

-- neither a publication nor a removal changes the file set of a hold
abbrev pub HoldsStay : Type 0
HoldsStay =
    ((hold : Span) (h : List Event) (e : Entry) → IsWithin (length (entries_of h)) hold
    → held hold (h ++ Publish e ∷ []) ≡ held hold h)
    × ((hold : Span) (h : List Event) (s : ℕ) → held hold (h ++ Remove s ∷ []) ≡ held hold h)

-- just after a hold the history that the last hold took is the whole history
abbrev pub TakesAll : Type 0
TakesAll =
    (st : SpoolState) (log : Log)
    → take (taken_count (with_hold st)) (history (with_hold st) log) ≡ history st log

module _ (IsWhole : List ℕ → List ℕ → Type 0) where
  -- a spool whose log is known represents one history only: the one that state and log tell
  abbrev pub OneHistory : Type 0
  OneHistory =
      (known : Option Log) (log : Log) (st : SpoolState) (earlier h : List Event) (f : Files)
      → StandsFor IsWhole known st earlier h f → known ≡ Some log → history st log ≡ h

  -- a call without an event leaves the history
  abbrev pub HistoryStays : Type 0
  HistoryStays =
      (old new : Option Log) (st next : SpoolState) (earlier h : List Event) (f g : Files)
      → StandsFor IsWhole old st earlier h f → Keeps IsWhole old new next earlier h g
      → option_map (history next) new ≡ option_map (history st) old

  -- so does a publication or a removal that failed
  abbrev pub FailedStays : Type 0
  FailedStays =
      (old new : Option Log) (st next : SpoolState) (earlier h : List Event) (f g : Files)
      → StandsFor IsWhole old st earlier h f → Fails IsWhole old new next earlier h g
      → option_map (history next) new ≡ option_map (history st) old

  -- a publication that succeeds adds its event to the history
  abbrev pub PublishedGoesOn : Type 0
  PublishedGoesOn =
      (old new : Option Log) (st next : SpoolState) (earlier h : List Event) (e : Entry)
      (f g : Files)
      → StandsFor IsWhole old st earlier h f → Publishes IsWhole old new next earlier h e g
      → option_map (history next) new
      ≡ option_map (λ past. past ++ Publish e ∷ []) (option_map (history st) old)

  -- a removal that succeeds adds its event to the history
  abbrev pub RemovedGoesOn : Type 0
  RemovedGoesOn =
      (old new : Option Log) (st next : SpoolState) (earlier h : List Event) (e : Entry)
      (f g : Files)
      → StandsFor IsWhole old st earlier h f → Removes IsWhole old new next earlier h e g
      → option_map (history next) new
      ≡ option_map (λ past. past ++ Remove e.stamp ∷ []) (option_map (history st) old)
