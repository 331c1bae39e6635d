-- What an ageing makes of a spool.
use Rattle.std.specs.Prelude.{◌≡◌, ◌<◌, ◌+◌, ◌-◌, ◌⊎◌, ℕ, List, [], ◌∷◌, ◌++◌, length, slice_index, Option, None, Some, Bool, true, false, Result, Ok, Err}
use Rattle.st_disk.specs.Disks.{Log}
use Rattle.st_disk.specs.LoggedCalls.{KnownBefore}
use Rattle.st_disk.specs.Pairs.{Entry, Files, files_of}
use Rattle.st_disk.specs.Events.{Event, Remove}
use Rattle.st_spool.specs.States.{SpoolState}
use Rattle.st_spool.specs.Standing.{StandsFor}
use Rattle.st_spool.specs.Settling.{FailsToHide}
use Rattle.st_spool.specs.Publishing.{failed, RanTo, Fails}
use Rattle.st_spool.specs.declared.state.Doubt.{Doubt}
use Rattle.st_spool.specs.declared.state.Doubt.TheVariants.{Nothing, Unsettled, Settled, Unhidden, Hidden}
use Rattle.st_spool.specs.declared.settling.Stopped.TheVariants.{Before, After}
use Rattle.st_spool.specs.declared.refusals.AgeErr.{AgeErr}
use Rattle.st_spool.specs.declared.refusals.AgeErr.TheVariants.{DiskFault, Halted}

-- how many pairs are published
abbrev pub pair_count : SpoolState → ℕ
pair_count st = length st.stamps - st.removed

-- the stamp of the oldest pair
abbrev pub oldest : SpoolState → ℕ
oldest st = slice_index st.stamps st.removed

-- no call has failed, and more pairs are published than the limit
abbrev pub MayAge : SpoolState → Type 0
MayAge st = (st.halted ≡ None) × (st.limit < pair_count st)

-- the state after a removal and a sweep: of the pairs before this place no file is left
abbrev pub aged : SpoolState → ℕ → SpoolState
aged st to = record st { removed = st.removed + 1; swept = to }

-- A removal that succeeded: the spool represents the history with the removal. Each crash
-- in the call leaves the pairs before or those after, and a crash now leaves those after.
pub record Removes (IsWhole : List ℕ → List ℕ → Type 0) (old new : Option Log) (st : SpoolState)
    (earlier h : List Event) (e : Entry) (f : Files) : Type 0 where
  pub known : KnownBefore old new
  pub stands : StandsFor IsWhole new st earlier (h ++ Remove e.stamp ∷ []) f
  pub images : (first : Log) → old ≡ Some first → RanTo first new h (Remove e.stamp)

-- the calls that an ageing made before it was stopped, by the doubt that it left
abbrev pub StoppedBy : Option Log → Option Log → Doubt → Type 0
StoppedBy old new Nothing = ⊥
StoppedBy old new (Unsettled t) = ⊥
StoppedBy old new (Settled t) = ⊥
StoppedBy old new (Unhidden t) = FailsToHide old new t Before
StoppedBy old new (Hidden t) = FailsToHide old new t After

-- An ageing that failed: the spool represents the history as before, and the call that failed was
-- one that parks the index or makes that durable, not the removal of a file.
pub record FailsToAge (IsWhole : List ℕ → List ℕ → Type 0) (old new : Option Log) (st : SpoolState)
    (earlier h : List Event) (e : Entry) : Type 0 where
  pub fails : Fails IsWhole old new st earlier h (files_of e)
  pub stopped : StoppedBy old new st.doubt

-- what an ageing makes of a spool with more pairs than the limit, of which this is the oldest
abbrev pub Ages :
    (List ℕ → List ℕ → Type 0) → Option Log → Option Log → SpoolState → List Event → List Event
    → Entry → Files → Result Bool AgeErr → Type 0
Ages IsWhole old new st earlier h e f (Ok true) = Removes IsWhole old new st earlier h e f
Ages IsWhole old new st earlier h e f (Ok false) = ⊥
Ages IsWhole old new st earlier h e f (Err DiskFault) =
    FailsToAge IsWhole old new st earlier h e
Ages IsWhole old new st earlier h e f (Err (Halted since)) = ⊥

-- the state after such an ageing, where the shelf's count of faults is `since`
abbrev pub AgesTo : SpoolState → SpoolState → ℕ → Result Bool AgeErr → Type 0
AgesTo old new since (Ok true) = new ≡ aged old new.swept
AgesTo old new since (Ok false) = ⊥
AgesTo old new since (Err DiskFault) =
    (new ≡ failed old (Unhidden (oldest old)) since)
    ⊎ (new ≡ failed old (Hidden (oldest old)) since)
AgesTo old new since (Err (Halted n)) = ⊥
