-- What a publication makes of a spool.
use Rattle.std.specs.Prelude.{◌≡◌, ◌<◌, ◌+◌, ◌-◌, ◌^◌, ◌⊎◌, ℕ, List, [], ◌∷◌, ◌++◌, Option, None, Some, max}
use Rattle.st_base.specs.Faults.{next_count}
use Rattle.st_disk.specs.Disks.{Log}
use Rattle.st_disk.specs.LoggedCalls.{KnownBefore}
use Rattle.st_disk.specs.Runs.{Ran}
use Rattle.st_disk.specs.Pairs.{Entry, Files, PairsIn}
use Rattle.st_disk.specs.Events.{Event, Publish}
use Rattle.st_spool.specs.History.{set_of}
use Rattle.st_spool.specs.States.{SpoolState}
use Rattle.st_shelf.specs.Origins.{DraftOrigin}
use Rattle.st_disk.specs.declared.naming.Kind.TheVariants as kind
use Rattle.st_spool.specs.Standing.{StandsFor, Gives, in_doubt}
use Rattle.st_spool.specs.declared.state.Doubt.{Doubt}
use Rattle.st_spool.specs.declared.state.Doubt.TheVariants.{Unsettled, Settled}

-- the stamp of the next publication: the greater of the floor and the one after the last
abbrev pub next_stamp : ℕ → ℕ → ℕ
next_stamp last floor = max floor (last + 1)

-- a publication is not refused: no call has failed, and a stamp is left
abbrev pub MayPublish : SpoolState → Type 0
MayPublish st = (st.halted ≡ None) × (st.last < 2 ^ 64 - 1)

-- the state after a publication
abbrev pub published : SpoolState → ℕ → SpoolState
published st s = record st { stamps = st.stamps ++ s ∷ []; last = s }

-- the state after a publication or an ageing that failed, with the shelf's count of faults then
abbrev pub failed : SpoolState → Doubt → ℕ → SpoolState
failed st doubt since =
    record st { doubt = doubt; halted = Some since; halts = next_count st.halts }

-- the state after a publication under this stamp that failed, before its block was settled or after
abbrev pub FailsToPublish : SpoolState → SpoolState → ℕ → ℕ → Type 0
FailsToPublish old new t since =
    (new ≡ failed old (Unsettled t) since) ⊎ (new ≡ failed old (Settled t) since)

-- Since the first log this event happened, and no other. Each crash since leaves the set of the
-- history or that with the event, and a crash now leaves the latter.
abbrev pub RanTo : Log → Option Log → List Event → Event → Type 0
RanTo first known h e =
    Ran first known (e ∷ []) (Gives h (e ∷ [])) (λ c. PairsIn c (set_of (h ++ e ∷ [])))

-- Since the first log the event in doubt, if there is one, happened, and no other. Each crash
-- leaves the set of the history, or if an event is in doubt that set or the one with the event.
abbrev pub RanInDoubt : Log → Option Log → List Event → List Event → Type 0
RanInDoubt first known h es = Ran first known es (Gives h es) (Gives h es)

-- Since the first log no event happened. Each crash leaves the set of the history, or if an event
-- was in doubt already that set or the one with this event.
abbrev pub RanAsBefore : Log → Option Log → List Event → List Event → Type 0
RanAsBefore first known h es = Ran first known [] (Gives h es) (Gives h es)

-- A publication of this entry that succeeded: the spool represents the history with it, and a crash
-- now leaves the set with it.
pub record Publishes (IsWhole : List ℕ → List ℕ → Type 0) (old new : Option Log) (st : SpoolState)
    (earlier h : List Event) (e : Entry) (f : Files) : Type 0 where
  pub known : KnownBefore old new
  pub stands : StandsFor IsWhole new st earlier (h ++ Publish e ∷ []) f
  pub images : (first : Log) → old ≡ Some first → RanTo first new h (Publish e)

-- A publication or a removal of a pair with these files that failed: the spool represents the
-- history as before, and the event of the call may be in doubt.
pub record Fails (IsWhole : List ℕ → List ℕ → Type 0) (old new : Option Log) (st : SpoolState)
    (earlier h : List Event) (f : Files) : Type 0 where
  pub known : KnownBefore old new
  pub stands : StandsFor IsWhole new st earlier h f
  pub images : (first : Log) → old ≡ Some first → RanInDoubt first new h (in_doubt st.doubt f)

-- A call without an event: the spool represents the history as before. If an event was in doubt,
-- it still is.
pub record Keeps (IsWhole : List ℕ → List ℕ → Type 0) (old new : Option Log) (st : SpoolState)
    (earlier h : List Event) (f : Files) : Type 0 where
  pub known : KnownBefore old new
  pub stands : StandsFor IsWhole new st earlier h f
  pub images : (first : Log) → old ≡ Some first → RanAsBefore first new h (in_doubt st.doubt f)

-- these are the origins of a block file and of an index, both of this shelf
pub record IsPairOf (home : ℕ) (block index : DraftOrigin) : Type 0 where
  pub block_kind : block.kind ≡ kind.Block
  pub index_kind : index.kind ≡ kind.Index
  pub block_home : block.home ≡ home
  pub index_home : index.home ≡ home
