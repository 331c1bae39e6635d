-- What loading the packets of a drill into a spool and summing it up ensures.
use Rattle.std.specs.Prelude.{◌≡◌, ◌≤◌, ◌⊎◌, ◌++◌, [], ℕ, List, length, Option, Some, ⊤, Result, Ok, Err, MatchResult, String, string_bytes}
use Rattle.std.specs.Global.{Global}
use Rattle.std.specs.Io.KnownBytes.{Appends}
use Rattle.st_base.specs.Pieces.{AppendsPrefix}
use Rattle.st_disk.specs.Disks.{Log}
use Rattle.st_disk.specs.Events.{Event}
use Rattle.st_load.specs.Acts.{events_of}
use Rattle.st_load.specs.Job.{IsJob}
use Rattle.st_load.specs.Loading.{AreCutFrom, Loads, situation}
use Rattle.st_load.specs.declared.ends.LoadEnd.{LoadEnd}
use Rattle.st_load.specs.declared.ends.LoadEnd.TheVariants as load
use Rattle.st_shelf.specs.Loans.{LoansView}
use Rattle.st_spool.specs.History.{set_of}
use Rattle.st_spool.specs.States.{SpoolState, SpoolView}
use Rattle.st_spool.specs.declared.opening.EnterErr.{EnterErr}
use Rattle.st_spool.specs.declared.opening.EnterErr.TheVariants as enter
use Rattle.st_spool.specs.declared.state.Doubt.TheVariants.{Nothing}
use Rattle.st_drill.specs.declared.ends.DrillEnd.{DrillEnd}
use Rattle.st_drill.specs.declared.ends.DrillEnd.TheVariants as end
use Rattle.st_drill.specs.declared.numbers.TheConstants.{BLOCK_SIZE}
use Rattle.st_drill.specs.Asking.{AnswerFails}
use Rattle.st_drill.specs.Drilling.{layout, IsSummary, EndsUnloaded}
use Rattle.st_drill.specs.Packets.{input}

-- the ways in which a load may end if its input is whole, fits the blocks and never fails
abbrev pub LoadCanEnd : LoadEnd → Type 0
LoadCanEnd load.Done = ⊤
LoadCanEnd (load.BadInput e) = ⊥
LoadCanEnd (load.TooLong number len) = ⊥
LoadCanEnd load.ReadFault = ⊥
LoadCanEnd load.WriteFault = ⊤
LoadCanEnd load.DiskFault = ⊤
LoadCanEnd (load.StampsSpent last) = ⊤
LoadCanEnd load.NoMemory = ⊤

-- The packets of a drill were loaded into a spool of this limit that stood for the history h, and
-- the load ended so. Nothing is in doubt then unless the shelf failed.
pub record LoadsPackets (packets limit : ℕ) (before known : Option Log) (old new : SpoolState)
    (earlier h : List Event) (times times_now : Option (List ℕ)) (loaded : LoadEnd)
    : Type 0 where
  pub lines : Option (List ℕ)
  pub loads : Loads (IsJob limit BLOCK_SIZE (situation h old times))
      (λ pairs. (bytes : List ℕ) → Some (input packets) ≡ Some bytes
      → AreCutFrom layout bytes loaded pairs)
      loaded before known new earlier h times_now (Some []) lines
  pub no_doubt : (loaded ≡ load.DiskFault → ⊥) → new.doubt ≡ Nothing

-- The packets of a drill were loaded, and the result is how many pairs they became, or how the
-- drill ended if not all were loaded.
pub record LoadsAll (packets limit : ℕ) (before known : Option Log) (old new : SpoolState)
    (earlier h : List Event) (times times_now : Option (List ℕ)) (result : Result ℕ DrillEnd)
    : Type 0 where
  pub loaded : LoadEnd
  pub packed : LoadsPackets packets limit before known old new earlier h times times_now loaded
  pub ends : MatchResult result
      (λ pairs. (loaded ≡ load.Done) × (pairs ≡ length packed.loads.pairs))
      (λ ended. EndsUnloaded loaded ended)

-- The packets of a drill were loaded and its queries answered, and the result is the summary; or it
-- is how the drill ended if one of these failed.
pub record Summarizes (packets limit : ℕ) (before known : Option Log) (old new : SpoolState)
    (earlier h : List Event) (times times_now : Option (List ℕ))
    (result : Result (String Global) DrillEnd) : Type 0 where
  pub loaded : LoadEnd
  pub packed : LoadsPackets packets limit before known old new earlier h times times_now loaded
  pub ends : MatchResult result
      (λ text. (loaded ≡ load.Done)
      × IsSummary packets (length packed.loads.pairs)
      (set_of (h ++ events_of packed.loads.acts)) (string_bytes text))
      (λ ended. ((loaded ≡ load.Done)
      × AnswerFails (set_of (h ++ events_of packed.loads.acts)) ended)
      ⊎ EndsUnloaded loaded ended)

-- the ways in which a drill ends if there is no summary
abbrev pub HasNoSummary : DrillEnd → Type 0
HasNoSummary end.Done = ⊥
HasNoSummary end.WriteFault = ⊥
HasNoSummary ended = ⊤

-- a summary was written, or a prefix of it as writing failed; or there was none to write
abbrev pub EndsWriting : Result (String Global) DrillEnd → Option (List ℕ) → Option (List ℕ)
    → DrillEnd → Type 0
EndsWriting (Ok text) old new ended =
    ((ended ≡ end.Done) × Appends old new (string_bytes text))
    ⊎ ((ended ≡ end.WriteFault) × AppendsPrefix old new (string_bytes text))
EndsWriting (Err e) old new ended = (ended ≡ e) × (new ≡ old)

-- how a drill ends if its spool can't be opened, for this cause
abbrev pub EndsUnopened : EnterErr → DrillEnd → Type 0
EndsUnopened enter.DiskFault ended = ended ≡ end.DiskFault
EndsUnopened enter.NoMemory ended = ended ≡ end.NoMemory

-- calls on a spool left it its limit and its shelf, no more files are lent, and if no hold was out
-- none is
pub record KeepsShelf {D : Type 0} (id : D → ℕ) (loans : D → LoansView) (old new : SpoolView D)
    : Type 0 where
  pub limit : new.state.limit ≡ old.state.limit
  pub holds : old.state.holds ≡ [] → new.state.holds ≡ []
  pub id_is : id new.shelf ≡ id old.shelf
  pub lent : (loans new.shelf).lent ≤ (loans old.shelf).lent
