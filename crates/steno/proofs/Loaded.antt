-- From how a load ended to how the run ends.
use Rattle.std.proofs.Common.{◌≡◌, ◌⊎◌, ℕ, List, [], ◌∷◌, ◌++◌, All, Contains, sym, subst, inl, inr, arith}
use Rattle.std.proofs.lemmas.List.Elements.{All-contains, Contains-append_right, Contains-get_or}
use Rattle.st_base.specs.Records.{Rec}
use Rattle.st_block.specs.BlockText.{IsShort}
use Rattle.st_pcap.specs.declared.errors.PcapErr.{PcapErr}
use Rattle.st_pcap.specs.Input.{End, Input, Whole, Refused}
use Rattle.st_pcap.proofs.Uniqueness.{one_input}
use Rattle.st_plan.specs.Jobs.{LoadPlan}
use Rattle.st_load.specs.Stopping.{StopsInput}
use Rattle.st_load.specs.declared.ends.LoadEnd.{LoadEnd}
use Rattle.st_load.specs.declared.ends.LoadEnd.TheVariants as end
use Rattle.steno.specs.declared.status.Status.{Status}
use Rattle.steno.specs.declared.status.Status.TheVariants.{Done, BadInput, ReadFault, WriteFault, DiskFault, NoMemory, StampsSpent}
use Rattle.steno.specs.Causes.{FaultCounts, HasCauses, NoneRose}
use Rattle.steno.specs.Loading.{IsTaken, LoadsPairs, LoadsUnfailed, SaysLoad}
use Rattle.steno.specs.Scenes.{Scene}
use Rattle.steno.specs.Statuses.{Ends}

-- a load that no fault ends
pub record Unfailed (status : Status) : Type 0 where
  pub read : status ≡ ReadFault → ⊥
  pub write : status ≡ WriteFault → ⊥
  pub disk : status ≡ DiskFault → ⊥

unfailed : (before after : FaultCounts) (status : Status) → HasCauses before after status → NoneRose before after → Unfailed status
unfailed before after status cause none = record { read = λ e. none.input (cause.read e); write = λ e. none.output (cause.write e); disk = λ e. none.shelf (cause.disk e) }

-- an input that is whole is not refused
not_bad : (size : ℕ) (bytes : List ℕ) (rs : List Rec) (cause : PcapErr) → Input bytes rs Whole → StopsInput size bytes (end.BadInput cause) → ⊥
not_bad size bytes rs cause whole stops =
    let (given, short, refused) = stops tt in
    let bad : Whole ≡ Refused cause = (one_input bytes rs given Whole (Refused cause) whole refused).1 in
    cc

-- packets that are all short are not too long
not_long : (size : ℕ) (bytes : List ℕ) (rs : List Rec) (number len : ℕ) → Input bytes rs Whole → All (IsShort size) rs → StopsInput size bytes (end.TooLong number len) → ⊥
not_long size bytes rs number len whole short stops =
    let (given, before, (r, later, e, input, long, len_is, number_is)) = stops tt in
    let same : rs ≡ given ++ r ∷ later = (one_input bytes rs (given ++ r ∷ later) Whole e whole input).0 in
    let there = Contains-append_right given (r ∷ later) r (Contains-get_or (r ∷ later) 0 r (omega arith)) in
    long (All-contains (IsShort size) rs r short (subst (λ x. Contains x r) (sym same) there))

-- what was taken to the end is whole, and its packets are short
is_taken : (size : ℕ) (bytes : List ℕ) (rs : List Rec) (e : End) → Input bytes rs e → StopsInput size bytes end.Done → IsTaken size rs e
is_taken size bytes rs e input stops =
    let (given, short, whole) = stops tt in
    let same = one_input bytes rs given e Whole input whole in
    (same.1, subst (All (IsShort size)) (sym same.0) short)

done_by : (size : ℕ) (bytes : List ℕ) (rs : List Rec) (e : LoadEnd) (status : Status) (message : List ℕ) → SaysLoad size e status message → Unfailed status
    → Input bytes rs Whole → All (IsShort size) rs → StopsInput size bytes e → Ends Done status ⊎ (status ≡ StampsSpent)
done_by size bytes rs end.Done status message says fair whole short stops = inl (inl says.0)
done_by size bytes rs (end.BadInput cause) status message says fair whole short stops = absurd (not_bad size bytes rs cause whole stops)
done_by size bytes rs (end.TooLong number len) status message says fair whole short stops = absurd (not_long size bytes rs number len whole short stops)
done_by size bytes rs end.ReadFault status message says fair whole short stops = absurd (fair.read says.0)
done_by size bytes rs end.WriteFault status message says fair whole short stops = absurd (fair.write says.0)
done_by size bytes rs end.DiskFault status message says fair whole short stops = absurd (fair.disk says.0)
done_by size bytes rs (end.StampsSpent last) status message (inl says) fair whole short stops = inr says.0
done_by size bytes rs (end.StampsSpent last) status message (inr says) fair whole short stops = inl (inr says.0)
done_by size bytes rs end.NoMemory status message says fair whole short stops = inl (inr says.0)

refused_by : (size : ℕ) (bytes : List ℕ) (rs : List Rec) (last : End) (e : LoadEnd) (status : Status) (message : List ℕ) → SaysLoad size e status message → Unfailed status
    → Input bytes rs last → (IsTaken size rs last → ⊥) → StopsInput size bytes e → Ends BadInput status ⊎ (status ≡ StampsSpent)
refused_by size bytes rs last end.Done status message says fair input not stops = absurd (not (is_taken size bytes rs last input stops))
refused_by size bytes rs last (end.BadInput cause) status message (inl says) fair input not stops = inl (inl says.0)
refused_by size bytes rs last (end.BadInput cause) status message (inr says) fair input not stops = inl (inr says.0)
refused_by size bytes rs last (end.TooLong number len) status message (inl says) fair input not stops = inl (inl says.0)
refused_by size bytes rs last (end.TooLong number len) status message (inr says) fair input not stops = inl (inr says.0)
refused_by size bytes rs last end.ReadFault status message says fair input not stops = absurd (fair.read says.0)
refused_by size bytes rs last end.WriteFault status message says fair input not stops = absurd (fair.write says.0)
refused_by size bytes rs last end.DiskFault status message says fair input not stops = absurd (fair.disk says.0)
refused_by size bytes rs last (end.StampsSpent stamp) status message (inl says) fair input not stops = inr says.0
refused_by size bytes rs last (end.StampsSpent stamp) status message (inr says) fair input not stops = inl (inr says.0)
refused_by size bytes rs last end.NoMemory status message says fair input not stops = inl (inr says.0)

pub load_ends : (load : LoadPlan) (old new : Scene) (before after : FaultCounts) (status : Status) (message : List ℕ)
    → LoadsPairs load old new status message → HasCauses before after status → NoneRose before after → LoadsUnfailed load old status
load_ends load old new before after status message ran cause none =
    let fair = unfailed before after status cause none in
    record {
      done = λ bytes rs last told input taken.
          done_by load.plan.size bytes rs ran.ended status message ran.says fair (subst (Input bytes rs) taken.0 input) taken.1 (ran.stops bytes told);
      refused = λ bytes rs last told input not. refused_by load.plan.size bytes rs last ran.ended status message ran.says fair input not (ran.stops bytes told);
    }

-- a load that is done has no message
pub load_done : (size : ℕ) (e : LoadEnd) (message : List ℕ) → SaysLoad size e Done message → message ≡ []
load_done size end.Done message says = says.1
load_done size (end.BadInput cause) message (inl says) = let bad : Done ≡ BadInput = says.0 in absurd (cc)
load_done size (end.BadInput cause) message (inr says) = let bad : Done ≡ NoMemory = says.0 in absurd (cc)
load_done size (end.TooLong number len) message (inl says) = let bad : Done ≡ BadInput = says.0 in absurd (cc)
load_done size (end.TooLong number len) message (inr says) = let bad : Done ≡ NoMemory = says.0 in absurd (cc)
load_done size end.ReadFault message says = let bad : Done ≡ ReadFault = says.0 in absurd (cc)
load_done size end.WriteFault message says = let bad : Done ≡ WriteFault = says.0 in absurd (cc)
load_done size end.DiskFault message says = let bad : Done ≡ DiskFault = says.0 in absurd (cc)
load_done size (end.StampsSpent last) message (inl says) = let bad : Done ≡ StampsSpent = says.0 in absurd (cc)
load_done size (end.StampsSpent last) message (inr says) = let bad : Done ≡ NoMemory = says.0 in absurd (cc)
load_done size end.NoMemory message says = let bad : Done ≡ NoMemory = says.0 in absurd (cc)
