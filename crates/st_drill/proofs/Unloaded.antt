-- How a load of a drill's packets ends.
use Rattle.std.proofs.Common.{◌≡◌, ◌≤◌, ◌+◌, ℕ, List, [], ◌∷◌, ◌++◌, length, All, Contains, Option, Some, refl, sym, ap, ◌∙◌, subst, arith, append-nil}
use Rattle.std.proofs.lemmas.List.Elements.{All-contains, Contains-append_right, Contains-get_or}
use Rattle.st_base.specs.Records.{Rec}
use Rattle.st_block.specs.BlockText.{IsShort}
use Rattle.st_load.specs.Causes.{Says}
use Rattle.st_load.specs.Stopping.{StopsInput}
use Rattle.st_load.specs.declared.ends.LoadEnd.{LoadEnd}
use Rattle.st_load.specs.declared.ends.LoadEnd.TheVariants as load
use Rattle.st_pcap.specs.Input.{Input, Whole, Refused}
use Rattle.st_pcap.specs.declared.errors.PcapErr.{PcapErr}
use Rattle.st_pcap.proofs.Uniqueness.{one_input}
use Rattle.st_plan.specs.declared.limits.TheConstants.{MAX_PACKETS}
use Rattle.st_drill.specs.declared.ends.DrillEnd.{DrillEnd}
use Rattle.st_drill.specs.declared.ends.DrillEnd.TheVariants as end
use Rattle.st_drill.specs.declared.numbers.TheConstants.{BLOCK_SIZE, FRAME_SIZE}
use Rattle.st_drill.specs.Asking.{IsAnswerFailure}
use Rattle.st_drill.specs.Drilling.{EndsUnloaded, SaysDrill}
use Rattle.st_drill.specs.Packets.{packets, input}
use Rattle.st_drill.specs.Summarizing.{LoadCanEnd, HasNoSummary}
use Rattle.st_drill.proofs.Packets.{are_frames, is_whole_input}

-- each packet fits a block
pub are_short : (n : ℕ) → n ≤ MAX_PACKETS → All (IsShort BLOCK_SIZE) (packets n)
are_short n h k r less =
    let body = (are_frames n h).1 k r less in omega (arith, body)

-- so these ends never come
pub can_end : (n : ℕ) → n ≤ MAX_PACKETS → (e : LoadEnd) → StopsInput BLOCK_SIZE (input n) e
    → (e ≡ load.ReadFault → ⊥) → LoadCanEnd e
can_end n h load.Done stops sure = tt
can_end n h (load.BadInput e) stops sure =
    let (given, short, bad) = stops tt in
    let no : Whole ≡ Refused e =
    (one_input (input n) (packets n) given Whole (Refused e) (is_whole_input n h) bad).1 in
    cc
can_end n h (load.TooLong number len) stops sure =
    let (given, short, (r, later, e, is, long, size, place)) = stops tt in
    let same = (one_input (input n) (packets n) (given ++ r ∷ later) Whole e (is_whole_input n h)
    is).0 in
    let there = Contains-append_right given (r ∷ later) r
    (Contains-get_or (r ∷ later) 0 r (omega arith)) in
    long (All-contains (IsShort BLOCK_SIZE) (packets n) r (are_short n h)
    (subst (λ (x : List Rec). Contains x r) (sym same) there))
can_end n h load.ReadFault stops sure = sure refl
can_end n h load.WriteFault stops sure = tt
can_end n h load.DiskFault stops sure = tt
can_end n h (load.StampsSpent last) stops sure = tt
can_end n h load.NoMemory stops sure = tt

-- a drill ends in a fault of the shelf only if its load did
pub disk_by : (loaded : LoadEnd) (ended : DrillEnd) → EndsUnloaded loaded ended
    → ended ≡ end.DiskFault → loaded ≡ load.DiskFault
disk_by load.Done ended by is = absurd by
disk_by (load.BadInput e) ended by is = absurd by
disk_by (load.TooLong number len) ended by is = absurd by
disk_by load.ReadFault ended by is = absurd by
disk_by load.WriteFault ended by is = let no : end.NoMemory ≡ end.DiskFault = sym by ∙ is in absurd (cc)
disk_by load.DiskFault ended by is = refl
disk_by (load.StampsSpent last) ended by is = let no : end.StampsSpent last ≡ end.DiskFault = sym by ∙ is in absurd (cc)
disk_by load.NoMemory ended by is = let no : end.NoMemory ≡ end.DiskFault = sym by ∙ is in absurd (cc)

-- what an end says by itself
abbrev SaysBy : DrillEnd → Type 0
SaysBy ended = SaysDrill ended × HasNoSummary ended

pub says_by : (loaded : LoadEnd) (ended : DrillEnd) → EndsUnloaded loaded ended
    → Says BLOCK_SIZE loaded → SaysDrill ended × HasNoSummary ended
says_by load.Done ended by says = absurd by
says_by (load.BadInput e) ended by says = absurd by
says_by (load.TooLong number len) ended by says = absurd by
says_by load.ReadFault ended by says = absurd by
says_by load.WriteFault ended by says = subst SaysBy (sym by) (tt, tt)
says_by load.DiskFault ended by says = subst SaysBy (sym by) (tt, tt)
says_by (load.StampsSpent last) ended by says = subst SaysBy (sym by) (says, tt)
says_by load.NoMemory ended by says = subst SaysBy (sym by) (tt, tt)

-- a query that wasn't answered leaves no summary
pub break_says : (ended : DrillEnd) → IsAnswerFailure ended → SaysDrill ended × HasNoSummary ended
break_says end.Done is = absurd is
break_says end.WriteFault is = absurd is
break_says end.DiskFault is = (tt, tt)
break_says (end.Damaged stamp d) is = (tt, tt)
break_says (end.StampsSpent last) is = absurd is
break_says end.NoMemory is = (tt, tt)
