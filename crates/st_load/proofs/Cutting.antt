-- How far the records of an input are cut, and what is known of the others.
use Rattle.std.specs.Prelude.{All, ⊤}
use Rattle.std.proofs.Common.{◌≡◌, ℕ, ◌≤◌, ◌⊎◌, ⊎_elim, List, [], ◌∷◌, ◌++◌, length, length-append, append_assoc, refl, sym, ap, ◌∙◌, subst, arith}
use Rattle.std.proofs.lemmas.List.{append-nil}
use Rattle.st_base.specs.Records.{Rec}
use Rattle.st_block.specs.BlockText.{IsShort, blocks}
use Rattle.st_lane.specs.Cut.{EndsList}
use Rattle.st_pcap.specs.Input.{Whole, Refused}
use Rattle.st_plan.specs.declared.jobs.LanePlan.{LanePlan}
use Rattle.st_load.specs.Stopping.{StopsAfter}
use Rattle.st_load.specs.Job.{AreFirstLists, Takes}
use Rattle.st_load.specs.Loading.{InputParts, EndsInput, AreCutFrom}
use Rattle.st_load.specs.declared.ends.LoadEnd.{LoadEnd}
use Rattle.st_load.specs.declared.ends.LoadEnd.TheVariants as end
use Rattle.st_load.proofs.Lists.{ends_longest, last_longest, one_more, all_both, all_none, all_one, some_taken}
use Rattle.st_load.proofs.Reading.{IsInputOf}
use Rattle.st_pcap.proofs.Existence.{some_input}

-- These lists are cut off from the records before this one, which begins the next list.
pub record CutSoFar (size most : ℕ) (done : List (List Rec)) (before : List Rec) (first : Rec) : Type 0 where
  pub lists : (more : List Rec) → AreFirstLists size most done (before ++ first ∷ more) (first ∷ more)
  pub short : All (IsShort size) before
  pub next : 1 ≤ length done → IsShort size first

pub cut_none : (size most : ℕ) (first : Rec) → CutSoFar size most [] [] first
cut_none size most first = record { lists = λ more. refl; short = all_none (IsShort size); next = λ some. absurd (omega arith) }

-- one list more
pub cut_on : (size most : ℕ) (done : List (List Rec)) (before : List Rec) (first : Rec) (more : List Rec) (r : Rec) → CutSoFar size most done before first
    → All (IsShort size) (first ∷ more) → length (blocks size (first ∷ more)) ≤ most → EndsList size most (first ∷ more) r → IsShort size r
    → CutSoFar size most (done ++ (first ∷ more) ∷ []) (before ++ first ∷ more) r
cut_on size most done before first more r cut short fits ends next = record {
  lists = λ later.
      one_more size most done ((before ++ first ∷ more) ++ r ∷ later) (first ∷ more) (r ∷ later)
      (subst (λ xs. AreFirstLists size most done xs ((first ∷ more) ++ r ∷ later)) (sym (append_assoc before (first ∷ more) (r ∷ later))) (cut.lists (more ++ r ∷ later)))
      (ends_longest size most (first ∷ more) r later (omega arith) fits ends);
  short = all_both (IsShort size) before (first ∷ more) cut.short short;
  next = λ some. next;
}

-- an end that says nothing of the input, or that some records are left
abbrev pub IsAnyEnd : LoadEnd → List Rec → Type 0
IsAnyEnd end.Done left = ⊥
IsAnyEnd (end.BadInput e) left = ⊥
IsAnyEnd (end.TooLong n len) left = ⊥
IsAnyEnd end.ReadFault left = ⊤
IsAnyEnd end.WriteFault left = ⊤
IsAnyEnd end.DiskFault left = ⊤
IsAnyEnd (end.StampsSpent last) left = 1 ≤ length left
IsAnyEnd end.NoMemory left = ⊤

any_ends : (e : LoadEnd) (rest : InputParts) → IsAnyEnd e rest.left → EndsInput e rest
any_ends end.Done rest is = absurd is
any_ends (end.BadInput x) rest is = absurd is
any_ends (end.TooLong n len) rest is = absurd is
any_ends end.ReadFault rest is = tt
any_ends end.WriteFault rest is = tt
any_ends end.DiskFault rest is = tt
any_ends (end.StampsSpent last) rest is = is
any_ends end.NoMemory rest is = tt

-- where the next record is short, whatever follows
short_of : (layout : LanePlan) (bytes : List ℕ) (e : LoadEnd) (done : List (List Rec)) (before : List Rec) (first : Rec) → CutSoFar layout.size layout.blocks done before first → IsShort layout.size first
    → IsInputOf bytes (before ++ first ∷ []) → ((more : List Rec) → IsAnyEnd e (first ∷ more)) → AreCutFrom layout bytes e done
short_of layout bytes e done before first cut short (more, ended, input) any =
    let (taken, others, takes) = some_taken layout.size more in
    let rest : InputParts = record { input = ended; taken = before ++ first ∷ taken; others = others; left = first ∷ taken } in
    record {
      records = (before ++ first ∷ []) ++ more;
      rest = rest;
      input = input;
      takes = record {
        are = append_assoc before (first ∷ []) more ∙ ap (λ xs. before ++ first ∷ xs) takes.are ∙ sym (append_assoc before (first ∷ taken) others);
        short = all_both (IsShort layout.size) before (first ∷ taken) cut.short (all_both (IsShort layout.size) (first ∷ []) taken (all_one (IsShort layout.size) first short) takes.short);
        ends = takes.ends;
      };
      lists = cut.lists taken;
      ends = any_ends e rest (any taken);
    }

-- before the first list
first_of : (layout : LanePlan) (bytes : List ℕ) (e : LoadEnd) (before : List Rec) (first : Rec) → IsInputOf bytes (before ++ first ∷ []) → ((left : List Rec) → IsAnyEnd e left)
    → AreCutFrom layout bytes e []
first_of layout bytes e before first (more, ended, input) any =
    let (taken, others, takes) = some_taken layout.size ((before ++ first ∷ []) ++ more) in
    let rest : InputParts = record { input = ended; taken = taken; others = others; left = taken } in
    record { records = (before ++ first ∷ []) ++ more; rest = rest; input = input; takes = takes; lists = refl; ends = any_ends e rest (any taken) }

-- an end that says nothing at all
abbrev pub IsFault : LoadEnd → Type 0
IsFault e = (left : List Rec) → IsAnyEnd e left

-- a load that is stopped by a fault
pub fault_of : (layout : LanePlan) (bytes : List ℕ) (e : LoadEnd) (done : List (List Rec)) (before : List Rec) (first : Rec) → CutSoFar layout.size layout.blocks done before first
    → IsInputOf bytes (before ++ first ∷ []) → IsFault e → AreCutFrom layout bytes e done
fault_of layout bytes e [] before first cut input fault = first_of layout bytes e before first input fault
fault_of layout bytes e (l ∷ done) before first cut input fault = short_of layout bytes e (l ∷ done) before first cut (cut.next (omega arith)) input (λ more. fault (first ∷ more))

-- a load that is stopped with a record at hand that is short
pub left_of : (layout : LanePlan) (bytes : List ℕ) (e : LoadEnd) (done : List (List Rec)) (before : List Rec) (first : Rec) → CutSoFar layout.size layout.blocks done before first → IsShort layout.size first
    → IsInputOf bytes (before ++ first ∷ []) → ((more : List Rec) → IsAnyEnd e (first ∷ more)) → AreCutFrom layout bytes e done
left_of layout bytes e done before first cut short input any = short_of layout bytes e done before first cut short input any

-- the last list, where the input stops after it
last_lists : (size most : ℕ) (done : List (List Rec)) (before : List Rec) (first : Rec) (more : List Rec) → CutSoFar size most done before first
    → length (blocks size (first ∷ more)) ≤ most → AreFirstLists size most (done ++ (first ∷ more) ∷ []) (before ++ first ∷ more) []
last_lists size most done before first more cut fits =
    one_more size most done (before ++ first ∷ more) (first ∷ more) []
    (subst (λ xs. AreFirstLists size most done (before ++ first ∷ more) xs) (sym (append-nil (first ∷ more))) (cut.lists more))
    (last_longest size most (first ∷ more) (omega arith) fits)

whole_takes : (size : ℕ) (rs : List Rec) → All (IsShort size) rs → Takes size rs rs []
whole_takes size rs short = record { are = sym (append-nil rs); short = short; ends = tt }

-- a load of all records up to the stop; `said` is that stop or a fault
pub ended_of : (layout : LanePlan) (bytes : List ℕ) (e said : LoadEnd) (done : List (List Rec)) (before : List Rec) (first : Rec) (more : List Rec)
    → CutSoFar layout.size layout.blocks done before first → All (IsShort layout.size) (first ∷ more) → length (blocks layout.size (first ∷ more)) ≤ layout.blocks
    → StopsAfter layout.size bytes (before ++ first ∷ more) e → (said ≡ e) ⊎ IsFault said → AreCutFrom layout bytes said (done ++ (first ∷ more) ∷ [])
ended_of layout bytes end.Done said done before first more cut short fits stops how =
    let taken = before ++ first ∷ more in
    let rest : InputParts = record { input = Whole; taken = taken; others = []; left = [] } in
    record {
      records = taken;
      rest = rest;
      input = stops;
      takes = whole_takes layout.size taken (all_both (IsShort layout.size) before (first ∷ more) cut.short short);
      lists = last_lists layout.size layout.blocks done before first more cut fits;
      ends = ⊎_elim (λ same. subst (λ x. EndsInput x rest) (sym same) (refl, refl, refl)) (λ fault. any_ends said rest (fault [])) how;
    }
ended_of layout bytes (end.BadInput x) said done before first more cut short fits stops how =
    let taken = before ++ first ∷ more in
    let rest : InputParts = record { input = Refused x; taken = taken; others = []; left = [] } in
    record {
      records = taken;
      rest = rest;
      input = stops;
      takes = whole_takes layout.size taken (all_both (IsShort layout.size) before (first ∷ more) cut.short short);
      lists = last_lists layout.size layout.blocks done before first more cut fits;
      ends = ⊎_elim (λ same. subst (λ x. EndsInput x rest) (sym same) (refl, refl, refl)) (λ fault. any_ends said rest (fault [])) how;
    }
ended_of layout bytes (end.TooLong number len) said done before first more cut short fits (r, later, ended, input, long, size, count) how =
    let taken = before ++ first ∷ more in
    let rest : InputParts = record { input = ended; taken = taken; others = r ∷ later; left = [] } in
    record {
      records = taken ++ r ∷ later;
      rest = rest;
      input = input;
      takes = record { are = refl; short = all_both (IsShort layout.size) before (first ∷ more) cut.short short; ends = long };
      lists = last_lists layout.size layout.blocks done before first more cut fits;
      ends = ⊎_elim (λ same. subst (λ x. EndsInput x rest) (sym same) (r, later, refl, size, count, refl)) (λ fault. any_ends said rest (fault [])) how;
    }
ended_of layout bytes end.ReadFault said done before first more cut short fits stops how = absurd stops
ended_of layout bytes end.WriteFault said done before first more cut short fits stops how = absurd stops
ended_of layout bytes end.DiskFault said done before first more cut short fits stops how = absurd stops
ended_of layout bytes (end.StampsSpent last) said done before first more cut short fits stops how = absurd stops
ended_of layout bytes end.NoMemory said done before first more cut short fits stops how = absurd stops

none_before : (size most : ℕ) (before : List Rec) (first : Rec) → CutSoFar size most [] before first → before ≡ []
none_before size most [] first cut = refl
none_before size most (r ∷ before) first cut =
    let same = ap length (cut.lists []) in
    let n = length-append before (first ∷ []) in
    absurd (omega arith)

-- a load that stops before it took a record
pub stop_of : (layout : LanePlan) (bytes : List ℕ) (e : LoadEnd) → StopsAfter layout.size bytes [] e → AreCutFrom layout bytes e []
stop_of layout bytes end.Done input = record { records = []; rest = record { input = Whole; taken = []; others = []; left = [] }; input = input; takes = whole_takes layout.size [] (all_none (IsShort layout.size)); lists = refl; ends = (refl, refl, refl) }
stop_of layout bytes (end.BadInput x) input = record { records = []; rest = record { input = Refused x; taken = []; others = []; left = [] }; input = input; takes = whole_takes layout.size [] (all_none (IsShort layout.size)); lists = refl; ends = (refl, refl, refl) }
stop_of layout bytes (end.TooLong number len) (r, later, ended, input, long, size, count) = record { records = r ∷ later; rest = record { input = ended; taken = []; others = r ∷ later; left = [] }; input = input; takes = record { are = refl; short = all_none (IsShort layout.size); ends = long }; lists = refl; ends = (r, later, refl, size, count, refl) }
stop_of layout bytes end.ReadFault stops = absurd stops
stop_of layout bytes end.WriteFault stops = absurd stops
stop_of layout bytes end.DiskFault stops = absurd stops
stop_of layout bytes (end.StampsSpent last) stops = absurd stops
stop_of layout bytes end.NoMemory stops = absurd stops

-- a load whose first record is too long: no list is full
pub long_of : (layout : LanePlan) (bytes : List ℕ) (e : LoadEnd) (done : List (List Rec)) (before : List Rec) (first : Rec)
    → CutSoFar layout.size layout.blocks done before first → (IsShort layout.size first → ⊥) → StopsAfter layout.size bytes (before ++ []) e → AreCutFrom layout bytes e done
long_of layout bytes e (l ∷ done) before first cut long stops = absurd (long (cut.next (omega arith)))
long_of layout bytes e [] before first cut long stops =
    stop_of layout bytes e (subst (λ xs. StopsAfter layout.size bytes xs e) (append-nil before ∙ none_before layout.size layout.blocks before first cut) stops)

-- a load that a fault stops before it took a record
pub unread_of : (layout : LanePlan) (bytes : List ℕ) (e : LoadEnd) → IsFault e → AreCutFrom layout bytes e []
unread_of layout bytes e fault =
    let (rs, ended, input) = some_input bytes in
    let (taken, others, takes) = some_taken layout.size rs in
    let rest : InputParts = record { input = ended; taken = taken; others = others; left = taken } in
    record { records = rs; rest = rest; input = input; takes = takes; lists = refl; ends = any_ends e rest (fault taken) }
