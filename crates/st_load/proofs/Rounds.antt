-- One round of a load: a lane is made, filled, and its pair is finished.
use Rattle.std.specs.Prelude.{All}
use Rattle.std.proofs.Common.{◌≡◌, ℕ, ◌+◌, ◌≤◌, ◌⊎◌, inl, inr, ⊎_elim, List, [], ◌∷◌, ◌++◌, length, append_assoc, append-nil, refl, sym, ap, ◌∙◌, subst, arith, Option, Some, None}
use Rattle.std.proofs.KnownBytes.{Appends-nil}
use Rattle.st_base.specs.Records.{Rec}
use Rattle.st_block.specs.BlockText.{IsShort, blocks}
use Rattle.st_disk.specs.Disks.{Log}
use Rattle.st_disk.specs.Events.{Event}
use Rattle.st_disk.specs.Pairs.{Files}
use Rattle.st_lane.specs.Cut.{EndsList}
use Rattle.st_lane.specs.Lane.{LaneView, Represents}
use Rattle.st_pairs.specs.Pairs.{IsWholePair}
use Rattle.st_pcap.specs.Reading.{PcapReaderView, IsGoing}
use Rattle.st_plan.specs.declared.jobs.LanePlan.{LanePlan}
use Rattle.st_spool.specs.Standing.{StandsFor}
use Rattle.st_spool.specs.States.{SpoolState, SpoolView}
use Rattle.st_load.specs.Acts.{events_of}
use Rattle.st_load.specs.Filling.{HasReadTo, Fills, IsFillFault}
use Rattle.st_load.specs.Stopping.{StopsAfter, IsInputEnd}
use Rattle.st_load.specs.Job.{Situation, AddsAll}
use Rattle.st_load.specs.Lanes.{KeepsSpool}
use Rattle.st_load.specs.Loading.{Loads, AreCutFrom, situation}
use Rattle.st_load.specs.Publishing.{AddsPair, AreAdded}
use Rattle.st_load.specs.declared.ends.LoadEnd.{LoadEnd}
use Rattle.st_load.specs.declared.ends.LoadEnd.TheVariants as end
use Rattle.st_load.specs.declared.filling.Filled.TheVariants as filled
use Rattle.st_load.proofs.Covered.{covered_none}
use Rattle.st_load.proofs.Finishing.{no_doubt}
use Rattle.st_load.proofs.Cutting.{IsAnyEnd, IsFault, cut_none, cut_on, fault_of, left_of, ended_of, long_of}
use Rattle.st_load.proofs.Going.{SoFar, input_quiet, fill_quiet}
use Rattle.st_load.proofs.Reading.{IsInputOf, input_of}
use Rattle.st_load.proofs.Steps.{sofar_keeps, sofar_ends, sofar_fails, sofar_last, sofar_next}

-- what a reader read
abbrev pub ReadBy : PcapReaderView → Option (List ℕ) → List ℕ → List Rec → Type 0
ReadBy p left bytes rs = HasReadTo p bytes rs left

pub read_input : (p : PcapReaderView) (left : Option (List ℕ)) (bytes : List ℕ) (rs : List Rec) → IsGoing p.phase → HasReadTo p bytes rs left → IsInputOf bytes rs
read_input p left bytes rs going (rest, is, has) = input_of p bytes rs rest going has

-- how many pairs there are after a pair was not finished
at_most : (rs : List Rec) (e : LoadEnd) (p : List (List Rec)) → AreAdded rs e p → ((p ≡ []) × ((left : List Rec) → 1 ≤ length left → IsAnyEnd e left)) ⊎ ((p ≡ rs ∷ []) × IsFault e)
at_most rs end.Done p is = absurd is
at_most rs (end.BadInput x) p is = absurd is
at_most rs (end.TooLong n len) p is = absurd is
at_most rs end.ReadFault p is = absurd is
at_most rs end.WriteFault p (inl is) = inl (is, λ left some. tt)
at_most rs end.WriteFault p (inr is) = inr (is, λ left. tt)
at_most rs end.DiskFault p (inl is) = inl (is, λ left some. tt)
at_most rs end.DiskFault p (inr is) = inr (is, λ left. tt)
at_most rs (end.StampsSpent last) p is = inl (is, λ left some. some)
at_most rs end.NoMemory p (inl is) = inl (is, λ left some. tt)
at_most rs end.NoMemory p (inr is) = inr (is, λ left. tt)

first_short : (size : ℕ) (first : Rec) (more : List Rec) → All (IsShort size) (first ∷ more) → IsShort size first
first_short size first more short = short 0 first (omega arith)

no_records : (rs : List Rec) (n : ℕ) → n ≡ length rs → n ≡ 0 → rs ≡ []
no_records [] n is none = refl
no_records (r ∷ rs) n is none = absurd (omega (arith, is, none))

-- calls that change no pair
pub round_keeps : {D : Type 0} (log : D → Option Log) (a b : SpoolView D) (limit : ℕ) (layout : LanePlan) (start : Situation) (was : Option Log) (earlier h : List Event) (f : Files) (times old new : Option (List ℕ))
    (Given : List ℕ → Type 0) (Read : List ℕ → List Rec → Type 0) (first : Rec) (number : ℕ)
    → SoFar limit layout start was (log a.shelf) a.state earlier h f times old new Given Read first number → a.state.halted ≡ None → KeepsSpool log a b
    → SoFar limit layout start was (log b.shelf) b.state earlier h f times old new Given Read first number
round_keeps {D} log a b limit layout start was earlier h f times old new Given Read first number s runs keeps =
    sofar_keeps limit layout start was earlier h f old Given (log a.shelf) (log b.shelf) a.state b.state times new Read first number s runs
    (ap (λ (v : SpoolView D). v.state) keeps.state) (keeps.keeps earlier (h ++ events_of s.acts) f s.stands)

module _ (limit : ℕ) (layout : LanePlan) (start : Situation) (was : Option Log) (earlier h : List Event) (f : Files) (old : Option (List ℕ)) (Given : List ℕ → Type 0)
    (known : Option Log) (st : SpoolState) (times new : Option (List ℕ)) (reader : PcapReaderView) (left : Option (List ℕ)) (first : Rec) (number : ℕ)
    (s : SoFar limit layout start was known st earlier h f times old new Given (ReadBy reader left) first number) where
  abbrev Are : LoadEnd → List (List Rec) → Type 0
  Are e pairs = (bytes : List ℕ) → Given bytes → AreCutFrom layout bytes e pairs

  -- a fault while a lane is made or filled
  pub round_fails : (e : LoadEnd) → st.halted ≡ None → IsGoing reader.phase → IsFillFault e
      → Loads (AddsAll limit layout.size start) (λ (pairs : List (List Rec)). (bytes : List ℕ) → Given bytes → AreCutFrom layout bytes e pairs) e was known st earlier h times old new
  round_fails e runs going fault =
      let (quiet, any) = fill_quiet e fault in
      sofar_ends limit layout start was earlier h f old Given known st times new (ReadBy reader left) first number s (Are e) e runs quiet
      (λ bytes given.
      let (before, read, is, cut) = s.input bytes given in
      fault_of layout bytes e s.done before first cut (read_input reader left bytes (before ++ first ∷ []) going read) any)

  module _ {T : Type 0} (written : T → Option (List ℕ)) (lane : LaneView T) (size_is : lane.filling.size ≡ layout.size) (most_is : lane.filling.most ≡ layout.blocks) (going : IsGoing reader.phase) where
    short_at : (rs : List Rec) → Represents written lane rs → All (IsShort layout.size) rs
    short_at rs has = subst (λ (n : ℕ). All (IsShort n) rs) size_is has.fills.short

    few_at : (rs : List Rec) → Represents written lane rs → length (blocks layout.size rs) ≤ layout.blocks
    few_at rs has = subst (λ (n : ℕ). length (blocks n rs) ≤ layout.blocks) size_is (subst (λ (m : ℕ). length (blocks lane.filling.size rs) ≤ m) most_is has.fills.few)

    ends_at : (rs : List Rec) (r : Rec) → EndsList lane.filling.size lane.filling.most rs r → EndsList layout.size layout.blocks rs r
    ends_at rs r ends = subst (λ (n : ℕ). EndsList n layout.blocks rs r) size_is (subst (λ (m : ℕ). EndsList lane.filling.size m rs r) most_is ends)

    -- the first record is too long
    pub round_long : (p : PcapReaderView) (now : Option (List ℕ)) (e : LoadEnd) → st.halted ≡ None → lane.filling.records ≡ 0 → IsInputEnd e
        → Fills written (λ bytes given. HasReadTo reader bytes (given ++ first ∷ []) left) first number lane p now (filled.Ended e)
        → Loads (AddsAll limit layout.size start) (λ (pairs : List (List Rec)). (bytes : List ℕ) → Given bytes → AreCutFrom layout bytes e pairs) e was known st earlier h times old new
    round_long p now e runs none is_end (rs, has, begins, stops) =
        let nil = no_records rs lane.filling.records has.fills.count none in
        let long : IsShort layout.size first → ⊥ = ⊎_elim
        (λ (same, long). subst (λ (n : ℕ). IsShort n first → ⊥) size_is long)
        (λ (more, is). let bad : [] ≡ first ∷ more = sym nil ∙ is in absurd (cc)) begins in
        sofar_ends limit layout start was earlier h f old Given known st times new (ReadBy reader left) first number s (Are e) e runs (input_quiet e is_end)
        (λ bytes given.
        let (before, read, is, cut) = s.input bytes given in
        let at = subst (λ (n : ℕ). StopsAfter n bytes (before ++ rs) e) size_is (stops bytes before read is) in
        long_of layout bytes e s.done before first cut long (subst (λ (l : List Rec). StopsAfter layout.size bytes (before ++ l) e) nil at))

    module _ (lim : st.limit ≡ limit) (next : Option Log) (after : SpoolState) (later more_out : Option (List ℕ)) where
      adds_at : (rs : List Rec) → AddsPair st.limit lane.filling.size (situation (h ++ events_of s.acts) st times) rs known next after earlier (h ++ events_of s.acts) f later new more_out
          → AddsPair limit layout.size (situation (h ++ events_of s.acts) st times) rs known next after earlier (h ++ events_of s.acts) f later new more_out
      adds_at rs pair =
          subst (λ (n : ℕ). AddsPair n layout.size (situation (h ++ events_of s.acts) st times) rs known next after earlier (h ++ events_of s.acts) f later new more_out) lim
          (subst (λ (n : ℕ). AddsPair st.limit n (situation (h ++ events_of s.acts) st times) rs known next after earlier (h ++ events_of s.acts) f later new more_out) size_is pair)

      loads_at : (rs : List Rec) (e : LoadEnd)
          → Loads (AddsAll st.limit lane.filling.size (situation (h ++ events_of s.acts) st times)) (AreAdded rs e) e known next after earlier (h ++ events_of s.acts) later new more_out
          → Loads (AddsAll limit layout.size (situation (h ++ events_of s.acts) st times)) (AreAdded rs e) e known next after earlier (h ++ events_of s.acts) later new more_out
      loads_at rs e loads =
          subst (λ (n : ℕ). Loads (AddsAll n layout.size (situation (h ++ events_of s.acts) st times)) (AreAdded rs e) e known next after earlier (h ++ events_of s.acts) later new more_out) lim
          (subst (λ (n : ℕ). Loads (AddsAll st.limit n (situation (h ++ events_of s.acts) st times)) (AreAdded rs e) e known next after earlier (h ++ events_of s.acts) later new more_out) size_is loads)

      -- the next pair begins
      pub round_next : (p : PcapReaderView) (now : Option (List ℕ)) (r : Rec) (records : ℕ) → records ≡ lane.filling.records
          → Fills written (λ bytes given. HasReadTo reader bytes (given ++ first ∷ []) left) first number lane p now (filled.Ready r)
          → ((rs : List Rec) → Represents written lane rs
          → AddsPair st.limit lane.filling.size (situation (h ++ events_of s.acts) st times) rs known next after earlier (h ++ events_of s.acts) f later new more_out)
          → SoFar limit layout start was next after earlier h f later old more_out Given (ReadBy p now) r (number + records)
      round_next p now r records count (more, has, short, ends, reads) fin =
          sofar_next limit layout start was earlier h f old Given known st times new (ReadBy reader left) first number s next after later more_out (ReadBy p now) more r records
          (adds_at (first ∷ more) (fin (first ∷ more) has)) (count ∙ has.fills.count) (short_at (first ∷ more) has) (few_at (first ∷ more) has) (ends_at (first ∷ more) r ends)
          (subst (λ (n : ℕ). IsShort n r) size_is short) reads

      -- a pair that more records follow was not finished
      pub round_stops : (p : PcapReaderView) (now : Option (List ℕ)) (r : Rec) (e : LoadEnd) → IsGoing p.phase
          → Fills written (λ bytes given. HasReadTo reader bytes (given ++ first ∷ []) left) first number lane p now (filled.Ready r)
          → ((rs : List Rec) → Represents written lane rs
          → Loads (AddsAll st.limit lane.filling.size (situation (h ++ events_of s.acts) st times)) (AreAdded rs e) e known next after earlier (h ++ events_of s.acts) later new more_out)
          → Loads (AddsAll limit layout.size start) (λ (pairs : List (List Rec)). (bytes : List ℕ) → Given bytes → AreCutFrom layout bytes e pairs) e was next after earlier h later old more_out
      round_stops p now r e goes (more, has, short, ends, reads) fin =
          let all = short_at (first ∷ more) has in
          sofar_fails limit layout start was earlier h f old Given known st times new (ReadBy reader left) first number s (Are e) e next after later more_out (first ∷ more)
          (loads_at (first ∷ more) e (fin (first ∷ more) has))
          (λ pairs are bytes given.
          let (before, read, is, cut) = s.input bytes given in
          ⊎_elim
          (λ (none, any). subst (λ (x : List (List Rec)). AreCutFrom layout bytes e (s.done ++ x)) (sym none) (subst (λ (x : List (List Rec)). AreCutFrom layout bytes e x) (sym (append-nil s.done))
          (left_of layout bytes e s.done before first cut (first_short layout.size first more all) (read_input reader left bytes (before ++ first ∷ []) going read) (λ others. any (first ∷ others) (omega arith)))))
          (λ (one, fault). subst (λ (x : List (List Rec)). AreCutFrom layout bytes e (s.done ++ x)) (sym one)
          (fault_of layout bytes e (s.done ++ (first ∷ more) ∷ []) (before ++ first ∷ more) r
          (cut_on layout.size layout.blocks s.done before first more r cut all (few_at (first ∷ more) has) (ends_at (first ∷ more) r ends) (subst (λ (n : ℕ). IsShort n r) size_is short))
          (subst (λ (l : List Rec). IsInputOf bytes l) (sym (append_assoc before (first ∷ more) (r ∷ []))) (read_input p now bytes (before ++ (first ∷ more ++ r ∷ [])) goes (reads bytes before read))) fault))
          (at_most (first ∷ more) e pairs are))

      -- the last pair was finished
      pub round_last : (p : PcapReaderView) (now : Option (List ℕ)) (e : LoadEnd) → after.halted ≡ None → (lane.filling.records ≡ 0 → ⊥) → IsInputEnd e
          → Fills written (λ bytes given. HasReadTo reader bytes (given ++ first ∷ []) left) first number lane p now (filled.Ended e)
          → ((rs : List Rec) → Represents written lane rs
          → AddsPair st.limit lane.filling.size (situation (h ++ events_of s.acts) st times) rs known next after earlier (h ++ events_of s.acts) f later new more_out)
          → Loads (AddsAll limit layout.size start) (λ (pairs : List (List Rec)). (bytes : List ℕ) → Given bytes → AreCutFrom layout bytes e pairs) e was next after earlier h later old more_out
      round_last p now e runs some is_end (rs, has, inl (nil, long), stops) fin = absurd (some (has.fills.count ∙ ap length nil))
      round_last p now e runs some is_end (rs, has, inr (more, is), stops) fin =
          let here = subst (Represents written lane) is has in
          sofar_last limit layout start was earlier h f old Given known st times new (ReadBy reader left) first number s (Are e) e next after later more_out (first ∷ more)
          (adds_at (first ∷ more) (fin (first ∷ more) here)) runs (input_quiet e is_end)
          (λ bytes given.
          let (before, read, at, cut) = s.input bytes given in
          let stop = subst (λ (n : ℕ). StopsAfter n bytes (before ++ rs) e) size_is (stops bytes before read at) in
          ended_of layout bytes e e s.done before first more cut (short_at (first ∷ more) here) (few_at (first ∷ more) here)
          (subst (λ (l : List Rec). StopsAfter layout.size bytes (before ++ l) e) is stop) (inl refl))

      -- or it wasn't
      pub round_ends : (p : PcapReaderView) (now : Option (List ℕ)) (e failed : LoadEnd) → (lane.filling.records ≡ 0 → ⊥)
          → Fills written (λ bytes given. HasReadTo reader bytes (given ++ first ∷ []) left) first number lane p now (filled.Ended e)
          → ((rs : List Rec) → Represents written lane rs
          → Loads (AddsAll st.limit lane.filling.size (situation (h ++ events_of s.acts) st times)) (AreAdded rs failed) failed known next after earlier (h ++ events_of s.acts) later new more_out)
          → Loads (AddsAll limit layout.size start) (λ (pairs : List (List Rec)). (bytes : List ℕ) → Given bytes → AreCutFrom layout bytes failed pairs) failed was next after earlier h later old more_out
      round_ends p now e failed some (rs, has, inl (nil, long), stops) fin = absurd (some (has.fills.count ∙ ap length nil))
      round_ends p now e failed some (rs, has, inr (more, is), stops) fin =
          let here = subst (Represents written lane) is has in
          let all = short_at (first ∷ more) here in
          sofar_fails limit layout start was earlier h f old Given known st times new (ReadBy reader left) first number s (Are failed) failed next after later more_out (first ∷ more)
          (loads_at (first ∷ more) failed (fin (first ∷ more) here))
          (λ pairs are bytes given.
          let (before, read, at, cut) = s.input bytes given in
          let stop = subst (λ (n : ℕ). StopsAfter n bytes (before ++ rs) e) size_is (stops bytes before read at) in
          ⊎_elim
          (λ (none, any). subst (λ (x : List (List Rec)). AreCutFrom layout bytes failed (s.done ++ x)) (sym none) (subst (λ (x : List (List Rec)). AreCutFrom layout bytes failed x) (sym (append-nil s.done))
          (left_of layout bytes failed s.done before first cut (first_short layout.size first more all) (read_input reader left bytes (before ++ first ∷ []) going read) (λ others. any (first ∷ others) (omega arith)))))
          (λ (one, fault). subst (λ (x : List (List Rec)). AreCutFrom layout bytes failed (s.done ++ x)) (sym one)
          (ended_of layout bytes e failed s.done before first more cut all (few_at (first ∷ more) here)
          (subst (λ (l : List Rec). StopsAfter layout.size bytes (before ++ l) e) is stop) (inr fault)))
          (at_most (first ∷ more) failed pairs are))

-- before the first round
pub round_none : (limit : ℕ) (layout : LanePlan) (known : Option Log) (log : Log) (st : SpoolState) (earlier h : List Event) (f : Files) (times old : Option (List ℕ)) (reader : PcapReaderView) (left : Option (List ℕ)) (first : Rec)
    → known ≡ Some log → StandsFor IsWholePair known st earlier h f → st.halted ≡ None
    → SoFar limit layout (situation h st times) known known st earlier h f times old old (λ bytes. HasReadTo reader bytes (first ∷ []) left) (ReadBy reader left) first 1
round_none limit layout known log st earlier h f times old reader left first is stands runs =
    let same : h ++ [] ≡ h = append-nil h in
    record {
      log = log;
      is = is;
      done = [];
      acts = [];
      adds = (refl, ap (λ x. situation x st times) same);
      stands = subst (λ x. StandsFor IsWholePair known st earlier x f) (sym same) stands;
      lines = Appends-nil old;
      images = covered_none known st earlier h f stands (no_doubt known st earlier h f stands runs);
      input = λ bytes given. ([], given, refl, cut_none layout.size layout.blocks first);
    }
