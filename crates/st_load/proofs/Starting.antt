-- A load begins with removals.
use Rattle.std.proofs.Common.{◌≡◌, ℕ, ◌⊎◌, inl, inr, ⊎_elim, List, [], ◌++◌, refl, sym, ap, ◌∙◌, subst, Option, Some, None}
use Rattle.std.proofs.lemmas.List.{append-nil}
use Rattle.std.specs.Io.KnownBytes.{Appends}
use Rattle.std.proofs.KnownBytes.{Appends-nil}
use Rattle.st_base.specs.Records.{Rec}
use Rattle.st_disk.specs.Disks.{Log}
use Rattle.st_disk.specs.Events.{Event}
use Rattle.st_disk.specs.Pairs.{Entry, Files}
use Rattle.st_pairs.specs.Pairs.{IsWholePair}
use Rattle.st_pcap.specs.Input.{Whole, Refused, Input}
use Rattle.st_pcap.specs.Reading.{PcapReaderView, HasRead, IsOutside, fresh}
use Rattle.st_pcap.specs.declared.errors.PcapErr.{PcapErr}
use Rattle.st_plan.specs.declared.jobs.LanePlan.{LanePlan}
use Rattle.st_spool.specs.History.{set_of}
use Rattle.st_spool.specs.Standing.{StandsFor, failed_event, in_doubt}
use Rattle.st_spool.specs.States.{SpoolState}
use Rattle.st_spool.specs.declared.state.Doubt.TheVariants as doubt
use Rattle.st_load.specs.Acts.{Act, events_of, lines_of, happen, removals, newest}
use Rattle.st_load.specs.Causes.{EndsUnread}
use Rattle.st_load.specs.Job.{Situation, AddsAll, IsJob}
use Rattle.st_load.specs.Loading.{Covered, Loads, AreCutFrom, situation}
use Rattle.st_load.specs.Publishing.{Ages, AgesAll}
use Rattle.st_load.specs.declared.ends.LoadEnd.{LoadEnd}
use Rattle.st_load.specs.declared.ends.LoadEnd.TheVariants as end
use Rattle.st_load.proofs.Cutting.{stop_of, unread_of}
use Rattle.st_load.proofs.Finishing.{no_doubt}
use Rattle.st_load.proofs.Going.{IsQuiet, loads_after, ends_between}
use Rattle.st_load.proofs.Jobs.{events_happen, lines_happen, happen_append}

no_lines : (es : List Event) (a : Option (List ℕ)) → Appends a a (lines_of (happen es))
no_lines es a = subst (Appends a a) (sym (lines_happen es)) (Appends-nil a)

module _ (limit size : ℕ) (first mid : Option Log) (st before : SpoolState) (earlier h : List Event) (f : Files) (times : Option (List ℕ)) (a : AgesAll first mid st earlier h f)
    (lim : st.limit ≡ limit) (last : st.last ≡ before.last) where
  abbrev gone : List Event
  gone = removals st.limit (set_of h)

  abbrev acts : List Act
  acts = happen gone

  abbrev start : Situation
  start = situation h before times

  history : h ++ events_of acts ≡ h ++ gone
  history = ap (λ es. h ++ es) (events_happen gone)

  -- what the load goes on from
  same_course : situation (h ++ events_of acts) st times ≡ record start { set = newest limit start.set }
  same_course =
      ap (λ (x : List Entry). let c : Situation = record { set = x; last = st.last; times = times } in c) (ap set_of history ∙ a.set ∙ ap (λ n. newest n (set_of h)) lim)
      ∙ ap (λ (n : ℕ). let c : Situation = record { set = newest limit (set_of h); last = n; times = times } in c) last

  job : (p : List (List Rec)) (more : List Act) (final : Situation) → AddsAll limit size (situation (h ++ events_of acts) st times) p more final → IsJob limit size start ([] ++ p) (acts ++ more) final
  job p more final adds =
      (more, ap (λ n. happen (removals n (set_of h)) ++ more) lim, subst (λ (c : Situation). AddsAll limit size c p more final) same_course adds)

  covered : Covered first mid h (events_of acts) []
  covered = subst (λ es. Covered first mid h es []) (sym (events_happen gone)) a.images

  -- and then a load of some pairs
  pub starts_then : (Are Are2 : List (List Rec) → Type 0) (e : LoadEnd) (known : Option Log) (after : SpoolState) (later old new : Option (List ℕ))
      → ((p : List (List Rec)) → Are2 p → Are p)
      → Loads (AddsAll limit size (situation (h ++ removals st.limit (set_of h)) st times)) Are2 e mid known after earlier (h ++ removals st.limit (set_of h)) later old new
      → Loads (IsJob limit size (situation h before times)) Are e first known after earlier h later old new
  starts_then Are Are2 e known after later old new ares loads =
      loads_after (IsJob limit size start) (AddsAll limit size (situation (h ++ events_of acts) st times)) Are Are2 e first mid known after earlier h later old old new [] acts
      job ares (no_lines gone old) covered
      (subst (λ x. Loads (AddsAll limit size (situation x st times)) Are2 e mid known after earlier x later old new) (sym history) loads)

  -- or nothing more
  pub starts_ends : (Are : List (List Rec) → Type 0) (e : LoadEnd) (old : Option (List ℕ)) → Are [] → IsQuiet e → st.doubt ≡ doubt.Nothing
      → Loads (IsJob limit size (situation h before times)) Are e first mid st earlier h times old old
  starts_ends Are e old are quiet no_doubt =
      ends_between (IsJob limit size start) Are e first mid st earlier h f times old old [] acts
      (subst (λ (xs : List Act). IsJob limit size start [] xs (situation (h ++ events_of acts) st times)) (append-nil acts) (job [] [] (situation (h ++ events_of acts) st times) (refl, refl)))
      are quiet (no_lines gone old) (subst (λ x. StandsFor IsWholePair mid st earlier x f) (sym history) a.stands) no_doubt covered

-- a removal failed
pub starts_fails : (limit size : ℕ) (first known : Option Log) (st before : SpoolState) (earlier h : List Event) (times old : Option (List ℕ)) (Are : List (List Rec) → Type 0)
    → Ages first known st earlier h → st.limit ≡ limit → Are []
    → Loads (IsJob limit size (situation h before times)) Are end.DiskFault first known st earlier h times old old
starts_fails limit size first known st before earlier h times old Are a lim are =
    let start : Situation = situation h before times in
    let final : Situation = record start { set = newest limit start.set } in
    record {
      pairs = [];
      are = are;
      acts = happen a.events;
      to_come = happen a.to_come;
      did = record {
        final = final;
        job = ([], sym (happen_append a.events a.to_come) ∙ ap happen (sym a.are ∙ ap (λ n. removals n (set_of h)) lim) ∙ sym (append-nil (happen (removals limit (set_of h)))), (refl, refl));
        ends = tt;
        lines = no_lines a.events old;
      };
      f = a.f;
      stands = subst (λ es. StandsFor IsWholePair known st earlier (h ++ es) a.f) (sym (events_happen a.events)) a.stands;
      doubt = (happen a.later, ap happen a.doubt ∙ happen_append (failed_event st.doubt a.f) a.later);
      images = subst (λ es. Covered first known h es (in_doubt st.doubt a.f)) (sym (events_happen a.events)) a.images;
    }

-- what a new reader read
pub fresh_read : (p : PcapReaderView) (bytes : List ℕ) → p ≡ fresh → HasRead p bytes [] bytes
fresh_read p bytes is = subst (λ (x : PcapReaderView). HasRead x bytes [] bytes) (sym is) (refl, refl, refl, refl)

-- how a load ends that could not read a first record
unread_ends : (error : PcapErr) (e : LoadEnd) → EndsUnread error e → IsQuiet e
unread_ends error e (inl (is, read)) = subst IsQuiet (sym read) tt
unread_ends error e (inr (inl (is, memory))) = subst IsQuiet (sym memory) tt
unread_ends error e (inr (inr (bad, inside))) = subst IsQuiet (sym bad) tt

unread_are : (layout : LanePlan) (bytes : List ℕ) (error : PcapErr) (e : LoadEnd) → EndsUnread error e → IsOutside error ⊎ Input bytes [] (Refused error) → AreCutFrom layout bytes e []
unread_are layout bytes error e (inl (is, read)) gives = subst (λ (x : LoadEnd). AreCutFrom layout bytes x []) (sym read) (unread_of layout bytes end.ReadFault (λ left. tt))
unread_are layout bytes error e (inr (inl (is, memory))) gives = subst (λ (x : LoadEnd). AreCutFrom layout bytes x []) (sym memory) (unread_of layout bytes end.NoMemory (λ left. tt))
unread_are layout bytes error e (inr (inr (bad, inside))) gives = subst (λ (x : LoadEnd). AreCutFrom layout bytes x []) (sym bad)
    (stop_of layout bytes (end.BadInput error) (⊎_elim (λ outside. absurd (inside outside)) (λ input. input) gives))

-- the removals before the input failed
pub start_fails : (limit : ℕ) (layout : LanePlan) (first known : Option Log) (st before : SpoolState) (earlier h : List Event) (times left old : Option (List ℕ)) (e : LoadEnd) → e ≡ end.DiskFault
    → Ages first known st earlier h → st.limit ≡ limit
    → Loads (IsJob limit layout.size (situation h before times)) (λ (pairs : List (List Rec)). (bytes : List ℕ) → left ≡ Some bytes → AreCutFrom layout bytes e pairs) e first known st earlier h times old old
start_fails limit layout first known st before earlier h times left old e is ages lim =
    subst (λ (x : LoadEnd). Loads (IsJob limit layout.size (situation h before times)) (λ (pairs : List (List Rec)). (bytes : List ℕ) → left ≡ Some bytes → AreCutFrom layout bytes x pairs) x first known st earlier h times old old) (sym is)
    (starts_fails limit layout.size first known st before earlier h times old (λ (pairs : List (List Rec)). (bytes : List ℕ) → left ≡ Some bytes → AreCutFrom layout bytes end.DiskFault pairs)
    ages lim (λ bytes known. unread_of layout bytes end.DiskFault (λ left. tt)))

module _ (limit : ℕ) (layout : LanePlan) (first mid : Option Log) (st before : SpoolState) (earlier h : List Event) (f : Files) (times left old : Option (List ℕ)) (a : AgesAll first mid st earlier h f)
    (lim : st.limit ≡ limit) (last : st.last ≡ before.last) where
  -- the input has no record
  pub start_whole : st.halted ≡ None → ((bytes : List ℕ) → left ≡ Some bytes → Input bytes [] Whole)
      → Loads (IsJob limit layout.size (situation h before times)) (λ (pairs : List (List Rec)). (bytes : List ℕ) → left ≡ Some bytes → AreCutFrom layout bytes end.Done pairs) end.Done first mid st earlier h times old old
  start_whole runs input =
      starts_ends limit layout.size first mid st before earlier h f times a lim last (λ (pairs : List (List Rec)). (bytes : List ℕ) → left ≡ Some bytes → AreCutFrom layout bytes end.Done pairs) end.Done old
      (λ bytes known. stop_of layout bytes end.Done (input bytes known)) tt (no_doubt mid st earlier (h ++ removals st.limit (set_of h)) f a.stands runs)

  -- or the first is refused, or not read
  pub start_unread : (error : PcapErr) (e : LoadEnd) → st.halted ≡ None → EndsUnread error e → ((bytes : List ℕ) → left ≡ Some bytes → IsOutside error ⊎ Input bytes [] (Refused error))
      → Loads (IsJob limit layout.size (situation h before times)) (λ (pairs : List (List Rec)). (bytes : List ℕ) → left ≡ Some bytes → AreCutFrom layout bytes e pairs) e first mid st earlier h times old old
  start_unread error e runs ends gives =
      starts_ends limit layout.size first mid st before earlier h f times a lim last (λ (pairs : List (List Rec)). (bytes : List ℕ) → left ≡ Some bytes → AreCutFrom layout bytes e pairs) e old
      (λ bytes known. unread_are layout bytes error e ends (gives bytes known)) (unread_ends error e ends) (no_doubt mid st earlier (h ++ removals st.limit (set_of h)) f a.stands runs)

  -- or pairs were loaded
  pub start_then : (Are2 : List (List Rec) → Type 0) (e : LoadEnd) (known : Option Log) (after : SpoolState) (later new : Option (List ℕ))
      → ((p : List (List Rec)) → Are2 p → (bytes : List ℕ) → left ≡ Some bytes → AreCutFrom layout bytes e p)
      → Loads (AddsAll st.limit layout.size (situation (h ++ removals st.limit (set_of h)) st times)) Are2 e mid known after earlier (h ++ removals st.limit (set_of h)) later old new
      → Loads (IsJob limit layout.size (situation h before times)) (λ (pairs : List (List Rec)). (bytes : List ℕ) → left ≡ Some bytes → AreCutFrom layout bytes e pairs) e first known after earlier h later old new
  start_then Are2 e known after later new ares loads =
      starts_then limit layout.size first mid st before earlier h f times a lim last (λ (pairs : List (List Rec)). (bytes : List ℕ) → left ≡ Some bytes → AreCutFrom layout bytes e pairs) Are2 e known after later old new ares
      (subst (λ (n : ℕ). Loads (AddsAll n layout.size (situation (h ++ removals st.limit (set_of h)) st times)) Are2 e mid known after earlier (h ++ removals st.limit (set_of h)) later old new) lim loads)
