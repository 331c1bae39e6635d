-- The history that a state and a log tell, as the log grows.
use Rattle.std.proofs.Common.{◌≡◌, ◌<◌, ◌≤◌, ◌+◌, ◌-◌, ◌⊎◌, ℕ, zero, suc, List, [], ◌∷◌, ◌++◌, length, drop, take, map, Option, None, Some, Bool, true, cond, nat_eq, nat_le, nat_lt, refl, sym, ◌∙◌, ap, subst, ⊎_elim, arith, length-append}
use Rattle.std.proofs.lemmas.Bool.Decides.{nat_tests}
use Rattle.st_disk.specs.declared.naming.Name.TheVariants.{Block, Index, Parked}
use Rattle.st_disk.specs.declared.changes.Call.{Call}
use Rattle.st_disk.specs.Folders.{Folder, join, folder_of, given, where_there}
use Rattle.st_disk.specs.Disks.{Log, Grew, log_of, reads, moment, at_moment}
use Rattle.st_disk.specs.Events.{Event, Found, Publish, Remove, events, events_from, call_events, read_after}
use Rattle.st_disk.specs.Pairs.{Entry, Files, files_of, IsFileSet}
use Rattle.st_disk.specs.Runs.{Ran, LeavesOnly}
use Rattle.st_disk.proofs.Images.{leaves_now}
use Rattle.st_disk.proofs.Reading.{known_log}
use Rattle.st_spool.specs.Rows.{Row, Pair, Going, Held, Past, Fits, Has, set_row}
use Rattle.st_spool.specs.History.{entries_of, Legal}
use Rattle.st_spool.specs.States.{SpoolState, rows_of, row_at, covers, AreUpTo}
use Rattle.st_spool.specs.Recalling.{entry_in, entries_in, calls_within, first_read, log_before, event_count, in_doubt_count, earlier_count, history}
use Rattle.st_spool.specs.Standing.{StandsFor, in_doubt, after_found, stamp_of}
use Rattle.st_spool.specs.declared.state.Span.{Span}
use Rattle.st_spool.specs.declared.state.Doubt.{Doubt}
use Rattle.st_spool.specs.declared.state.Doubt.TheVariants.{Nothing, Unsettled, Settled, Unhidden, Hidden}
use Rattle.st_spool.proofs.Keeping.{by_test, is_same, has_here, has_other}
use Rattle.st_spool.proofs.Aged.{at_place, drop_next}

-- all calls, if they make no more events
within_all : (m : ℕ) (f : Folder) (cs : List Call) → length (events_from f cs) ≤ m → calls_within m f cs ≡ cs
within_all m f [] le = refl
within_all m f (c ∷ cs) le =
    let long : length (events_from f (c ∷ cs)) ≡ length (call_events f c) + length (events_from (read_after f c) cs) = length-append (call_events f c) (events_from (read_after f c) cs) in
    let first : nat_le (length (call_events f c)) m ≡ true = grind (arith, nat_tests) in
    ap (λ (b : Bool). cond b (c ∷ calls_within (m - length (call_events f c)) (read_after f c) cs) []) first
    ∙ ap (λ (xs : List Call). c ∷ xs) (within_all (m - length (call_events f c)) (read_after f c) cs (omega arith))

-- none of the calls after an event too many
within_less : (m : ℕ) (f : Folder) (cs more : List Call) → m < length (events_from f cs) → calls_within m f (cs ++ more) ≡ calls_within m f cs
within_less m f [] more lt = absurd (omega arith)
within_less m f (c ∷ cs) more lt =
    let long : length (events_from f (c ∷ cs)) ≡ length (call_events f c) + length (events_from (read_after f c) cs) = length-append (call_events f c) (events_from (read_after f c) cs) in
    by_test (nat_le (length (call_events f c)) m) (λ b. cond b (c ∷ calls_within (m - length (call_events f c)) (read_after f c) (cs ++ more)) [] ≡ cond b (c ∷ calls_within (m - length (call_events f c)) (read_after f c) cs) [])
    (λ yes. let le : length (call_events f c) ≤ m = grind (arith, nat_tests) in ap (λ (xs : List Call). c ∷ xs) (within_less (m - length (call_events f c)) (read_after f c) cs more (omega arith)))
    (λ no. refl)

-- always the first calls
within_some : (m : ℕ) (f : Folder) (cs : List Call) → (j : ℕ) × (j ≤ length cs) × (calls_within m f cs ≡ take j cs)
within_some m f [] = (0, omega arith, refl)
within_some m f (c ∷ cs) =
    by_test (nat_le (length (call_events f c)) m) (λ b. (j : ℕ) × (j ≤ length (c ∷ cs)) × (cond b (c ∷ calls_within (m - length (call_events f c)) (read_after f c) cs) [] ≡ take j (c ∷ cs)))
    (λ yes. let r = within_some (m - length (call_events f c)) (read_after f c) cs in let le : r.0 ≤ length cs = r.1 in (suc r.0, omega arith, ap (λ (xs : List Call). c ∷ xs) r.2))
    (λ no. (0, omega arith, refl))

within_later : (m : ℕ) (f : Folder) (cs more : List Call) → length (events_from f cs) ≤ m → (j : ℕ) × (length cs ≤ j) × (j ≤ length (cs ++ more)) × (calls_within m f (cs ++ more) ≡ take j (cs ++ more))
within_later m f [] more le = let r = within_some m f more in (r.0, omega arith, r.1, r.2)
within_later m f (c ∷ cs) more le =
    let long : length (events_from f (c ∷ cs)) ≡ length (call_events f c) + length (events_from (read_after f c) cs) = length-append (call_events f c) (events_from (read_after f c) cs) in
    let first : nat_le (length (call_events f c)) m ≡ true = grind (arith, nat_tests) in
    let r = within_later (m - length (call_events f c)) (read_after f c) cs more (omega arith) in
    let low : length cs ≤ r.0 = r.1 in
    let high : r.0 ≤ length (cs ++ more) = r.2 in (
      suc r.0,
      omega arith,
      omega arith,
      ap (λ (b : Bool). cond b (c ∷ calls_within (m - length (call_events f c)) (read_after f c) (cs ++ more)) []) first ∙ ap (λ (xs : List Call). c ∷ xs) r.3,
    )

-- the log before an event, as the log grows
module _ (a b : Log) (grew : Grew a b) (m : ℕ) where
  first_same : first_read b ≡ first_read a
  first_same = λ i. join (folder_of (grew.blocks i)) (folder_of (grew.indexes i))

  calls_grew : calls_within m (first_read b) b.calls ≡ calls_within m (first_read a) (a.calls ++ grew.more)
  calls_grew = λ i. calls_within m (first_same i) (grew.calls i)

  pub before_same : m < length (events a) → log_before m b ≡ log_before m a
  unfolding events
  before_same lt =
      let calls = calls_grew ∙ within_less m (first_read a) a.calls grew.more lt in
      λ i. log_of (grew.blocks i) (grew.indexes i) (calls i)

  pub before_later : length (events a) ≤ m → (j : ℕ) × (moment a ≤ j) × (j ≤ moment b) × (log_before m b ≡ at_moment j b)
  unfolding events
  before_later le =
      let r = within_later m (first_read a) a.calls grew.more le in
      let high : r.0 ≤ length b.calls = subst (λ (cs : List Call). r.0 ≤ length cs) (sym grew.calls) r.2 in
      (r.0, r.1, high, ap (λ (cs : List Call). log_of b.start_blocks b.start_indexes cs) (calls_grew ∙ r.3 ∙ ap (take r.0) (sym grew.calls)))

pub before_now : (a : Log) (m : ℕ) → length (events a) ≤ m → log_before m a ≡ a
unfolding events
before_now a m le = ap (λ (cs : List Call). log_of a.start_blocks a.start_indexes cs) (within_all m (first_read a) a.calls le)

below_or : (m n : ℕ) → (m < n) ⊎ (n ≤ m)
below_or m n = grind arith

-- entries that were found are found again after a run whose images have them, or that went on from a later event
pub found_later : (a b : Log) (known : Option Log) (es : List Event) (P Q : Folder → Type 0) (m : ℕ) (ss : List ℕ) (found : List Entry) → Ran a known es P Q → known ≡ Some b → entries_in (reads (log_before m a)) ss ≡ found
    → (length (events a) ≤ m → (c : Folder) → P c → entries_in c ss ≡ found) → entries_in (reads (log_before m b)) ss ≡ found
found_later a b known es P Q m ss found run is was shows =
    let only = subst (λ (l : Log). LeavesOnly a l P) (known_log run.log b (sym run.is ∙ is)) run.only in
    ⊎_elim (λ (lt : m < length (events a)). ap (λ (l : Log). entries_in (reads l) ss) (before_same a b only.grew m lt) ∙ was)
    (λ (le : length (events a) ≤ m).
    let r = before_later a b only.grew m le in
    ap (λ (l : Log). entries_in (reads l) ss) r.3 ∙ shows le (reads (at_moment r.0 b)) (only.since (reads (at_moment r.0 b)) (r.0, r.1, r.2, leaves_now (at_moment r.0 b))))
    (below_or m (length (events a)))

-- the pairs that a history found
abbrev pub found_of : List Event → List Entry
found_of [] = []
found_of (Found es ∷ h) = es
found_of (Publish e ∷ h) = []
found_of (Remove s ∷ h) = []

pub found_more : (limit : ℕ) (h es : List Event) → Legal limit h → found_of (h ++ es) ≡ found_of h
found_more limit [] es legal = absurd legal
found_more limit (Found xs ∷ h) es legal = refl
found_more limit (Publish e ∷ h) es legal = absurd legal
found_more limit (Remove s ∷ h) es legal = absurd legal

drop_first : (xs ys : List Event) → drop (length xs) (xs ++ ys) ≡ ys
drop_first [] ys = refl
drop_first (x ∷ xs) ys = drop_first xs ys

take_first : (xs ys : List Event) → take (length xs) (xs ++ ys) ≡ xs
take_first [] ys = refl
take_first (x ∷ xs) ys = ap (λ (zs : List Event). x ∷ zs) (take_first xs ys)

in_doubt_long : (d : Doubt) (f : Files) → length (in_doubt d f) ≡ in_doubt_count d
in_doubt_long Nothing f = refl
in_doubt_long (Unsettled t) f = refl
in_doubt_long (Settled t) f = refl
in_doubt_long (Unhidden t) f = refl
in_doubt_long (Hidden t) f = refl

module _ (st : SpoolState) (log : Log) (earlier h : List Event) (f : Files) (past : events log ≡ earlier ++ (after_found h ++ in_doubt st.doubt f)) (counts : length (after_found h) ≡ event_count st) where
  long : length (events log) ≡ length earlier + (event_count st + in_doubt_count st.doubt)
  long = ap length past ∙ length-append earlier (after_found h ++ in_doubt st.doubt f)
      ∙ ap (λ (n : ℕ). length earlier + n) (length-append (after_found h) (in_doubt st.doubt f) ∙ (λ i. counts i + in_doubt_long st.doubt f i))

  pub earlier_long : earlier_count st log ≡ length earlier
  earlier_long = let l = long in omega arith

  pub found_from : history st log ≡ h → entries_in (reads (log_before (length earlier) log)) (take st.found st.stamps) ≡ found_of h
  found_from is = ap (λ (n : ℕ). entries_in (reads (log_before n log)) (take st.found st.stamps)) (sym earlier_long) ∙ ap found_of is

  since_is : take (event_count st) (drop (earlier_count st log) (events log)) ≡ after_found h
  since_is =
      ap (λ (n : ℕ). take (event_count st) (drop n (events log))) earlier_long
      ∙ ap (λ (xs : List Event). take (event_count st) (drop (length earlier) xs)) past
      ∙ ap (take (event_count st)) (drop_first earlier (after_found h ++ in_doubt st.doubt f))
      ∙ ap (λ (n : ℕ). take n (after_found h ++ in_doubt st.doubt f)) (sym counts) ∙ take_first (after_found h) (in_doubt st.doubt f)

  as_found : (limit : ℕ) → Legal limit h → h ≡ Found (found_of h) ∷ after_found h
  as_found limit legal = parts limit h legal
    where
      parts : (limit : ℕ) (h : List Event) → Legal limit h → h ≡ Found (found_of h) ∷ after_found h
      parts limit [] legal = absurd legal
      parts limit (Found es ∷ h) legal = refl
      parts limit (Publish e ∷ h) legal = absurd legal
      parts limit (Remove s ∷ h) legal = absurd legal

  pub recall_by : (limit : ℕ) → Legal limit h → entries_in (reads (log_before (length earlier) log)) (take st.found st.stamps) ≡ found_of h → history st log ≡ h
  recall_by limit legal found =
      let all = ap (λ (n : ℕ). entries_in (reads (log_before n log)) (take st.found st.stamps)) earlier_long ∙ found in
      let since = since_is in
      (λ i. Found (all i) ∷ since i) ∙ sym (as_found limit legal)

-- an entry of which a folder has the files
abbrev pub Shows : Files → Option (List ℕ) → Option (List ℕ) → Option (List ℕ) → Type 0
Shows f b i p = (b ≡ Some f.block) × (where_there i (λ x. x) (given p) ≡ f.index)

pub shows_pair : (f : Files) (b i p : Option (List ℕ)) → Fits (Pair f) b i p → Shows f b i p
shows_pair f b i p fits = (fits.0, ap (λ (o : Option (List ℕ)). where_there o (λ x. x) (given p)) fits.1)

pub shows_going : (f : Files) (b i p : Option (List ℕ)) → Fits (Going f) b i p → Shows f b i p
shows_going f b i p fits = (
  fits.0,
  ⊎_elim (λ (q : (i ≡ Some f.index) × (p ≡ None)). ap (λ (o : Option (List ℕ)). where_there o (λ x. x) (given p)) q.0)
      (λ (q : (i ≡ None) × (p ≡ Some f.index)). ap (λ (o : Option (List ℕ)). where_there o (λ x. x) (given p)) q.0 ∙ ap given q.1) fits.1,
)

abbrev entry_by : ℕ → List ℕ → List ℕ → Entry
entry_by s b i = record { stamp = s; block = b; index = i }

entry_shown : (c : Folder) (e : Entry) → Shows (files_of e) (c (Block e.stamp)) (c (Index e.stamp)) (c (Parked e.stamp)) → entry_in c e.stamp ≡ e
entry_shown c e shows = let block = ap given shows.0 in let index = shows.1 in λ i. entry_by e.stamp (block i) (index i)

entries_shown : (c : Folder) (all : List Entry) → ((i : ℕ) (e : Entry) (rest : List Entry) → drop i all ≡ e ∷ rest → Shows (files_of e) (c (Block e.stamp)) (c (Index e.stamp)) (c (Parked e.stamp))) → entries_in c (map stamp_of all) ≡ all
entries_shown c all shows = from 0 all refl
  where
    from : (i : ℕ) (es : List Entry) → drop i all ≡ es → entries_in c (map stamp_of es) ≡ es
    from i [] is = refl
    from i (e ∷ es) is =
        let one = entry_shown c e (shows i e es is) in
        let more = from (i + 1) es (drop_next i all e es is) in
        λ j. one j ∷ more j

pair_row : (last i : ℕ) (sp : List Span) (all : List Entry) (e : Entry) (rest : List Entry) → drop i all ≡ e ∷ rest → IsFileSet all → rows_of 0 sp last all e.stamp ≡ Pair (files_of e)
pair_row last i sp all e rest is rises =
    let low : nat_le 0 (0 + i) ≡ true = grind (arith, nat_tests) in
    ap (row_at 0 sp (nat_lt last e.stamp)) (at_place 0 i all e rest is rises)
    ∙ ap (λ (b : Bool). cond b (Pair (files_of e)) (cond (covers sp (0 + i)) (Held (files_of e)) Past)) low

-- a folder shows all pairs of which none was removed
pub rows_show : (last : ℕ) (sp : List Span) (all : List Entry) (c : Folder) → IsFileSet all → Has (rows_of 0 sp last all) c → entries_in c (map stamp_of all) ≡ all
rows_show last sp all c rises has =
    entries_shown c all (λ i e rest is. shows_pair (files_of e) (c (Block e.stamp)) (c (Index e.stamp)) (c (Parked e.stamp)) (subst (λ (r : Row). Fits r (c (Block e.stamp)) (c (Index e.stamp)) (c (Parked e.stamp))) (pair_row last i sp all e rest is rises) (has e.stamp)))

-- with another row at a stamp
pub set_shows : (last : ℕ) (sp : List Span) (all : List Entry) (c : Folder) (t : ℕ) (r : Row) → IsFileSet all
    → ((i : ℕ) (e : Entry) (rest : List Entry) → drop i all ≡ e ∷ rest → t ≡ e.stamp → (b x p : Option (List ℕ)) → Fits r b x p → Shows (files_of e) b x p)
    → Has (set_row (rows_of 0 sp last all) t r) c → entries_in c (map stamp_of all) ≡ all
set_shows last sp all c t r rises here has =
    entries_shown c all (λ i e rest is.
    by_test (nat_eq t e.stamp) (λ z. Shows (files_of e) (c (Block e.stamp)) (c (Index e.stamp)) (c (Parked e.stamp)))
    (λ yes. let same : t ≡ e.stamp = is_same t e.stamp yes in
    subst (λ (s : ℕ). Shows (files_of e) (c (Block s)) (c (Index s)) (c (Parked s))) same (here i e rest is same (c (Block t)) (c (Index t)) (c (Parked t)) (has_here (rows_of 0 sp last all) t r c has)))
    (λ no. shows_pair (files_of e) (c (Block e.stamp)) (c (Index e.stamp)) (c (Parked e.stamp))
    (subst (λ (q : Row). Fits q (c (Block e.stamp)) (c (Index e.stamp)) (c (Parked e.stamp))) (pair_row last i sp all e rest is rises) (has_other (rows_of 0 sp last all) t r c has e.stamp no))))

up_to_at : (k last : ℕ) (all : List Entry) (e : Entry) (rest : List Entry) → drop k all ≡ e ∷ rest → AreUpTo last all → e.stamp ≤ last
up_to_at zero last [] e rest is up = cc
up_to_at zero last (x ∷ xs) e rest is up = let same : x ≡ e = cc in subst (λ (y : Entry). y.stamp ≤ last) same up.0
up_to_at (suc k) last [] e rest is up = cc
up_to_at (suc k) last (x ∷ xs) e rest is up = up_to_at k last xs e rest is up.1

-- with another row at a stamp above all
pub above_shows : (last : ℕ) (sp : List Span) (all : List Entry) (c : Folder) (t : ℕ) (r : Row) → IsFileSet all → AreUpTo last all → last < t → Has (set_row (rows_of 0 sp last all) t r) c → entries_in c (map stamp_of all) ≡ all
above_shows last sp all c t r rises up lt has =
    set_shows last sp all c t r rises (λ i e rest is same. let le : e.stamp ≤ last = up_to_at i last all e rest is up in absurd (omega arith)) has

nothing_left : (xs ys : List Event) (n : ℕ) → length (xs ++ ys) ≡ 0 → (xs ≡ []) × (ys ≡ [])
nothing_left [] [] n e = (refl, refl)
nothing_left [] (y ∷ ys) n e = absurd (omega arith)
nothing_left (x ∷ xs) ys n e = absurd (omega arith)

no_more : (limit : ℕ) (h : List Event) → Legal limit h → after_found h ≡ [] → entries_of h ≡ found_of h
no_more limit [] legal none = absurd legal
no_more limit (Found es ∷ []) legal none = refl
no_more limit (Found es ∷ e ∷ h) legal none = cc
no_more limit (Publish e ∷ h) legal none = absurd legal
no_more limit (Remove s ∷ h) legal none = absurd legal

pub take_long : (n : ℕ) (xs : List ℕ) → length xs ≤ n → take n xs ≡ xs
take_long zero [] le = refl
take_long zero (x ∷ xs) le = absurd (omega arith)
take_long (suc n) [] le = refl
take_long (suc n) (x ∷ xs) le = ap (λ (ys : List ℕ). x ∷ ys) (take_long n xs (omega arith))

-- Calls after which a spool has this state and this history, over a shelf whose images meanwhile showed all pairs that
-- were found, if no event came before these calls.
module _ (W : List ℕ → List ℕ → Type 0) (old new : Option Log) (st : SpoolState) (earlier h : List Event) (k : Files) (stands : StandsFor W old st earlier h k) where
  pub found_on : (a b : Log) (now : Option Log) (es : List Event) (P Q : Folder → Type 0) → old ≡ Some a → now ≡ Some b → Ran a now es P Q
      → (st.removed ≡ 0 → in_doubt st.doubt k ≡ [] → (c : Folder) → P c → entries_in c (map stamp_of (entries_of h)) ≡ entries_of h)
      → entries_in (reads (log_before (length earlier) b)) (take st.found st.stamps) ≡ found_of h
  found_on a b now es P Q was is run shows =
      let disk = stands.disk a was in
      let first = found_from st a earlier h k disk.past stands.counts disk.recalls in
      found_later a b now es P Q (length earlier) (take st.found st.stamps) (found_of h) run is first
      (λ le.
      let long : length (events a) ≡ length earlier + length (after_found h ++ in_doubt st.doubt k) = ap length disk.past ∙ length-append earlier (after_found h ++ in_doubt st.doubt k) in
      let none = nothing_left (after_found h) (in_doubt st.doubt k) 0 (omega arith) in
      let zero_count : event_count st ≡ 0 = sym stands.counts ∙ ap length none.0 in
      let few : st.found ≤ length st.stamps = stands.found in
      let whole : take st.found st.stamps ≡ map stamp_of (entries_of h) = take_long st.found st.stamps (omega arith) ∙ sym stands.stamps in
      λ c has. ap (entries_in c) whole ∙ shows (omega arith) none.1 c has ∙ no_more st.limit h stands.legal none.0)

  pub recalls_with : (next : SpoolState) (after : List Event) (f : Files) (b : Log) → entries_in (reads (log_before (length earlier) b)) (take st.found st.stamps) ≡ found_of h
      → take next.found next.stamps ≡ take st.found st.stamps → found_of after ≡ found_of h → Legal st.limit after
      → events b ≡ earlier ++ (after_found after ++ in_doubt next.doubt f) → length (after_found after) ≡ event_count next
      → history next b ≡ after
  recalls_with next after f b found same_stamps same_found legal past counts =
      recall_by next b earlier after f past counts st.limit legal
      (ap (entries_in (reads (log_before (length earlier) b))) same_stamps ∙ found ∙ sym same_found)

  pub recalls_on : (next : SpoolState) (after : List Event) (f : Files) (a b : Log) (es : List Event) (P Q : Folder → Type 0) → old ≡ Some a → new ≡ Some b → Ran a new es P Q
      → take next.found next.stamps ≡ take st.found st.stamps → found_of after ≡ found_of h → Legal st.limit after
      → events b ≡ earlier ++ (after_found after ++ in_doubt next.doubt f) → length (after_found after) ≡ event_count next
      → (st.removed ≡ 0 → in_doubt st.doubt k ≡ [] → (c : Folder) → P c → entries_in c (map stamp_of (entries_of h)) ≡ entries_of h)
      → history next b ≡ after
  recalls_on next after f a b es P Q was now run same_stamps same_found legal past counts shows =
      recalls_with next after f b (found_on a b new es P Q was now run shows) same_stamps same_found legal past counts
