-- What a publication makes of the state and of the history.
use Rattle.std.proofs.Common.{◌≡◌, ◌<◌, ◌≤◌, ◌+◌, ◌-◌, ℕ, List, [], ◌∷◌, ◌++◌, length, drop, take, map, Option, None, Some, refl, sym, ◌∙◌, ap, subst, arith, length-append, append_assoc}
use Rattle.std.proofs.lemmas.List.{append-nil, take-append-le}
use Rattle.st_disk.specs.Folders.{Folder}
use Rattle.st_disk.specs.declared.naming.Name.TheVariants.{Block, Index, Parked}
use Rattle.st_disk.specs.Disks.{Log, reads}
use Rattle.st_disk.specs.Events.{Event, Publish, events}
use Rattle.st_disk.specs.LoggedCalls.{Reads, KnownBefore}
use Rattle.st_disk.proofs.Images.{leaves_now}
use Rattle.st_disk.proofs.Runs.{ran_widen}
use Rattle.st_disk.specs.Runs.{Each, Ran}
use Rattle.st_disk.specs.Pairs.{Entry, Files, PairsIn, IsFileSet}
use Rattle.st_disk.proofs.Reading.{known_log}
use Rattle.st_spool.specs.Rows.{Row, Free, Half, Coming, Pair, Fits, Has, set_row, RanBy}
use Rattle.st_spool.specs.Settling.{entry}
use Rattle.st_spool.specs.History.{set_of, entries_of, Legal}
use Rattle.st_spool.specs.Recalling.{entries_in}
use Rattle.st_spool.specs.States.{SpoolState, rows_of, with_doubt, MayBe, AreUpTo, IsWithin}
use Rattle.st_spool.specs.Standing.{StandsFor, OnDisk, NoDoubtUntilHalted, Gives, in_doubt, failed_event, after_found, PublishWhole, stamp_of}
use Rattle.st_spool.specs.Publishing.{RanTo, RanInDoubt}
use Rattle.st_spool.specs.declared.state.Doubt.{Doubt}
use Rattle.st_spool.specs.declared.state.Doubt.TheVariants as doubt
use Rattle.st_spool.proofs.Giving.{free as free_row, set_more_is, coming_sets, half_sets}
use Rattle.st_spool.proofs.Setting.{sure_set}
use Rattle.st_spool.proofs.Doubted.{IsRead, read_rows_of}
use Rattle.st_spool.proofs.Recalled.{found_more, above_shows, recalls_on}
use Rattle.st_spool.proofs.Histories.{entries_more, legal_more, after_more, whole_more, whole_first}
use Rattle.st_spool.proofs.Places.{rows_published, rows_sure, rows_set, file_set_more, up_to_more, drop_more}

stamps_more : (es : List Entry) (e : Entry) → map stamp_of (es ++ e ∷ []) ≡ map stamp_of es ++ e.stamp ∷ []
stamps_more [] e = refl
stamps_more (d ∷ ds) e = ap (λ (xs : List ℕ). d.stamp ∷ xs) (stamps_more ds e)

-- before a call failed nothing is in doubt
pub no_doubt_doubt : (halted : Option ℕ) (d : Doubt) (halts : ℕ) → halted ≡ None → NoDoubtUntilHalted halted d halts → d ≡ doubt.Nothing
no_doubt_doubt halted d halts none no_doubt = (subst (λ (o : Option ℕ). NoDoubtUntilHalted o d halts) none no_doubt).0

-- events more
pub past_more : (past earlier mid es : List Event) → past ≡ earlier ++ (mid ++ []) → past ++ es ≡ earlier ++ (mid ++ es)
past_more past earlier mid es is =
    ap (λ (xs : List Event). xs ++ es) (is ∙ ap (λ (xs : List Event). earlier ++ xs) (append-nil mid)) ∙ append_assoc earlier mid es

-- the run of a call ends with the log that is known now
pub ran_each : (first : Log) (known : Option Log) (es : List Event) (P Q : Folder → Type 0) → Ran first known es P Q → (log : Log) → known ≡ Some log → Each log Q
ran_each first known es P Q run log is = subst (λ (k : Log). Each k Q) (known_log run.log log (sym run.is ∙ is)) run.each

pub ran_past : (first : Log) (known : Option Log) (es : List Event) (P Q : Folder → Type 0) → Ran first known es P Q → (log : Log) → known ≡ Some log → events log ≡ events first ++ es
ran_past first known es P Q run log is = ap events (known_log log run.log (sym is ∙ run.is)) ∙ run.past

module _ (W : List ℕ → List ℕ → Type 0) (old new : Option Log) (st : SpoolState) (earlier h : List Event) (k f : Files) (t : ℕ) (stands : StandsFor W old st earlier h k) (running : st.halted ≡ None) (more : st.last < t) where
  rows : ℕ → Row
  rows = rows_of st.removed st.holds st.last (entries_of h)

  none : st.doubt ≡ doubt.Nothing
  none = no_doubt_doubt st.halted st.doubt st.halts running stands.no_doubt

  free : rows_of st.removed st.holds st.last (entries_of h) t ≡ Free
  free = free_row W old st earlier h k stands t f more

  entries : entries_of (h ++ Publish (entry t f) ∷ []) ≡ entries_of h ++ entry t f ∷ []
  entries = entries_more [] h (Publish (entry t f))

  rises_all : IsFileSet (entries_of h ++ entry t f ∷ [])
  rises_all = file_set_more st.last (entries_of h) (entry t f) stands.last more stands.rises

  -- the images of the state, of which nothing is in doubt
  pub each_row : (l : Log) → old ≡ Some l → Each l (Has (rows_of st.removed st.holds st.last (entries_of h)))
  each_row l known = subst (λ (d : Doubt). Each l (Has (with_doubt d k (rows_of st.removed st.holds st.last (entries_of h))))) none (stands.disk l known).images

  past_without_doubt : (l : Log) → old ≡ Some l → events l ≡ earlier ++ (after_found h ++ [])
  past_without_doubt l known = subst (λ (d : Doubt). events l ≡ earlier ++ (after_found h ++ in_doubt d k)) none (stands.disk l known).past

  whole_without_doubt : (l : Log) → old ≡ Some l → PublishWhole W h
  whole_without_doubt l known = whole_first W h (failed_event st.doubt k) (stands.disk l known).whole

  done_rows : (c : Folder) → Has (set_row (rows_of st.removed st.holds st.last (entries_of h)) t (Pair f)) c → Has (rows_of st.removed st.holds t (entries_of (h ++ Publish (entry t f) ∷ []))) c
  done_rows c has =
      subst (λ (es : List Entry). Has (rows_of st.removed st.holds t es) c) (sym entries) (rows_published st.removed st.last st.holds (entries_of h) (entry t f) stands.last more stands.within c has)

  rises_new : IsFileSet (entries_of (h ++ Publish (entry t f) ∷ []))
  rises_new = subst IsFileSet (sym entries) rises_all

  set_new : set_of (h ++ Publish (entry t f) ∷ []) ≡ drop st.removed (entries_of (h ++ Publish (entry t f) ∷ []))
  set_new = set_more_is W old st earlier h k stands t f more ∙ sym (drop_more st.removed (entries_of h) (entry t f) stands.within) ∙ ap (drop st.removed) (sym entries)

  done_sets : (c : Folder) → Has (set_row (rows_of st.removed st.holds st.last (entries_of h)) t (Pair f)) c → PairsIn c (set_of (h ++ Publish (entry t f) ∷ []))
  done_sets c has =
      subst (λ (s : List Entry). PairsIn c s) (sym set_new)
      (sure_set (rows_of st.removed st.holds t (entries_of (h ++ Publish (entry t f) ∷ []))) (drop st.removed (entries_of (h ++ Publish (entry t f) ∷ []))) c (rows_sure st.removed t st.holds (entries_of (h ++ Publish (entry t f) ∷ [])))
      (rows_set st.removed t st.holds (entries_of (h ++ Publish (entry t f) ∷ [])) rises_new) (done_rows c has))

  longer : length (entries_of (h ++ Publish (entry t f) ∷ [])) ≡ length (entries_of h) + 1
  longer = ap length entries ∙ length-append (entries_of h) (entry t f ∷ [])

  within_more : (span : _) → IsWithin (length (entries_of h)) span → IsWithin (length (entries_of (h ++ Publish (entry t f) ∷ []))) span
  within_more span is = let long = longer in let to : span.to ≤ length (entries_of h) = is.1 in (is.0, omega arith)

  legal_new : Legal st.limit (h ++ Publish (entry t f) ∷ [])
  legal_new = legal_more st.limit h (Publish (entry t f)) stands.legal (rises_all, tt)

  events_longer : length (after_found (h ++ Publish (entry t f) ∷ [])) ≡ length (after_found h) + 1
  events_longer = ap length (after_more st.limit h (Publish (entry t f) ∷ []) stands.legal) ∙ length-append (after_found h) (Publish (entry t f) ∷ [])

  -- meanwhile each folder shows all pairs that were found
  shows : (r : Row) → st.removed ≡ 0 → in_doubt st.doubt k ≡ [] → (c : Folder) → Has (set_row (rows_of st.removed st.holds st.last (entries_of h)) t r) c → entries_in c (map stamp_of (entries_of h)) ≡ entries_of h
  shows r zero no_doubt c has =
      above_shows st.last st.holds (entries_of h) c t r stands.rises stands.last more (subst (λ (g : ℕ). Has (set_row (rows_of g st.holds st.last (entries_of h)) t r) c) zero has)

  stamps_longer : (stamps : List ℕ) → stamps ≡ st.stamps ++ t ∷ [] → length stamps ≡ length st.stamps + 1
  stamps_longer stamps pushed = ap length pushed ∙ length-append st.stamps (t ∷ [])

  counts_new : (stamps : List ℕ) → stamps ≡ st.stamps ++ t ∷ [] → length (after_found (h ++ Publish (entry t f) ∷ [])) ≡ (length stamps - st.found) + st.removed
  counts_new stamps pushed =
      let long = stamps_longer stamps pushed in
      let longer = events_longer in
      let few : st.found ≤ length st.stamps = stands.found in
      let was : length (after_found h) ≡ (length st.stamps - st.found) + st.removed = stands.counts in
      omega arith

  same_found : (stamps : List ℕ) → stamps ≡ st.stamps ++ t ∷ [] → take st.found stamps ≡ take st.found st.stamps
  same_found stamps pushed = ap (take st.found) pushed ∙ take-append-le st.found st.stamps (t ∷ []) stands.found

  pub published_stands : (stamps : List ℕ) → stamps ≡ st.stamps ++ t ∷ [] → ((l : Log) → old ≡ Some l → W f.block f.index) → KnownBefore old new
      → ((l : Log) (rows : ℕ → Row) → old ≡ Some l → Each l (Has rows) → rows t ≡ Free → RanBy l new (Publish (entry t f) ∷ []) (set_row rows t (Coming f)) (set_row rows t (Pair f)))
      → StandsFor W new (record st { stamps = stamps; last = t }) earlier (h ++ Publish (entry t f) ∷ []) k
  published_stands stamps pushed whole before placed = record {
    legal = legal_new;
    more = subst (λ (d : Doubt). Legal st.limit ((h ++ Publish (entry t f) ∷ []) ++ failed_event d k)) (sym none) (subst (Legal st.limit) (sym (append-nil (h ++ Publish (entry t f) ∷ []))) legal_new);
    found = let few : st.found ≤ length st.stamps = stands.found in let long = stamps_longer stamps pushed in omega arith;
    counts = counts_new stamps pushed;
    stamps = ap (map stamp_of) entries ∙ stamps_more (entries_of h) (entry t f) ∙ ap (λ (xs : List ℕ). xs ++ t ∷ []) stands.stamps ∙ sym pushed;
    set = set_new;
    within = let long = longer in let was : st.removed ≤ length (entries_of h) = stands.within in omega arith;
    rises = rises_new;
    last = subst (λ (es : List Entry). AreUpTo t es) (sym entries) (up_to_more st.last t (entries_of h) (entry t f) (omega arith) (omega arith) stands.last);
    holds = λ span has. within_more span (stands.holds span has);
    asked = within_more st.asked stands.asked;
    no_doubt = stands.no_doubt;
    doubt = subst (λ (d : Doubt). MayBe d k st.removed t (entries_of (h ++ Publish (entry t f) ∷ []))) (sym none) tt;
    disk = λ m known.
        let was = before m known in
        let run = placed was.0 (rows_of st.removed st.holds st.last (entries_of h)) was.1 (each_row was.0 was.1) free in
        let past_now : events m ≡ earlier ++ (after_found (h ++ Publish (entry t f) ∷ []) ++ []) =
        ran_past was.0 new (Publish (entry t f) ∷ []) (Has (set_row (rows_of st.removed st.holds st.last (entries_of h)) t (Coming f))) (Has (set_row (rows_of st.removed st.holds st.last (entries_of h)) t (Pair f))) run m known
        ∙ past_more (events was.0) earlier (after_found h) (Publish (entry t f) ∷ []) (past_without_doubt was.0 was.1)
        ∙ ap (λ (xs : List Event). earlier ++ xs) (sym (append-nil (after_found (h ++ Publish (entry t f) ∷ [])) ∙ after_more st.limit h (Publish (entry t f) ∷ []) stands.legal)) in
        let images_now : Each m (Has (rows_of st.removed st.holds t (entries_of (h ++ Publish (entry t f) ∷ [])))) = λ c left. done_rows c (ran_each was.0 new (Publish (entry t f) ∷ []) (Has (set_row (rows_of st.removed st.holds st.last (entries_of h)) t (Coming f))) (Has (set_row (rows_of st.removed st.holds st.last (entries_of h)) t (Pair f))) run m known c left) in
        subst (λ (d : Doubt). OnDisk W m (record st { stamps = stamps; last = t; doubt = d }) earlier (h ++ Publish (entry t f) ∷ []) k) (sym none) (record {
          images = images_now;
          past = past_now;
          whole = whole_more W (h ++ Publish (entry t f) ∷ []) [] (whole_more W h (Publish (entry t f) ∷ []) (whole_without_doubt was.0 was.1) (whole was.0 was.1, tt)) tt;
          recalls = recalls_on W old new st earlier h k stands (record st { stamps = stamps; last = t; doubt = doubt.Nothing }) (h ++ Publish (entry t f) ∷ []) k was.0 m (Publish (entry t f) ∷ []) (Has (set_row (rows_of st.removed st.holds st.last (entries_of h)) t (Coming f))) (Has (set_row (rows_of st.removed st.holds st.last (entries_of h)) t (Pair f))) was.1 known run
              (same_found stamps pushed) (found_more st.limit h (Publish (entry t f) ∷ []) stands.legal) legal_new past_now (counts_new stamps pushed) (shows (Coming f));
          read = images_now (reads m) (leaves_now m);
        });
  }

  pub published_images : (l : Log) → old ≡ Some l → ((l : Log) (rows : ℕ → Row) → old ≡ Some l → Each l (Has rows) → rows t ≡ Free → RanBy l new (Publish (entry t f) ∷ []) (set_row rows t (Coming f)) (set_row rows t (Pair f)))
      → RanTo l new h (Publish (entry t f))
  published_images l known placed =
      ran_widen l new (Publish (entry t f) ∷ []) (Has (set_row (rows_of st.removed st.holds st.last (entries_of h)) t (Coming f))) (Has (set_row (rows_of st.removed st.holds st.last (entries_of h)) t (Pair f))) (Gives h (Publish (entry t f) ∷ [])) (λ c. PairsIn c (set_of (h ++ Publish (entry t f) ∷ []))) (coming_sets W old st earlier h k stands t f more) done_sets
      (placed l (rows_of st.removed st.holds st.last (entries_of h)) known (each_row l known) free)

  -- a publication that failed leaves the history
  failed_stands : (d : Doubt) (r : Row) (es : List Event) (since halts : ℕ) → 0 < halts → with_doubt d f (rows_of st.removed st.holds st.last (entries_of h)) ≡ set_row (rows_of st.removed st.holds st.last (entries_of h)) t r → in_doubt d f ≡ es
      → ((l : Log) → old ≡ Some l → PublishWhole W (failed_event d f)) → ((m : Log) → new ≡ Some m → IsRead d f (reads m)) → Legal st.limit (h ++ failed_event d f) → MayBe d f st.removed st.last (entries_of h) → KnownBefore old new
      → ((l : Log) (rows : ℕ → Row) → old ≡ Some l → Each l (Has rows) → rows t ≡ Free → RanBy l new es (set_row rows t r) (set_row rows t r))
      → StandsFor W new (record st { doubt = d; halted = Some since; halts = halts }) earlier h f
  failed_stands d r es since halts some rows_are in_doubt_is whole is_read more_legal may before placed = record {
    legal = stands.legal;
    more = more_legal;
    found = stands.found;
    counts = stands.counts;
    stamps = stands.stamps;
    set = stands.set;
    within = stands.within;
    rises = stands.rises;
    last = stands.last;
    holds = stands.holds;
    asked = stands.asked;
    no_doubt = some;
    doubt = may;
    disk = λ m known.
        let was = before m known in
        let run = placed was.0 (rows_of st.removed st.holds st.last (entries_of h)) was.1 (each_row was.0 was.1) free in
        let images_now : Each m (Has (with_doubt d f (rows_of st.removed st.holds st.last (entries_of h)))) =
        subst (λ (q : ℕ → Row). Each m (Has q)) (sym rows_are) (ran_each was.0 new es (Has (set_row (rows_of st.removed st.holds st.last (entries_of h)) t r)) (Has (set_row (rows_of st.removed st.holds st.last (entries_of h)) t r)) run m known) in
        let past_now : events m ≡ earlier ++ (after_found h ++ in_doubt d f) =
        ran_past was.0 new es (Has (set_row (rows_of st.removed st.holds st.last (entries_of h)) t r)) (Has (set_row (rows_of st.removed st.holds st.last (entries_of h)) t r)) run m known
        ∙ past_more (events was.0) earlier (after_found h) es (past_without_doubt was.0 was.1) ∙ ap (λ (xs : List Event). earlier ++ (after_found h ++ xs)) (sym in_doubt_is) in
        record {
          images = images_now;
          past = past_now;
          whole = whole_more W h (failed_event d f) (whole_without_doubt was.0 was.1) (whole was.0 was.1);
          recalls = recalls_on W old new st earlier h k stands (record st { doubt = d; halted = Some since; halts = halts }) h f was.0 m es (Has (set_row (rows_of st.removed st.holds st.last (entries_of h)) t r)) (Has (set_row (rows_of st.removed st.holds st.last (entries_of h)) t r)) was.1 known run
              refl refl stands.legal past_now stands.counts (shows r);
          read = read_rows_of d f (rows_of st.removed st.holds st.last (entries_of h)) (reads m) (images_now (reads m) (leaves_now m)) (is_read m known);
        };
  }

  pub unsettled_stands : (since halts : ℕ) → 0 < halts → ((l : Log) → old ≡ Some l → W f.block f.index) → KnownBefore old new → ((l : Log) (rows : ℕ → Row) → old ≡ Some l → Each l (Has rows) → rows t ≡ Free → RanBy l new [] (set_row rows t (Half f)) (set_row rows t (Half f)))
      → StandsFor W new (record st { doubt = doubt.Unsettled t; halted = Some since; halts = halts }) earlier h f
  unsettled_stands since halts some whole before placed = failed_stands (doubt.Unsettled t) (Half f) [] since halts some refl refl (λ l known. (whole l known, tt)) (λ m now. tt) legal_new more before placed

  pub settled_stands : (since halts : ℕ) → 0 < halts → ((l : Log) → old ≡ Some l → W f.block f.index) → KnownBefore old new → ((l : Log) (rows : ℕ → Row) → old ≡ Some l → Each l (Has rows) → rows t ≡ Free → RanBy l new (Publish (entry t f) ∷ []) (set_row rows t (Coming f)) (set_row rows t (Coming f)) × Reads new (Block t) (λ v. v ≡ Some f.block) × Reads new (Index t) (λ v. v ≡ Some f.index))
      → StandsFor W new (record st { doubt = doubt.Settled t; halted = Some since; halts = halts }) earlier h f
  settled_stands since halts some whole before placed = failed_stands (doubt.Settled t) (Coming f) (Publish (entry t f) ∷ []) since halts some refl refl (λ l known. (whole l known, tt))
      (λ m now. let was = before m now in let r = placed was.0 (rows_of st.removed st.holds st.last (entries_of h)) was.1 (each_row was.0 was.1) free in (r.1 m now, r.2 m now))
      legal_new more before (λ l rows known each none_yet. (placed l rows known each none_yet).0)

  pub unsettled_images : (l : Log) → old ≡ Some l → ((l : Log) (rows : ℕ → Row) → old ≡ Some l → Each l (Has rows) → rows t ≡ Free → RanBy l new [] (set_row rows t (Half f)) (set_row rows t (Half f))) → RanInDoubt l new h []
  unsettled_images l known placed =
      ran_widen l new [] (Has (set_row (rows_of st.removed st.holds st.last (entries_of h)) t (Half f))) (Has (set_row (rows_of st.removed st.holds st.last (entries_of h)) t (Half f))) (Gives h []) (Gives h []) (half_sets W old st earlier h k stands t f more) (half_sets W old st earlier h k stands t f more)
      (placed l (rows_of st.removed st.holds st.last (entries_of h)) known (each_row l known) free)

  pub settled_images : (l : Log) → old ≡ Some l → ((l : Log) (rows : ℕ → Row) → old ≡ Some l → Each l (Has rows) → rows t ≡ Free → RanBy l new (Publish (entry t f) ∷ []) (set_row rows t (Coming f)) (set_row rows t (Coming f)) × Reads new (Block t) (λ v. v ≡ Some f.block) × Reads new (Index t) (λ v. v ≡ Some f.index))
      → RanInDoubt l new h (Publish (entry t f) ∷ [])
  settled_images l known placed =
      ran_widen l new (Publish (entry t f) ∷ []) (Has (set_row (rows_of st.removed st.holds st.last (entries_of h)) t (Coming f))) (Has (set_row (rows_of st.removed st.holds st.last (entries_of h)) t (Coming f))) (Gives h (Publish (entry t f) ∷ [])) (Gives h (Publish (entry t f) ∷ [])) (coming_sets W old st earlier h k stands t f more) (coming_sets W old st earlier h k stands t f more)
      (placed l (rows_of st.removed st.holds st.last (entries_of h)) known (each_row l known) free).0

  free_fits : (l : Log) → old ≡ Some l → Fits Free (reads l (Block t)) (reads l (Index t)) (reads l (Parked t))
  free_fits l known = subst (λ (q : Row). Fits q (reads l (Block t)) (reads l (Index t)) (reads l (Parked t))) free (each_row l known (reads l) (leaves_now l) t)

  -- nothing is read under the names of the next stamp
  pub free_read : Reads old (Index t) (λ v. v ≡ None) × Reads old (Block t) (λ v. v ≡ None)
  free_read = (λ l known. (free_fits l known).1, λ l known. (free_fits l known).0)
