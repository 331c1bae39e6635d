-- What an ageing makes of the state and of the history.
use Rattle.std.proofs.Common.{◌≡◌, ◌<◌, ◌≤◌, ◌+◌, ◌-◌, ℕ, List, [], ◌∷◌, ◌++◌, length, drop, take, map, Option, None, Some, IsSome, false, refl, sym, ◌∙◌, ap, subst, inr, arith, length-append, length-drop, slice_index}
use Rattle.std.proofs.lemmas.List.{append-nil, length-map}
use Rattle.st_disk.specs.declared.naming.Name.TheVariants.{Block, Index, Parked}
use Rattle.st_disk.specs.Folders.{Folder}
use Rattle.st_disk.specs.Disks.{Log, reads}
use Rattle.st_disk.specs.Events.{Event, Remove, events}
use Rattle.st_disk.specs.LoggedCalls.{Reads, KnownBefore}
use Rattle.st_disk.specs.Runs.{Each, Ran}
use Rattle.st_disk.specs.Pairs.{Entry, Files, files_of, PairsIn, IsFileSet}
use Rattle.st_disk.proofs.Images.{leaves_now}
use Rattle.st_disk.proofs.Runs.{ran_widen, ran_then}
use Rattle.st_spool.specs.Rows.{Row, Pair, Going, Held, Past, Fits, Has, set_row, RanBy}
use Rattle.st_spool.specs.History.{set_of, entries_of, IsLeast, Legal}
use Rattle.st_spool.specs.States.{SpoolState, rows_of, with_doubt, MayBe, AreUpTo, IsWithin, place_in, Placement, covers}
use Rattle.st_spool.specs.Standing.{StandsFor, OnDisk, Gives, in_doubt, failed_event, after_found, PublishWhole, stamp_of}
use Rattle.st_spool.specs.Recalling.{entries_in, log_before}
use Rattle.st_spool.specs.Publishing.{RanTo, Fails}
use Rattle.st_spool.specs.declared.state.Span.{Span}
use Rattle.st_spool.specs.declared.state.Doubt.{Doubt}
use Rattle.st_spool.specs.declared.state.Doubt.TheVariants as doubt
use Rattle.st_spool.proofs.Setting.{sure_set}
use Rattle.st_spool.proofs.Stages.{start}
use Rattle.st_spool.proofs.Histories.{entries_more, legal_more, after_more, whole_more, whole_first}
use Rattle.st_spool.proofs.Places.{rows_sure, rows_set}
use Rattle.st_spool.proofs.Aged.{split_at, drop_next, at_place, rows_past, rows_aged}
use Rattle.st_spool.proofs.Published.{no_doubt_doubt, past_more, ran_each, ran_past}
use Rattle.st_spool.proofs.Doubted.{read_rows_of}
use Rattle.st_spool.proofs.Recalled.{Shows, shows_going, rows_show, set_shows, found_of, found_more, found_later, found_on, recalls_with, recalls_on}
use Rattle.st_spool.proofs.Giving.{is_pair, set_old, set_less, going_sets, sure_sets}

some_place : (x y : Placement) → ◌≡◌ {A = Option Placement} (Some x) (Some y) → x ≡ y
some_place x y e = cc

-- the entry that leaves
abbrev pub Leaving : SpoolState → List Event → ℕ → Type 0
Leaving st h t = (e : Entry) × (rest : List Entry) × (drop st.removed (entries_of h) ≡ e ∷ rest) × (t ≡ e.stamp) × (st.limit < length (e ∷ rest)) × (st.removed < length (entries_of h))

pub leaving : (W : List ℕ → List ℕ → Type 0) (known : Option Log) (st : SpoolState) (earlier h : List Event) (k : Files) (t : ℕ) → StandsFor W known st earlier h k → st.limit < length st.stamps - st.removed → t ≡ slice_index st.stamps st.removed → Leaving st h t
leaving W known st earlier h k t stands over at =
    let long : length (entries_of h) ≡ length st.stamps = sym (length-map (entries_of h) stamp_of) ∙ ap length stands.stamps in
    let lt : st.removed < length (entries_of h) = omega arith in
    let r = split_at st.removed (entries_of h) lt in
    let left : length (drop st.removed (entries_of h)) ≡ length (entries_of h) - st.removed = length-drop st.removed (entries_of h) in
    (r.0, r.1, r.2, at ∙ ap (λ (xs : List ℕ). slice_index xs st.removed) (sym stands.stamps) ∙ r.3, subst (λ (es : List Entry). st.limit < length es) r.2 (omega arith), lt)

module _ (W : List ℕ → List ℕ → Type 0) (old : Option Log) (st : SpoolState) (earlier h : List Event) (k : Files) (t : ℕ) (stands : StandsFor W old st earlier h k) (running : st.halted ≡ None) (e : Entry) (rest : List Entry) (is : drop st.removed (entries_of h) ≡ e ∷ rest) (same : t ≡ e.stamp) where
  none : st.doubt ≡ doubt.Nothing
  none = no_doubt_doubt st.halted st.doubt st.halts running stands.no_doubt

  pair_row : rows_of st.removed st.holds st.last (entries_of h) t ≡ Pair (files_of e)
  pair_row = is_pair W old st earlier h k stands t e rest is same

  each_row : (l : Log) → old ≡ Some l → Each l (Has (rows_of st.removed st.holds st.last (entries_of h)))
  each_row l known = subst (λ (d : Doubt). Each l (Has (with_doubt d k (rows_of st.removed st.holds st.last (entries_of h))))) none (stands.disk l known).images

  past_without_doubt : (l : Log) → old ≡ Some l → events l ≡ earlier ++ (after_found h ++ [])
  past_without_doubt l known = subst (λ (d : Doubt). events l ≡ earlier ++ (after_found h ++ in_doubt d k)) none (stands.disk l known).past

  whole_without_doubt : (l : Log) → old ≡ Some l → PublishWhole W h
  whole_without_doubt l known = whole_first W h (failed_event st.doubt k) (stands.disk l known).whole

  pair_fits : (l : Log) → old ≡ Some l → Fits (Pair (files_of e)) (reads l (Block t)) (reads l (Index t)) (reads l (Parked t))
  pair_fits l known = subst (λ (q : Row). Fits q (reads l (Block t)) (reads l (Index t)) (reads l (Parked t))) pair_row (each_row l known (reads l) (leaves_now l) t)

  pub there_read : Reads old (Index t) IsSome
  there_read l known = subst (λ (o : Option (List ℕ)). IsSome o) (sym (pair_fits l known).1) refl

  pub parked_free : Reads old (Parked t) (λ v. v ≡ None)
  parked_free l known = (pair_fits l known).2

  aged_rows : (c : Folder) → Has (set_row (rows_of st.removed st.holds st.last (entries_of h)) t (Held (files_of e))) c → Has (rows_of (st.removed + 1) st.holds st.last (entries_of h)) c
  aged_rows c has = rows_aged st.removed st.last st.holds (entries_of h) e rest is stands.rises c (subst (λ (n : ℕ). Has (set_row (rows_of st.removed st.holds st.last (entries_of h)) n (Held (files_of e))) c) same has)

  set_new : set_of (h ++ Remove t ∷ []) ≡ drop (st.removed + 1) (entries_of h)
  set_new = set_less W old st earlier h k stands t e rest is same ∙ sym (drop_next st.removed (entries_of h) e rest is)

  aged_sets : (c : Folder) → Has (rows_of (st.removed + 1) st.holds st.last (entries_of h)) c → PairsIn c (set_of (h ++ Remove t ∷ []))
  aged_sets c has =
      subst (λ (s : List Entry). PairsIn c s) (sym set_new)
      (sure_set (rows_of (st.removed + 1) st.holds st.last (entries_of h)) (drop (st.removed + 1) (entries_of h)) c (rows_sure (st.removed + 1) st.last st.holds (entries_of h)) (rows_set (st.removed + 1) st.last st.holds (entries_of h) stands.rises) has)

  entries : entries_of (h ++ Remove t ∷ []) ≡ entries_of h
  entries = entries_more [] h (Remove t)

  pasts : (stamps : List ℕ) (holds : List Span) → stamps ≡ st.stamps → holds ≡ st.holds → st.removed < length (entries_of h) → (n : ℕ) → n < st.removed + 1 → covers holds n ≡ false → rows_of (st.removed + 1) st.holds st.last (entries_of h) (slice_index stamps n) ≡ Past
  pasts stamps holds same_stamps same_holds in_list n lt out =
      let r = split_at n (entries_of h) (omega arith) in
      ap (rows_of (st.removed + 1) st.holds st.last (entries_of h)) (ap (λ (xs : List ℕ). slice_index xs n) (same_stamps ∙ sym stands.stamps) ∙ r.3)
      ∙ rows_past (st.removed + 1) st.last n st.holds (entries_of h) r.0 r.1 r.2 stands.rises lt (ap (λ (sp : List Span). covers sp n) (sym same_holds) ∙ out)

  Hides : Option Log → Type 0
  Hides mid = (l : Log) (rows : ℕ → Row) (f : Files) → old ≡ Some l → Each l (Has rows) → rows t ≡ Pair f → RanBy l mid (Remove t ∷ []) (set_row rows t (Going f)) (set_row rows t (Held f))

  -- the removal, and what was swept after it
  pub aged_run : (mid new : Option Log) (stamps : List ℕ) (holds : List Span) → stamps ≡ st.stamps → holds ≡ st.holds → st.removed < length (entries_of h)
      → ((l : Log) (rows : ℕ → Row) (f : Files) → old ≡ Some l → Each l (Has rows) → rows t ≡ Pair f → RanBy l mid (Remove t ∷ []) (set_row rows t (Going f)) (set_row rows t (Held f)))
      → ((l : Log) (rows : ℕ → Row) → ((n : ℕ) → n < st.removed + 1 → covers holds n ≡ false → rows (slice_index stamps n) ≡ Past) → RanBy l mid [] rows rows → RanBy l new [] rows rows)
      → (l : Log) → old ≡ Some l → Ran l new (Remove t ∷ []) (Gives h (Remove t ∷ [])) (Has (rows_of (st.removed + 1) st.holds st.last (entries_of h)))
  aged_run mid new stamps holds same_stamps same_holds in_list hidden swept l known =
      let rows = rows_of st.removed st.holds st.last (entries_of h) in
      let now = rows_of (st.removed + 1) st.holds st.last (entries_of h) in
      let run = hidden l rows (files_of e) known (each_row l known) pair_row in
      let wide = ran_widen l mid (Remove t ∷ []) (Has (set_row rows t (Going (files_of e)))) (Has (set_row rows t (Held (files_of e)))) (Gives h (Remove t ∷ [])) (Has now) (going_sets W old st earlier h k stands t e rest is same) aged_rows run in
      let more = swept wide.log now (pasts stamps holds same_stamps same_holds in_list) (start wide.log now mid wide.is wide.each) in
      ran_then l mid new (Remove t ∷ []) [] (Gives h (Remove t ∷ [])) (Has now) (Has now) wide (ran_widen wide.log new [] (Has now) (Has now) (Gives h (Remove t ∷ [])) (Has now) (λ c has. inr (aged_sets c has)) (λ c has. has) more)

  -- meanwhile each folder shows all pairs that were found
  same_files : (i : ℕ) (d : Entry) (more : List Entry) → drop i (entries_of h) ≡ d ∷ more → t ≡ d.stamp → files_of d ≡ files_of e
  same_files i d more at stamp =
      let one = at_place 0 i (entries_of h) d more at stands.rises in
      let two = at_place 0 st.removed (entries_of h) e rest is stands.rises in
      ap (λ (q : Placement). q.files) (some_place (record { place = 0 + i; files = files_of d }) (record { place = 0 + st.removed; files = files_of e }) (sym one ∙ ap (λ (q : ℕ). place_in 0 q (entries_of h)) (sym stamp ∙ same) ∙ two))

  shows_all : st.removed ≡ 0 → in_doubt st.doubt k ≡ [] → (c : Folder) → Has (rows_of st.removed st.holds st.last (entries_of h)) c → entries_in c (map stamp_of (entries_of h)) ≡ entries_of h
  shows_all zero no_doubt c has = rows_show st.last st.holds (entries_of h) c stands.rises (subst (λ (g : ℕ). Has (rows_of g st.holds st.last (entries_of h)) c) zero has)

  shows_leaving : st.removed ≡ 0 → in_doubt st.doubt k ≡ [] → (c : Folder) → Has (set_row (rows_of st.removed st.holds st.last (entries_of h)) t (Going (files_of e))) c → entries_in c (map stamp_of (entries_of h)) ≡ entries_of h
  shows_leaving zero no_doubt c has =
      set_shows st.last st.holds (entries_of h) c t (Going (files_of e)) stands.rises
      (λ i d more at stamp b x p fits. subst (λ (f : Files). Shows f b x p) (sym (same_files i d more at stamp)) (shows_going (files_of e) b x p fits))
      (subst (λ (g : ℕ). Has (set_row (rows_of g st.holds st.last (entries_of h)) t (Going (files_of e))) c) zero has)

  -- so what was found is known after the removal and what was swept after it
  pub aged_found : (mid new : Option Log) (stamps : List ℕ) (holds : List Span) → stamps ≡ st.stamps → holds ≡ st.holds → st.removed < length (entries_of h)
      → ((l : Log) (rows : ℕ → Row) (f : Files) → old ≡ Some l → Each l (Has rows) → rows t ≡ Pair f → RanBy l mid (Remove t ∷ []) (set_row rows t (Going f)) (set_row rows t (Held f)))
      → ((l : Log) (rows : ℕ → Row) → ((n : ℕ) → n < st.removed + 1 → covers holds n ≡ false → rows (slice_index stamps n) ≡ Past) → RanBy l mid [] rows rows → RanBy l new [] rows rows)
      → (l m : Log) → old ≡ Some l → new ≡ Some m → entries_in (reads (log_before (length earlier) m)) (take st.found st.stamps) ≡ found_of h
  aged_found mid new stamps holds same_stamps same_holds in_list hidden swept l m known now_known =
      let rows = rows_of st.removed st.holds st.last (entries_of h) in
      let now = rows_of (st.removed + 1) st.holds st.last (entries_of h) in
      let run = hidden l rows (files_of e) known (each_row l known) pair_row in
      let one = found_on W old new st earlier h k stands l run.log mid (Remove t ∷ []) (Has (set_row rows t (Going (files_of e)))) (Has (set_row rows t (Held (files_of e)))) known run.is run shows_leaving in
      let more = swept run.log now (pasts stamps holds same_stamps same_holds in_list) (start run.log now mid run.is (λ c left. aged_rows c (run.each c left))) in
      let long : length (events run.log) ≡ length (events l) + 1 = ap length run.past ∙ length-append (events l) (Remove t ∷ []) in
      let was : length (events l) ≡ length earlier + length (after_found h ++ []) = ap length (past_without_doubt l known) ∙ length-append earlier (after_found h ++ []) in
      found_later run.log m new [] (Has now) (Has now) (length earlier) (take st.found st.stamps) (found_of h) more now_known one (λ le. absurd (omega arith))

  legal_new : st.limit < length (e ∷ rest) → Legal st.limit (h ++ Remove t ∷ [])
  legal_new over =
      legal_more st.limit h (Remove t) stands.legal (subst (λ (s : List Entry). st.limit < length s) (sym (set_old W old st earlier h k stands t e rest is same)) over, subst (λ (s : List Entry). IsLeast t s) (sym (set_old W old st earlier h k stands t e rest is same)) (sym same), tt)

  counts_new : length (after_found (h ++ Remove t ∷ [])) ≡ (length st.stamps - st.found) + (st.removed + 1)
  counts_new =
      let longer : length (after_found (h ++ Remove t ∷ [])) ≡ length (after_found h) + 1 = ap length (after_more st.limit h (Remove t ∷ []) stands.legal) ∙ length-append (after_found h) (Remove t ∷ []) in
      let was : length (after_found h) ≡ (length st.stamps - st.found) + st.removed = stands.counts in
      omega arith

  module _ (new : Option Log) (before : KnownBefore old new) (run : (l : Log) → old ≡ Some l → Ran l new (Remove t ∷ []) (Gives h (Remove t ∷ [])) (Has (rows_of (st.removed + 1) st.holds st.last (entries_of h)))) (found : (l m : Log) → old ≡ Some l → new ≡ Some m → entries_in (reads (log_before (length earlier) m)) (take st.found st.stamps) ≡ found_of h) (over : st.limit < length (e ∷ rest)) (in_list : st.removed < length (entries_of h)) where
    pub aged_images : (l : Log) → old ≡ Some l → RanTo l new h (Remove t)
    aged_images l known = ran_widen l new (Remove t ∷ []) (Gives h (Remove t ∷ [])) (Has (rows_of (st.removed + 1) st.holds st.last (entries_of h))) (Gives h (Remove t ∷ [])) (λ c. PairsIn c (set_of (h ++ Remove t ∷ []))) (λ c has. has) aged_sets (run l known)

    pub aged_stands : (to : ℕ) → StandsFor W new (record st { removed = st.removed + 1; swept = to }) earlier (h ++ Remove t ∷ []) k
    aged_stands to = record {
      legal = legal_new over;
      more = subst (λ (d : Doubt). Legal st.limit ((h ++ Remove t ∷ []) ++ failed_event d k)) (sym none) (subst (Legal st.limit) (sym (append-nil (h ++ Remove t ∷ []))) (legal_new over));
      found = stands.found;
      counts = counts_new;
      stamps = ap (map stamp_of) entries ∙ stands.stamps;
      set = set_new ∙ ap (drop (st.removed + 1)) (sym entries);
      within = subst (λ (es : List Entry). st.removed + 1 ≤ length es) (sym entries) (omega arith);
      rises = subst IsFileSet (sym entries) stands.rises;
      last = subst (λ (es : List Entry). AreUpTo st.last es) (sym entries) stands.last;
      holds = λ span has. subst (λ (es : List Entry). IsWithin (length es) span) (sym entries) (stands.holds span has);
      asked = subst (λ (es : List Entry). IsWithin (length es) st.asked) (sym entries) stands.asked;
      no_doubt = stands.no_doubt;
      doubt = subst (λ (d : Doubt). MayBe d k (st.removed + 1) st.last (entries_of (h ++ Remove t ∷ []))) (sym none) tt;
      disk = λ m now.
          let was = before m now in
          let images_now : Each m (Has (rows_of (st.removed + 1) st.holds st.last (entries_of (h ++ Remove t ∷ [])))) =
          subst (λ (es : List Entry). Each m (Has (rows_of (st.removed + 1) st.holds st.last es))) (sym entries) (ran_each was.0 new (Remove t ∷ []) (Gives h (Remove t ∷ [])) (Has (rows_of (st.removed + 1) st.holds st.last (entries_of h))) (run was.0 was.1) m now) in
          let past_now : events m ≡ earlier ++ (after_found (h ++ Remove t ∷ []) ++ []) =
          ran_past was.0 new (Remove t ∷ []) (Gives h (Remove t ∷ [])) (Has (rows_of (st.removed + 1) st.holds st.last (entries_of h))) (run was.0 was.1) m now
          ∙ past_more (events was.0) earlier (after_found h) (Remove t ∷ []) (past_without_doubt was.0 was.1)
          ∙ ap (λ (xs : List Event). earlier ++ xs) (sym (append-nil (after_found (h ++ Remove t ∷ [])) ∙ after_more st.limit h (Remove t ∷ []) stands.legal)) in
          subst (λ (d : Doubt). OnDisk W m (record st { removed = st.removed + 1; swept = to; doubt = d }) earlier (h ++ Remove t ∷ []) k) (sym none) (record {
            images = images_now;
            past = past_now;
            whole = whole_more W (h ++ Remove t ∷ []) [] (whole_more W h (Remove t ∷ []) (whole_without_doubt was.0 was.1) tt) tt;
            recalls = recalls_with W old new st earlier h k stands (record st { removed = st.removed + 1; swept = to; doubt = doubt.Nothing }) (h ++ Remove t ∷ []) k m (found was.0 m was.1 now)
                refl (found_more st.limit h (Remove t ∷ []) stands.legal) (legal_new over) past_now counts_new;
            read = images_now (reads m) (leaves_now m);
          });
    }

  found : place_in 0 t (entries_of h) ≡ Some (record { place = st.removed; files = files_of e })
  found = ap (λ (q : ℕ). place_in 0 q (entries_of h)) same ∙ at_place 0 st.removed (entries_of h) e rest is stands.rises ∙ ap (λ (n : ℕ). Some (record { place = n; files = files_of e })) (omega arith)

  -- an ageing that failed leaves the history
  module _ (new : Option Log) (before : KnownBefore old new) (over : st.limit < length (e ∷ rest)) (since halts : ℕ) (some : 0 < halts) where
    pub unhidden_fails : ((l : Log) (rows : ℕ → Row) (f : Files) → old ≡ Some l → Each l (Has rows) → rows t ≡ Pair f → RanBy l new [] rows rows) → Fails W old new (record st { doubt = doubt.Unhidden t; halted = Some since; halts = halts }) earlier h (files_of e)
    unhidden_fails kept =
        let rows = rows_of st.removed st.holds st.last (entries_of h) in
        record {
          known = before;
          stands = record {
            legal = stands.legal;
            more = legal_new over;
            found = stands.found;
            counts = stands.counts;
            stamps = stands.stamps;
            set = stands.set;
            within = stands.within;
            rises = stands.rises;
            last = stands.last;
            holds = stands.holds;
            asked = stands.asked;
            no_doubt = some;
            doubt = found;
            disk = λ m now.
                let was = before m now in
                let run = kept was.0 rows (files_of e) was.1 (each_row was.0 was.1) pair_row in
                let images_now = ran_each was.0 new [] (Has rows) (Has rows) run m now in
                let past_now = ran_past was.0 new [] (Has rows) (Has rows) run m now ∙ past_more (events was.0) earlier (after_found h) [] (past_without_doubt was.0 was.1) in
                record {
                  images = images_now;
                  past = past_now;
                  whole = whole_more W h (Remove t ∷ []) (whole_without_doubt was.0 was.1) tt;
                  recalls = recalls_on W old new st earlier h k stands (record st { doubt = doubt.Unhidden t; halted = Some since; halts = halts }) h (files_of e) was.0 m [] (Has rows) (Has rows) was.1 now run refl refl stands.legal past_now stands.counts shows_all;
                  read = images_now (reads m) (leaves_now m);
                };
          };
          images = λ first known. ran_widen first new [] (Has rows) (Has rows) (Gives h []) (Gives h []) (sure_sets W old st earlier h k stands) (sure_sets W old st earlier h k stands) (kept first rows (files_of e) known (each_row first known) pair_row);
        }

    pub hidden_fails : ((l : Log) (rows : ℕ → Row) (f : Files) → old ≡ Some l → Each l (Has rows) → rows t ≡ Pair f → RanBy l new (Remove t ∷ []) (set_row rows t (Going f)) (set_row rows t (Going f)) × Reads new (Index t) (λ v. v ≡ None)) → Fails W old new (record st { doubt = doubt.Hidden t; halted = Some since; halts = halts }) earlier h (files_of e)
    hidden_fails hides =
        let rows = rows_of st.removed st.holds st.last (entries_of h) in
        let going = set_row (rows_of st.removed st.holds st.last (entries_of h)) t (Going (files_of e)) in
        record {
          known = before;
          stands = record {
            legal = stands.legal;
            more = legal_new over;
            found = stands.found;
            counts = stands.counts;
            stamps = stands.stamps;
            set = stands.set;
            within = stands.within;
            rises = stands.rises;
            last = stands.last;
            holds = stands.holds;
            asked = stands.asked;
            no_doubt = some;
            doubt = found;
            disk = λ m now.
                let was = before m now in
                let run = hides was.0 rows (files_of e) was.1 (each_row was.0 was.1) pair_row in
                let images_now = ran_each was.0 new (Remove t ∷ []) (Has going) (Has going) run.0 m now in
                let past_now = ran_past was.0 new (Remove t ∷ []) (Has going) (Has going) run.0 m now ∙ past_more (events was.0) earlier (after_found h) (Remove t ∷ []) (past_without_doubt was.0 was.1) in
                record {
                  images = images_now;
                  past = past_now;
                  whole = whole_more W h (Remove t ∷ []) (whole_without_doubt was.0 was.1) tt;
                  recalls = recalls_on W old new st earlier h k stands (record st { doubt = doubt.Hidden t; halted = Some since; halts = halts }) h (files_of e) was.0 m (Remove t ∷ []) (Has going) (Has going) was.1 now run.0 refl refl stands.legal past_now stands.counts shows_leaving;
                  read = read_rows_of (doubt.Hidden t) (files_of e) rows (reads m) (images_now (reads m) (leaves_now m)) (run.1 m now);
                };
          };
          images = λ first known. ran_widen first new (Remove t ∷ []) (Has going) (Has going) (Gives h (Remove t ∷ [])) (Gives h (Remove t ∷ [])) (going_sets W old st earlier h k stands t e rest is same) (going_sets W old st earlier h k stands t e rest is same) (hides first rows (files_of e) known (each_row first known) pair_row).0;
        }

some_first : (a b : List Entry) (d e : Entry) → ◌≡◌ {A = List Entry} (d ∷ a) (e ∷ b) → d ≡ e
some_first a b d e h = cc

-- the first entry of the set is the one that leaves
pub leaving_as : (W : List ℕ → List ℕ → Type 0) (known : Option Log) (st : SpoolState) (earlier h : List Event) (k : Files) (t : ℕ) (e : Entry) (rest : List Entry) → StandsFor W known st earlier h k → st.limit < length st.stamps - st.removed → t ≡ slice_index st.stamps st.removed → set_of h ≡ e ∷ rest
    → (drop st.removed (entries_of h) ≡ e ∷ rest) × (t ≡ e.stamp) × (st.limit < length (e ∷ rest)) × (st.removed < length (entries_of h))
leaving_as W known st earlier h k t e rest stands over at first =
    let r = leaving W known st earlier h k t stands over at in
    let same = sym r.2 ∙ sym stands.set ∙ first in
    (sym stands.set ∙ first, r.3 ∙ ap stamp_of (some_first r.1 rest r.0 e same), subst (λ (es : List Entry). st.limit < length es) same r.4, r.5)
