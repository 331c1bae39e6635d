-- Calls that have no event.
use Rattle.std.proofs.Common.{◌≡◌, ℕ, List, [], ◌∷◌, ◌++◌, map, Option, Some, Result, Ok, Err, refl, sym, ◌∙◌, ap, subst, ⊎_elim}
use Rattle.std.proofs.lemmas.List.{append-nil}
use Rattle.st_disk.specs.declared.naming.Kind.{Kind}
use Rattle.st_disk.specs.declared.naming.Name.TheVariants.{Block, Index, Draft}
use Rattle.st_disk.specs.declared.naming.Name.{Name}
use Rattle.st_disk.specs.declared.changes.Call.TheVariants.{Did, Other}
use Rattle.st_disk.specs.declared.changes.Change.TheVariants.{Make}
use Rattle.st_disk.specs.Folders.{Folder}
use Rattle.st_disk.specs.Disks.{Log, reads}
use Rattle.st_disk.specs.Events.{Event, events}
use Rattle.st_disk.specs.LoggedCalls.{Looks, Does, Reads, Abandons, KnownBefore, removal}
use Rattle.st_disk.specs.Pairs.{Entry, Files}
use Rattle.st_disk.proofs.Reading.{reads_still, reads_looked, other_spares, make_spares}
use Rattle.st_disk.proofs.Runs.{ran_widen, ran_quiet, each_did, each_other, known_looks, known_adds}
use Rattle.st_disk.proofs.Images.{leaves_now}
use Rattle.st_spool.specs.Rows.{Row, Half, Has, set_row, RanBy}
use Rattle.st_spool.specs.History.{entries_of}
use Rattle.st_spool.specs.Recalling.{entries_in}
use Rattle.st_spool.specs.States.{SpoolState, SpoolView, rows_by, rows_of, with_doubt, MayBe}
use Rattle.st_spool.specs.Standing.{StandsFor, Gives, in_doubt, stamp_of}
use Rattle.st_spool.specs.Publishing.{Keeps, Fails, RanTo}
use Rattle.st_spool.specs.Aging.{Removes, StoppedBy}
use Rattle.st_spool.specs.Settling.{FailsToHide}
use Rattle.st_spool.specs.declared.settling.Stopped.{Stopped}
use Rattle.st_spool.specs.declared.settling.Stopped.TheVariants.{Before, After}
use Rattle.st_disk.specs.Events as event
use Rattle.st_spool.specs.declared.state.Doubt.{Doubt}
use Rattle.st_spool.specs.declared.state.Doubt.TheVariants as doubt
use Rattle.st_spool.proofs.Keeping.{make_keeps}
use Rattle.st_spool.proofs.Doubted.{KeepsRead, still_read, is_read_of, read_rows_of}
use Rattle.st_spool.proofs.Recalled.{recalls_on, rows_show, above_shows}
use Rattle.st_spool.proofs.Stages.{start, looks, abandons}
use Rattle.st_spool.proofs.Published.{ran_each, ran_past}
use Rattle.st_spool.proofs.Giving.{gives}
use Rattle.st_spool.proofs.Entering.{reads_removing}

-- a call keeps what each image has, whatever that is, and what is read as a block or an index
pub record KeepsRows (old new : Option Log) : Type 0 where
  pub known : KnownBefore old new
  pub ran : (first : Log) (rows : ℕ → Row) → RanBy first old [] rows rows → RanBy first new [] rows rows
  pub reads : (t : ℕ) (v : Option (List ℕ)) → (Reads old (Block t) (λ x. x ≡ v) → Reads new (Block t) (λ x. x ≡ v)) × (Reads old (Index t) (λ x. x ≡ v) → Reads new (Index t) (λ x. x ≡ v))

keeps_read : (d : Doubt) (old new : Option Log) → KeepsRows old new → KeepsRead d old new
keeps_read doubt.Nothing old new keeps n v none read = absurd none
keeps_read (doubt.Unsettled t) old new keeps n v none read = absurd none
keeps_read (doubt.Settled t) old new keeps n v of read =
    ⊎_elim (λ (is : n ≡ Block t). subst (λ (m : Name). Reads new m (λ x. x ≡ v)) (sym is) ((keeps.reads t v).0 (subst (λ (m : Name). Reads old m (λ x. x ≡ v)) is read)))
    (λ (is : n ≡ Index t). subst (λ (m : Name). Reads new m (λ x. x ≡ v)) (sym is) ((keeps.reads t v).1 (subst (λ (m : Name). Reads old m (λ x. x ≡ v)) is read))) of
keeps_read (doubt.Unhidden t) old new keeps n v none read = absurd none
keeps_read (doubt.Hidden t) old new keeps n v is read = subst (λ (m : Name). Reads new m (λ x. x ≡ v)) (sym is) ((keeps.reads t v).1 (subst (λ (m : Name). Reads old m (λ x. x ≡ v)) is read))

-- as long as there was no event each folder shows all pairs that were found
pub doubt_shows : (W : List ℕ → List ℕ → Type 0) (known : Option Log) (st : SpoolState) (earlier h : List Event) (k : Files) → StandsFor W known st earlier h k → st.removed ≡ 0 → in_doubt st.doubt k ≡ [] → (c : Folder) → Has (rows_by st k (entries_of h)) c → entries_in c (map stamp_of (entries_of h)) ≡ entries_of h
doubt_shows W known st earlier h k stands zero no_doubt c has = by_doubt st.doubt no_doubt stands.doubt has
  where
    by_doubt : (d : Doubt) → in_doubt d k ≡ [] → MayBe d k st.removed st.last (entries_of h) → Has (with_doubt d k (rows_of st.removed st.holds st.last (entries_of h))) c → entries_in c (map stamp_of (entries_of h)) ≡ entries_of h
    by_doubt doubt.Nothing none may has = rows_show st.last st.holds (entries_of h) c stands.rises (subst (λ (g : ℕ). Has (rows_of g st.holds st.last (entries_of h)) c) zero has)
    by_doubt (doubt.Unsettled t) none may has = above_shows st.last st.holds (entries_of h) c t (Half k) stands.rises stands.last may (subst (λ (g : ℕ). Has (set_row (rows_of g st.holds st.last (entries_of h)) t (Half k)) c) zero has)
    by_doubt (doubt.Settled t) none may has = absurd (cc)
    by_doubt (doubt.Unhidden t) none may has = rows_show st.last st.holds (entries_of h) c stands.rises (subst (λ (g : ℕ). Has (rows_of g st.holds st.last (entries_of h)) c) zero has)
    by_doubt (doubt.Hidden t) none may has = absurd (cc)

pub keeps_rows : (W : List ℕ → List ℕ → Type 0) (old new : Option Log) (st : SpoolState) (earlier h : List Event) (k : Files) → KeepsRows old new → StandsFor W old st earlier h k → Keeps W old new st earlier h k
keeps_rows W old new st earlier h k keeps stands = record {
  known = keeps.known;
  stands = record {
    legal = stands.legal;
    more = stands.more;
    found = stands.found;
    counts = stands.counts;
    stamps = stands.stamps;
    set = stands.set;
    within = stands.within;
    rises = stands.rises;
    last = stands.last;
    holds = stands.holds;
    asked = stands.asked;
    no_doubt = stands.no_doubt;
    doubt = stands.doubt;
    disk = λ m now.
        let was = keeps.known m now in
        let disk = stands.disk was.0 was.1 in
        let run = keeps.ran was.0 (rows_by st k (entries_of h)) (start was.0 (rows_by st k (entries_of h)) old was.1 disk.images) in
        let images_now = ran_each was.0 new [] (Has (rows_by st k (entries_of h))) (Has (rows_by st k (entries_of h))) run m now in
        let past_now = ran_past was.0 new [] (Has (rows_by st k (entries_of h))) (Has (rows_by st k (entries_of h))) run m now ∙ append-nil (events was.0) ∙ disk.past in
        record {
          images = images_now;
          past = past_now;
          whole = disk.whole;
          recalls = recalls_on W old new st earlier h k stands st h k was.0 m [] (Has (rows_by st k (entries_of h))) (Has (rows_by st k (entries_of h))) was.1 now run refl refl stands.legal past_now stands.counts (doubt_shows W old st earlier h k stands);
          read = read_rows_of st.doubt k (rows_of st.removed st.holds st.last (entries_of h)) (reads m) (images_now (reads m) (leaves_now m))
              (still_read st.doubt k old new was.0 m was.1 now (keeps_read st.doubt old new keeps) (is_read_of st.doubt k (rows_of st.removed st.holds st.last (entries_of h)) (reads was.0) disk.read));
        };
  };
  images = λ first known.
      let rows = rows_by st k (entries_of h) in
      ran_widen first new [] (Has rows) (Has rows) (Gives h (in_doubt st.doubt k)) (Gives h (in_doubt st.doubt k)) (gives W old st earlier h k stands) (gives W old st earlier h k stands)
      (keeps.ran first rows (start first rows old known (stands.disk first known).images));
}

pub looks_keeps : (old new : Option Log) → Looks old new → KeepsRows old new
looks_keeps old new look = record {
  known = known_looks old new look;
  ran = λ first rows run. looks first [] rows old new run look;
  reads = λ t v. (λ read. reads_looked old new (Block t) (λ x. x ≡ v) read look, λ read. reads_looked old new (Index t) (λ x. x ≡ v) read look);
}

-- a call that changes no folder
pub other_keeps : {T E : Type 0} (old new : Option Log) (r : Result T E) → Does old new r (λ _. Other) → KeepsRows old new
other_keeps {T = T} {E = E} old new (Ok v) does = record {
  known = known_adds old new Other does;
  ran = λ first rows run. ran_quiet first old new [] (Has rows) (Has rows) (Has rows) Other (λ f. refl) (λ c h. h) (λ log e each. each_other (Has rows) log each) run does;
  reads = λ t v. (λ read. reads_still old new Other (Block t) (λ x. x ≡ v) (other_spares (Block t)) read does, λ read. reads_still old new Other (Index t) (λ x. x ≡ v) (other_spares (Index t)) read does);
}
other_keeps {T = T} {E = E} old new (Err e) does = looks_keeps old new does

-- a draft is made
pub make_keeps_rows : {T E : Type 0} (old new : Option Log) (r : Result T E) (kind : Kind) (number : T → ℕ) → Does old new r (λ d. Did (Make kind (number d))) → KeepsRows old new
make_keeps_rows {T = T} {E = E} old new (Ok d) kind number does = record {
  known = known_adds old new (Did (Make kind (number d))) does;
  ran = λ first rows run. ran_quiet first old new [] (Has rows) (Has rows) (Has rows) (Did (Make kind (number d))) (λ f. refl) (λ c h. h) (λ log e each. each_did (Has rows) (Make kind (number d)) (make_keeps rows kind (number d)) log each) run does;
  reads = λ t v. (
    λ read. reads_still old new (Did (Make kind (number d))) (Block t) (λ x. x ≡ v) (make_spares kind (number d) (Block t) refl) read does,
    λ read. reads_still old new (Did (Make kind (number d))) (Index t) (λ x. x ≡ v) (make_spares kind (number d) (Index t) refl) read does,
  );
}
make_keeps_rows {T = T} {E = E} old new (Err e) kind number does = looks_keeps old new does

no_block : (kind : Kind) (d t : ℕ) → ◌≡◌ {A = Name} (Draft kind d) (Block t) → ⊥
no_block kind d t e = cc

no_index : (kind : Kind) (d t : ℕ) → ◌≡◌ {A = Name} (Draft kind d) (Index t) → ⊥
no_index kind d t e = cc

-- a draft is taken back
pub abandon_keeps : (old new : Option Log) (kind : Kind) (number own before now : ℕ) → Abandons old new (Draft kind number) own before now → KeepsRows old new
abandon_keeps old new kind number own before now abandon = record {
  known = ⊎_elim (λ adds. known_adds old new (removal old (Draft kind number)) adds.0) (λ look. known_looks old new look.0) abandon;
  ran = λ first rows run. abandons first [] rows old new kind number own before now run abandon;
  reads = λ t v. (
    λ read. ⊎_elim (λ adds. reads_removing old new (Draft kind number) (Block t) (λ x. x ≡ v) (λ same. absurd (no_block kind number t same)) read adds.0) (λ look. reads_looked old new (Block t) (λ x. x ≡ v) read look.0) abandon,
    λ read. ⊎_elim (λ adds. reads_removing old new (Draft kind number) (Index t) (λ x. x ≡ v) (λ same. absurd (no_index kind number t same)) read adds.0) (λ look. reads_looked old new (Index t) (λ x. x ≡ v) read look.0) abandon,
  );
}

-- a spool that stands for some history stands for it after the call
pub keeps_some : (W : List ℕ → List ℕ → Type 0) (old new : Option Log) (st : SpoolState) → KeepsRows old new → (earlier : List Event) × (h : List Event) × (k : Files) × StandsFor W old st earlier h k → (earlier : List Event) × (h : List Event) × (k : Files) × StandsFor W new st earlier h k
keeps_some W old new st keeps was = (was.0, was.1, was.2, (keeps_rows W old new st was.0 was.1 was.2 keeps was.3).stands)

-- a clause speaks of the spool as the call began, which is the one that was opened
pub keeps_from : {D : Type 0} (W : List ℕ → List ℕ → Type 0) (log : D → Option Log) (seen old : SpoolView D) (new : Option Log) (earlier h : List Event) (k : Files) → seen ≡ old → KeepsRows (log seen.shelf) new → StandsFor W (log old.shelf) old.state earlier h k
    → Keeps W (log old.shelf) new seen.state earlier h k
keeps_from {D} W log seen old new earlier h k same keeps stands =
    subst (λ (s : SpoolView D). Keeps W (log s.shelf) new seen.state earlier h k) same
    (keeps_rows W (log seen.shelf) new seen.state earlier h k keeps (subst (λ (s : SpoolView D). StandsFor W (log s.shelf) s.state earlier h k) (sym same) stands))

pub stands_from : {D : Type 0} (W : List ℕ → List ℕ → Type 0) (log : D → Option Log) (seen old : SpoolView D) (earlier h : List Event) (k : Files) → seen ≡ old → StandsFor W (log old.shelf) old.state earlier h k → StandsFor W (log seen.shelf) seen.state earlier h k
stands_from {D} W log seen old earlier h k same stands = subst (λ (s : SpoolView D). StandsFor W (log s.shelf) s.state earlier h k) (sym same) stands

pub known_from : {D : Type 0} (log : D → Option Log) (seen old : SpoolView D) (l : Log) → seen ≡ old → log old.shelf ≡ Some l → log seen.shelf ≡ Some l
known_from {D} log seen old l same known = ap (λ (s : SpoolView D). log s.shelf) same ∙ known

pub keeps_moved : {D : Type 0} (W : List ℕ → List ℕ → Type 0) (log : D → Option Log) (seen old : SpoolView D) (new : Option Log) (st : SpoolState) (earlier h : List Event) (k : Files) → seen ≡ old → Keeps W (log seen.shelf) new st earlier h k → Keeps W (log old.shelf) new st earlier h k
keeps_moved {D} W log seen old new st earlier h k same keeps = subst (λ (s : SpoolView D). Keeps W (log s.shelf) new st earlier h k) same keeps

pub fails_moved : {D : Type 0} (W : List ℕ → List ℕ → Type 0) (log : D → Option Log) (seen old : SpoolView D) (new : Option Log) (st : SpoolState) (earlier h : List Event) (k : Files) → seen ≡ old → Fails W (log seen.shelf) new st earlier h k → Fails W (log old.shelf) new st earlier h k
fails_moved {D} W log seen old new st earlier h k same fails = subst (λ (s : SpoolView D). Fails W (log s.shelf) new st earlier h k) same fails

pub removes_moved : {D : Type 0} (W : List ℕ → List ℕ → Type 0) (log : D → Option Log) (seen old : SpoolView D) (new : Option Log) (st : SpoolState) (earlier h : List Event) (k : Files) (e : Entry) (t : ℕ) → seen ≡ old → t ≡ e.stamp → KnownBefore (log seen.shelf) new
    → StandsFor W new st earlier (h ++ event.Remove t ∷ []) k → ((l : Log) → log seen.shelf ≡ Some l → RanTo l new h (event.Remove t)) → Removes W (log old.shelf) new st earlier h e k
removes_moved {D} W log seen old new st earlier h k e t same is before stands images = record {
  known = subst (λ (s : SpoolView D). KnownBefore (log s.shelf) new) same before;
  stands = subst (λ (s : ℕ). StandsFor W new st earlier (h ++ event.Remove s ∷ []) k) is stands;
  images = λ l known. subst (λ (s : ℕ). RanTo l new h (event.Remove s)) is (images l (known_from log seen old l same known));
}

pub stopped_before : {D : Type 0} (log : D → Option Log) (seen old : SpoolView D) (new : Option Log) (t : ℕ) (x : Stopped) → seen ≡ old → x ≡ Before → FailsToHide (log seen.shelf) new t x → StoppedBy (log old.shelf) new (doubt.Unhidden t)
stopped_before {D} log seen old new t x same is stopped = subst (λ (s : SpoolView D). FailsToHide (log s.shelf) new t Before) same (subst (FailsToHide (log seen.shelf) new t) is stopped)

pub stopped_after : {D : Type 0} (log : D → Option Log) (seen old : SpoolView D) (new : Option Log) (t : ℕ) (x : Stopped) → seen ≡ old → x ≡ After → FailsToHide (log seen.shelf) new t x → StoppedBy (log old.shelf) new (doubt.Hidden t)
stopped_after {D} log seen old new t x same is stopped = subst (λ (s : SpoolView D). FailsToHide (log s.shelf) new t After) same (subst (FailsToHide (log seen.shelf) new t) is stopped)
