-- The stages of a publication and of a removal.
use Rattle.std.proofs.Common.{◌≡◌, ℕ, List, [], ◌∷◌, Option, None, Some, Result, cond, nat_eq, refl, sym, ◌∙◌, ap, subst, inl, inr, ⊎_elim}
use Rattle.st_disk.specs.declared.naming.Kind.{Kind}
use Rattle.st_disk.specs.declared.naming.Kind.TheVariants as kind
use Rattle.st_disk.specs.declared.naming.Name.{Name}
use Rattle.st_disk.specs.declared.naming.Name.TheVariants.{Block, Index, Parked, Draft}
use Rattle.st_disk.specs.declared.changes.Call.TheVariants.{Did, Flush}
use Rattle.st_disk.specs.declared.changes.Change.{Change}
use Rattle.st_disk.specs.declared.changes.Change.TheVariants.{Settle, Hide, Remove}
use Rattle.st_disk.specs.Folders.{Folder, apply}
use Rattle.st_disk.specs.Disks.{Log, reads}
use Rattle.st_disk.specs.Events.{Event, Publish, events}
use Rattle.st_disk.specs.Events as event
use Rattle.st_disk.specs.LoggedCalls.{Adds, Looks, Does, Reads, Abandons, removal}
use Rattle.st_disk.specs.Runs.{Each, Ran}
use Rattle.st_disk.specs.Pairs.{Entry, Files, files_at}
use Rattle.st_disk.proofs.Runs.{ran_start, ran_widen, ran_quiet, ran_looks, ran_flushed, ran_removal, ran_abandon, ran_published, ran_hidden, each_did, IsQuiet}
use Rattle.st_disk.proofs.Reading.{known_log}
use Rattle.st_disk.proofs.Images.{leaves_now}
use Rattle.st_spool.specs.Rows.{Row, Free, Half, Coming, Pair, Going, Held, Fits, Has, set_row, pair_before, IsSetOf, RanBy}
use Rattle.st_spool.specs.Settling.{entry}
use Rattle.st_spool.proofs.Keeping.{by_test, is_same, widen, widen_from, index_keeps, block_keeps, hide_keeps, draft_keeps, row_here, set_has, has_here, has_other}

-- the row set at a stamp takes what the row itself takes
takes_index : (rows : ℕ → Row) (t : ℕ) (r : Row) (bytes : List ℕ) → ((b i p : Option (List ℕ)) → Fits r b i p → Fits r b (Some bytes) p) → (b i p : Option (List ℕ)) → Fits (set_row rows t r t) b i p → Fits (set_row rows t r t) b (Some bytes) p
takes_index rows t r bytes takes = subst (λ (q : Row). (b i p : Option (List ℕ)) → Fits q b i p → Fits q b (Some bytes) p) (sym (row_here rows t r)) takes

takes_block : (rows : ℕ → Row) (t : ℕ) (r : Row) (bytes : List ℕ) → ((b i p : Option (List ℕ)) → Fits r b i p → Fits r (Some bytes) i p) → (b i p : Option (List ℕ)) → Fits (set_row rows t r t) b i p → Fits (set_row rows t r t) (Some bytes) i p
takes_block rows t r bytes takes = subst (λ (q : Row). (b i p : Option (List ℕ)) → Fits q b i p → Fits q (Some bytes) i p) (sym (row_here rows t r)) takes

not_there : (x : List ℕ) → ◌≡◌ {A = Option (List ℕ)} (Some x) None → ⊥
not_there x e = cc

pub at_least : (rows : ℕ → Row) (t : ℕ) (set : List Entry) (r : Row) → IsSetOf rows set → pair_before r ≡ pair_before (rows t) → (s : ℕ) → files_at s set ≡ cond (nat_eq t s) (pair_before r) (files_at s set)
at_least rows t set r is e s =
    by_test (nat_eq t s) (λ b. files_at s set ≡ cond b (pair_before r) (files_at s set)) (λ g. is.each s ∙ ap (λ (q : ℕ). pair_before (rows q)) (sym (is_same t s g)) ∙ sym e) (λ g. refl)

-- before the first call
pub start : (l : Log) (rows : ℕ → Row) (known : Option Log) → known ≡ Some l → Each l (Has rows) → RanBy l known [] rows rows
start l rows known is each = ran_start l known (Has rows) (Has rows) is (λ c h. h) each

-- a run in which each image has the rows
module _ (l : Log) (es : List Event) (rows : ℕ → Row) where
  same : (c : Folder) → Has rows c → Has rows c
  same c h = h

  pub looks : (old new : Option Log) → RanBy l old es rows rows → Looks old new → RanBy l new es rows rows
  looks old new run look = ran_looks l old new es (Has rows) (Has rows) same run look

  pub abandons : (old new : Option Log) (k : Kind) (d own from to : ℕ) → RanBy l old es rows rows → Abandons old new (Draft k d) own from to → RanBy l new es rows rows
  abandons old new k d own from to run gives_up = ran_abandon l old new es (Has rows) (Has rows) same (Draft k d) own from to (draft_keeps rows k d) run gives_up

  pub changes : (old new : Option Log) (ch : Change) → IsQuiet (Did ch) → ((c : Folder) → Has rows c → Has rows (apply ch c)) → RanBy l old es rows rows → Adds old new (Did ch) → RanBy l new es rows rows
  changes old new ch quiet keeps run adds = ran_quiet l old new es (Has rows) (Has rows) (Has rows) (Did ch) quiet same (λ log e each. each_did (Has rows) ch keeps log each) run adds

  pub removes : {T E : Type 0} (old new : Option Log) (r : Result T E) (n : Name) → ((c : Folder) → Has rows c → Has rows (apply (Remove n) c)) → RanBy l old es rows rows → Does old new r (λ _. removal old n) → RanBy l new es rows rows
  removes {T = T} {E = E} old new r n keeps run does = ran_removal l old new es (Has rows) (Has rows) same r n keeps run does

-- rows that allow more
pub wider : (l : Log) (known : Option Log) (es : List Event) (rows : ℕ → Row) (t : ℕ) (q r : Row) → ((b i p : Option (List ℕ)) → Fits q b i p → Fits r b i p) → RanBy l known es (set_row rows t q) (set_row rows t q) → RanBy l known es (set_row rows t r) (set_row rows t r)
wider l known es rows t q r more run = ran_widen l known es (Has (set_row rows t q)) (Has (set_row rows t q)) (Has (set_row rows t r)) (Has (set_row rows t r)) (widen rows t q r more) (widen rows t q r more) run

module _ (l : Log) (rows : ℕ → Row) (t : ℕ) (f : Files) where
  abbrev pub half_row : ℕ → Row
  half_row = set_row rows t (Half f)

  abbrev pub coming : ℕ → Row
  coming = set_row rows t (Coming f)

  abbrev pub going : ℕ → Row
  going = set_row rows t (Going f)

  abbrev pub publication : List Event
  publication = Publish (entry t f) ∷ []

  abbrev pub removed : List Event
  removed = event.Remove t ∷ []

  pub half_start : (known : Option Log) → rows t ≡ Free → known ≡ Some l → Each l (Has rows) → RanBy l known [] half_row half_row
  half_start known free is each = start l half_row known is (λ c h. widen_from rows t Free (Half f) free (λ b i p fits. (fits.0, inl fits.1, fits.2)) c (each c h))

  pub half_settled : (old new : Option Log) (k : Kind) (d : ℕ) → k ≡ kind.Index → RanBy l old [] half_row half_row → Adds old new (Did (Settle k d t f.index)) → RanBy l new [] half_row half_row
  half_settled old new k d of run adds =
      changes l [] half_row old new (Settle kind.Index d t f.index) (λ g. refl) (index_keeps half_row d t f.index (takes_index rows t (Half f) f.index (λ b i p fits. (fits.0, inr refl, fits.2))))
      run (subst (λ (j : Kind). Adds old new (Did (Settle j d t f.index))) of adds)

  half_coming : (c : Folder) → Has half_row c → Has coming c
  half_coming = widen rows t (Half f) (Coming f) (λ b i p fits. (inl fits.0, fits.1, fits.2))

  pub settled : (old new : Option Log) (k : Kind) (d : ℕ) → k ≡ kind.Block → Reads old (Index t) (λ v. v ≡ Some f.index) → RanBy l old [] half_row half_row → Adds old new (Did (Settle k d t f.block)) → RanBy l new publication coming coming
  settled old new k d of there run adds =
      ran_published l old new [] (Has coming) (Has half_row) (Has coming) d t f.block f.index (λ c h. h) half_coming
      (λ c h. block_keeps coming d t f.block (takes_block rows t (Coming f) f.block (λ b i p fits. (inr refl, fits.1, fits.2))) c (half_coming c h)) there
      (ran_widen l old [] (Has half_row) (Has half_row) (Has coming) (Has half_row) half_coming (λ c h. h) run) (subst (λ (j : Kind). Adds old new (Did (Settle j d t f.block))) of adds)

  -- each image has the index
  abbrev pub Indexed : Folder → Type 0
  Indexed c = Has coming c × (c (Index t) ≡ Some f.index)

  pub index_flushed : (old new : Option Log) → RanBy l old publication coming coming → Reads old (Index t) (λ v. v ≡ Some f.index) → Adds old new (Flush kind.Index) → Ran l new publication (Has coming) Indexed
  index_flushed old new run there adds =
      ran_flushed l old new publication (Has coming) (Has coming) Indexed kind.Index (λ c h. h.0) (λ g known c h pins. (h, pins (Index t) refl ∙ there g known)) run adds

  pub index_looks : (old new : Option Log) → Ran l old publication (Has coming) Indexed → Looks old new → RanBy l new publication coming coming
  index_looks old new run look = looks l publication coming old new (ran_widen l old publication (Has coming) Indexed (Has coming) (Has coming) (λ c h. h) (λ c h. h.0) run) look

  pub block_flushed : (old new : Option Log) → Ran l old publication (Has coming) Indexed → Reads old (Block t) (λ v. v ≡ Some f.block) → Adds old new (Flush kind.Block) → RanBy l new publication coming (set_row rows t (Pair f))
  block_flushed old new run there adds =
      ran_widen l new publication (Has coming) (λ c. Indexed c × (c (Block t) ≡ Some f.block)) (Has coming) (Has (set_row rows t (Pair f))) (λ c h. h)
      (λ c h. let fits = has_here rows t (Coming f) c h.0.0 in set_has rows t (Pair f) c (has_other rows t (Coming f) c h.0.0) (h.1, h.0.1, fits.2))
      (ran_flushed l old new publication (Has coming) Indexed (λ c. Indexed c × (c (Block t) ≡ Some f.block)) kind.Block (λ c h. h.0.0) (λ g known c h pins. (h, pins (Block t) refl ∙ there g known)) run adds)

  pub going_start : (known : Option Log) → rows t ≡ Pair f → known ≡ Some l → Each l (Has rows) → RanBy l known [] going going
  going_start known pair is each = start l going known is (λ c h. widen_from rows t (Pair f) (Going f) pair (λ b i p fits. (fits.0, inl (fits.1, fits.2))) c (each c h))

  going_takes : (b p : Option (List ℕ)) (x : List ℕ) → Fits (Going f) b (Some x) p → Fits (Going f) b None (Some x)
  going_takes b p x fits = (fits.0, inr (refl, ⊎_elim (λ (h : (Some x ≡ Some f.index) × (p ≡ None)). h.0) (λ (h : (Some x ≡ None) × (p ≡ Some f.index)). absurd (not_there x h.0)) fits.1))

  pub hidden : (old new : Option Log) → RanBy l old [] going going → Adds old new (Did (Hide t)) → RanBy l new removed going going
  hidden old new run adds =
      ran_hidden l old new [] (Has going) (Has going) (Has going) t (λ c h. h) (λ c h. h)
      (hide_keeps going t (subst (λ (q : Row). (b p : Option (List ℕ)) (x : List ℕ) → Fits q b (Some x) p → Fits q b None (Some x)) (sym (row_here rows t (Going f))) going_takes)) run adds

  -- what is read of a pair is there
  pub pair_read : (known : Option Log) → rows t ≡ Pair f → known ≡ Some l → Each l (Has rows) → Reads known (Index t) (λ v. v ≡ Some f.index)
  pair_read known pair is each g known_g =
      let same_log : l ≡ g = known_log l g (sym is ∙ known_g) in
      subst (λ (h : Log). reads h (Index t) ≡ Some f.index) same_log (subst (λ (q : Row). Fits q (reads l (Block t)) (reads l (Index t)) (reads l (Parked t))) pair (each (reads l) (leaves_now l) t)).1

  pub gone_flushed : (old new : Option Log) → RanBy l old removed going going → Reads old (Index t) (λ v. v ≡ None) → Adds old new (Flush kind.Index) → RanBy l new removed going (set_row rows t (Held f))
  gone_flushed old new run there adds =
      ran_widen l new removed (Has going) (λ c. Has going c × (c (Index t) ≡ None)) (Has going) (Has (set_row rows t (Held f))) (λ c h. h)
      (λ c h. let fits = has_here rows t (Going f) c h.0 in set_has rows t (Held f) c (has_other rows t (Going f) c h.0)
      (fits.0, h.1, ⊎_elim (λ (k : (c (Index t) ≡ Some f.index) × (c (Parked t) ≡ None)). absurd (not_there f.index (sym k.0 ∙ h.1))) (λ (k : (c (Index t) ≡ None) × (c (Parked t) ≡ Some f.index)). k.1) fits.1))
      (ran_flushed l old new removed (Has going) (Has going) (λ c. Has going c × (c (Index t) ≡ None)) kind.Index (λ c h. h.0) (λ g known c h pins. (h, pins (Index t) refl ∙ there g known)) run adds)
