-- What finishing a pair comes to, from what its calls ensure.
use Rattle.std.specs.Prelude.{MatchResult, IfErr}
use Rattle.std.proofs.Common.{◌≡◌, ℕ, inl, ⊎_elim, List, [], ◌∷◌, ◌++◌, length, refl, sym, ap, ◌∙◌, subst, Option, Some, None, Ok, Err, Result}
use Rattle.std.proofs.lemmas.List.{append-nil}
use Rattle.std.specs.Io.KnownBytes.{Appends}
use Rattle.std.proofs.KnownBytes.{Appends-nil}
use Rattle.st_base.specs.Records.{Rec}
use Rattle.st_base.specs.Ticks.{Ticks}
use Rattle.st_disk.specs.Disks.{Log}
use Rattle.st_disk.specs.Events.{Event, Publish}
use Rattle.st_disk.specs.Pairs.{Files}
use Rattle.st_lane.specs.Sealing.{AreWhole}
use Rattle.st_pairs.specs.Pairs.{IsWholePair}
use Rattle.st_spool.specs.Settling.{entry}
use Rattle.st_spool.specs.Publishing.{next_stamp, published, MayPublish, Publishes, Keeps, RanTo, RanInDoubt}
use Rattle.st_spool.specs.Standing.{StandsFor, in_doubt}
use Rattle.st_spool.specs.States.{SpoolState, SpoolView}
use Rattle.st_spool.specs.declared.state.Doubt.TheVariants as doubt
use Rattle.st_load.specs.Acts.{line_text}
use Rattle.st_load.specs.Causes.{IsFailure}
use Rattle.st_load.specs.Job.{AddsAll}
use Rattle.st_load.specs.Lanes.{KeepsSpool}
use Rattle.st_load.specs.Loading.{Covered, Loads, situation}
use Rattle.st_load.specs.Publishing.{Ages, AgesAll, AreAdded, IsUnpublished, IsUnpublishedState, WritesLine, Finishes, KeepsLimitAndHolds}
use Rattle.st_load.specs.declared.ends.LoadEnd.{LoadEnd}
use Rattle.st_load.specs.declared.ends.LoadEnd.TheVariants as end
use Rattle.st_load.proofs.Covered.{covered_none, covered_on, covered_fault, covered_keeps}
use Rattle.st_load.proofs.Finishing.{no_doubt, nothing_done, finish_all, finish_some, finish_line, finish_none, doubted}

-- calls that change no pair, of a spool that has not failed
pub kept_done : {D : Type 0} (log : D → Option Log) (a b : SpoolView D) (earlier h : List Event) (f : Files) → StandsFor IsWholePair (log a.shelf) a.state earlier h f → a.state.halted ≡ None → KeepsSpool log a b
    → StandsFor IsWholePair (log b.shelf) b.state earlier h f × (b.state.doubt ≡ doubt.Nothing) × Covered (log a.shelf) (log b.shelf) h [] []
kept_done {D} log a b earlier h f stands runs keeps =
    let same : b.state ≡ a.state = ap (λ (v : SpoolView D). v.state) keeps.state in
    let kept = keeps.keeps earlier h f stands in
    let quiet = no_doubt (log a.shelf) a.state earlier h f stands runs in (
      kept.stands,
      ap (λ (s : SpoolState). s.doubt) same ∙ quiet,
      covered_keeps (log a.shelf) (log b.shelf) a.state earlier h f stands quiet (subst (λ (s : SpoolState). Keeps IsWholePair (log a.shelf) (log b.shelf) s earlier h f) same kept),
    )

-- a pair that was not begun
pub not_begun : {D : Type 0} (log : D → Option Log) (o a b : SpoolView D) (earlier h : List Event) (f : Files) (rs : List Rec) (limit size : ℕ) (e : LoadEnd) (was times old : Option (List ℕ))
    → a ≡ record o { spare = a.spare } → StandsFor IsWholePair (log o.shelf) o.state earlier h f → o.state.halted ≡ None → KeepsSpool log a b → IsFailure e
    → Loads (AddsAll limit size (situation h o.state was)) (AreAdded rs e) e (log o.shelf) (log b.shelf) b.state earlier h times old old
not_begun {D} log o a b earlier h f rs limit size e was times old is stands runs keeps failed =
    let shelf : a.shelf ≡ o.shelf = ap (λ (v : SpoolView D). v.shelf) is in
    let state : a.state ≡ o.state = ap (λ (v : SpoolView D). v.state) is in
    let here = subst (λ (v : SpoolView D). StandsFor IsWholePair (log v.shelf) v.state earlier h f) (sym is) stands in
    let (now, quiet, covered) = kept_done log a b earlier h f here (ap (λ (s : SpoolState). s.halted) state ∙ runs) keeps in
    let covered_o = subst (λ (x : D). Covered (log x) (log b.shelf) h [] []) shelf covered in
    let P : LoadEnd → Type 0 = λ x. Loads (AddsAll limit size (situation h o.state was)) (AreAdded rs x) x (log o.shelf) (log b.shelf) b.state earlier h times old old in
    ⊎_elim
    (λ disk. subst P (sym disk) (nothing_done (AddsAll limit size (situation h o.state was)) (AreAdded rs end.DiskFault) end.DiskFault (log o.shelf) (log b.shelf) b.state earlier h f times old old (situation h o.state was) (refl, refl) (inl refl) tt (Appends-nil old) now quiet covered_o))
    (λ memory. subst P (sym memory) (nothing_done (AddsAll limit size (situation h o.state was)) (AreAdded rs end.NoMemory) end.NoMemory (log o.shelf) (log b.shelf) b.state earlier h f times old old (situation h o.state was) (refl, refl) (inl refl) tt (Appends-nil old) now quiet covered_o))
    failed

module _ (limit size : ℕ) (before : SpoolState) (earlier h : List Event) (rs : List Rec) (was times : Option (List ℕ)) (floor : ℕ) (ticks : Ticks was times floor)
    (p : Files) (whole : AreWhole size rs (Some p.block) (Some p.index)) (first : Option Log) (f : Files) (stands : StandsFor IsWholePair first before earlier h f) (runs : before.halted ≡ None) where
  -- the publication failed
  pub publish_fails : (known : Option Log) (st : SpoolState) (since : ℕ) (old : Option (List ℕ)) (e : LoadEnd) → IsUnpublished first known st earlier h p f e → IsUnpublishedState before st (next_stamp before.last floor) since e
      → Loads (AddsAll limit size (situation h before was)) (AreAdded rs e) e first known st earlier h times old old
  publish_fails known st since old end.Done fails state = absurd fails
  publish_fails known st since old (end.BadInput x) fails state = absurd fails
  publish_fails known st since old (end.TooLong n len) fails state = absurd fails
  publish_fails known st since old end.ReadFault fails state = absurd fails
  publish_fails known st since old end.WriteFault fails state = absurd fails
  publish_fails known st since old end.DiskFault fails (left, how) =
      let start = covered_none first before earlier h f stands (no_doubt first before earlier h f stands runs) in
      finish_none limit size before earlier h rs was times floor (entry (next_stamp before.last floor) p) left ticks refl whole first known st p old
      (covered_fault first first known h [] (in_doubt st.doubt p) start (λ mid is. subst (λ x. RanInDoubt mid known x (in_doubt st.doubt p)) (sym (append-nil h)) (fails.images mid is)))
      fails.stands (doubted before st (next_stamp before.last floor) since p how)
  publish_fails known st since old (end.StampsSpent last) keeps (same, spent, is) =
      let quiet = no_doubt first before earlier h f stands runs in
      nothing_done (AddsAll limit size (situation h before was)) (AreAdded rs (end.StampsSpent last)) (end.StampsSpent last) first known st earlier h f times old old (situation h before was) (refl, refl) refl
      (refl, spent, is) (Appends-nil old) keeps.stands (ap (λ (s : SpoolState). s.doubt) same ∙ quiet)
      (covered_keeps first known before earlier h f stands quiet (subst (λ (s : SpoolState). Keeps IsWholePair first known s earlier h f) same keeps))
  publish_fails known st since old end.NoMemory fails state = absurd fails

  module _ (mid : Option Log) (st : SpoolState) (s : ℕ) (may : MayPublish before) (stamp : s ≡ next_stamp before.last floor) (is : st ≡ published before s)
      (does : Publishes IsWholePair first mid st earlier h (entry s p) f) where
    covered : Covered first mid h (Publish (entry s p) ∷ []) []
    covered =
        covered_on first first mid h [] (Publish (entry s p)) (covered_none first before earlier h f stands (no_doubt first before earlier h f stands runs))
        (λ m same. subst (λ x. RanTo m mid x (Publish (entry s p))) (sym (append-nil h)) (does.images m same))

    quiet : st.doubt ≡ doubt.Nothing
    quiet = ap (λ (x : SpoolState). x.doubt) is ∙ no_doubt first before earlier h f stands runs

    -- the line was not written
    pub line_fails : (packets : ℕ) (e : LoadEnd) (old new : Option (List ℕ)) → packets ≡ length rs → WritesLine s packets old new (Err e)
        → Loads (AddsAll limit size (situation h before was)) (AreAdded rs e) e first mid st earlier h times old new
    line_fails packets e old new count line =
        finish_line limit size before earlier h rs was times floor (entry s p) may.1 ticks stamp whole e first mid st f old new covered does.stands quiet
        (subst (λ n. WritesLine s n old new (Err e)) count line)

    -- and then the oldest pairs were removed
    pub aged_finish : (known : Option Log) (after : SpoolState) (packets : ℕ) (old new : Option (List ℕ)) (r : Result (Unit {0}) LoadEnd) → packets ≡ length rs → Appends old new (line_text s packets)
        → MatchResult r (λ _. AgesAll mid known after earlier (h ++ Publish (entry s p) ∷ []) f) (λ _. Ages mid known after earlier (h ++ Publish (entry s p) ∷ []))
        → IfErr r (λ e. e ≡ end.DiskFault) → after.limit ≡ limit → after.last ≡ s
        → Finishes limit size (situation h before was) rs first known after earlier h f times old new r
    aged_finish known after packets old new (Ok u) count line ages failed lim last =
        finish_all limit size before earlier h rs was times floor (entry s p) may.1 ticks stamp whole first mid known after f old new covered ages lim last
        (subst (λ n. Appends old new (line_text s n)) count line)
    aged_finish known after packets old new (Err e) count line ages failed lim last =
        subst (λ (x : LoadEnd). Loads (AddsAll limit size (situation h before was)) (AreAdded rs x) x first known after earlier h times old new) (sym failed)
        (finish_some limit size before earlier h rs was times floor (entry s p) may.1 ticks stamp whole first mid known after old new covered ages lim
        (subst (λ n. Appends old new (line_text s n)) count line))

-- Room for a publication was made, and its lane was sealed: the spool is the same but for that.
pub ready_same : {D : Type 0} (o a b : SpoolView D) → a ≡ record o { spare = a.spare } → b ≡ a → (b.shelf ≡ o.shelf) × (b.state ≡ o.state)
ready_same {D} o a b is same = (ap (λ (v : SpoolView D). v.shelf) same ∙ ap (λ (v : SpoolView D). v.shelf) is, ap (λ (v : SpoolView D). v.state) same ∙ ap (λ (v : SpoolView D). v.state) is)

module _ {D : Type 0} (log : D → Option Log) (o b : SpoolView D) (limit size : ℕ) (earlier h : List Event) (f p : Files) (rs : List Rec) (was times : Option (List ℕ)) (floor : ℕ)
    (same : (b.shelf ≡ o.shelf) × (b.state ≡ o.state)) (ticks : Ticks was times floor) (whole : AreWhole size rs (Some p.block) (Some p.index))
    (stands : StandsFor IsWholePair (log o.shelf) o.state earlier h f) (runs : o.state.halted ≡ None) where
  here : StandsFor IsWholePair (log b.shelf) b.state earlier h f
  here = subst (λ (x : D). StandsFor IsWholePair (log x) b.state earlier h f) (sym same.0) (subst (λ (x : SpoolState). StandsFor IsWholePair (log o.shelf) x earlier h f) (sym same.1) stands)

  running : b.state.halted ≡ None
  running = ap (λ (x : SpoolState). x.halted) same.1 ∙ runs

  -- the publication failed
  pub ready_fails : (known : Option Log) (st : SpoolState) (since : ℕ) (old : Option (List ℕ)) (e : LoadEnd)
      → (StandsFor IsWholePair (log b.shelf) b.state earlier h f → IsUnpublished (log b.shelf) known st earlier h p f e) → IsUnpublishedState b.state st (next_stamp b.state.last floor) since e
      → Loads (AddsAll limit size (situation h o.state was)) (AreAdded rs e) e (log o.shelf) known st earlier h times old old
  ready_fails known st since old e fails how =
      subst (λ (x : D). Loads (AddsAll limit size (situation h o.state was)) (AreAdded rs e) e (log x) known st earlier h times old old) same.0
      (subst (λ (x : SpoolState). Loads (AddsAll limit size (situation h x was)) (AreAdded rs e) e (log b.shelf) known st earlier h times old old) same.1
      (publish_fails limit size b.state earlier h rs was times floor ticks p whole (log b.shelf) f here running known st since old e (fails here) how))

  module _ (mid : Option Log) (st : SpoolState) (s : ℕ) (how : MayPublish b.state × (s ≡ next_stamp b.state.last floor) × (st ≡ published b.state s))
      (does : StandsFor IsWholePair (log b.shelf) b.state earlier h f → Publishes IsWholePair (log b.shelf) mid st earlier h (entry s p) f)
      (packets : ℕ) (old new : Option (List ℕ)) (count : packets ≡ length rs) where
    -- the line was not written
    pub ready_lines : (e : LoadEnd) → WritesLine s packets old new (Err e)
        → Loads (AddsAll limit size (situation h o.state was)) (AreAdded rs e) e (log o.shelf) mid st earlier h times old new
    ready_lines e line =
        subst (λ (x : D). Loads (AddsAll limit size (situation h o.state was)) (AreAdded rs e) e (log x) mid st earlier h times old new) same.0
        (subst (λ (x : SpoolState). Loads (AddsAll limit size (situation h x was)) (AreAdded rs e) e (log b.shelf) mid st earlier h times old new) same.1
        (line_fails limit size b.state earlier h rs was times floor ticks p whole (log b.shelf) f here running mid st s how.0 how.1 how.2 (does here) packets e old new count line))

    -- the line was, and removals followed
    pub ready_ages : (known : Option Log) (after : SpoolState) (r : Result (Unit {0}) LoadEnd) → Appends old new (line_text s packets)
        → (StandsFor IsWholePair mid st earlier (h ++ Publish (entry s p) ∷ []) f
        → MatchResult r (λ _. AgesAll mid known after earlier (h ++ Publish (entry s p) ∷ []) f) (λ _. Ages mid known after earlier (h ++ Publish (entry s p) ∷ [])))
        → IfErr r (λ e. e ≡ end.DiskFault) → KeepsLimitAndHolds st after → after.last ≡ st.last → o.state.limit ≡ limit
        → Finishes limit size (situation h o.state was) rs (log o.shelf) known after earlier h f times old new r
    ready_ages known after r line ages failed keeps last lim =
        subst (λ (x : D). Finishes limit size (situation h o.state was) rs (log x) known after earlier h f times old new r) same.0
        (subst (λ (x : SpoolState). Finishes limit size (situation h x was) rs (log b.shelf) known after earlier h f times old new r) same.1
        (aged_finish limit size b.state earlier h rs was times floor ticks p whole (log b.shelf) f here running mid st s how.0 how.1 how.2 (does here) known after packets old new r count line
        (ages (does here).stands) failed
        (keeps.0 ∙ ap (λ (x : SpoolState). x.limit) how.2 ∙ ap (λ (x : SpoolState). x.limit) same.1 ∙ lim)
        (last ∙ ap (λ (x : SpoolState). x.last) how.2)))
