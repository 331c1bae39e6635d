-- What is read, and what a crash leaves, after a clearing.
use Rattle.std.proofs.Common.{◌≡◌, ◌⊎◌, ◌↔◌, ◌<◌, ◌≤◌, ◌+◌, ℕ, List, [], length, get_or, Option, None, Some, IsSome, IsTrue, Bool, true, false, Contains, refl, sym, ◌∙◌, ap, subst, inl, inr, ⊎_elim, arith}
use Rattle.std.proofs.lemmas.List.{get_or_default}
use Rattle.st_disk.specs.declared.naming.Name.{Name}
use Rattle.st_disk.specs.declared.naming.Name.TheVariants.{Block, Index, Parked, Draft}
use Rattle.st_disk.specs.Folders.{Folder}
use Rattle.st_disk.specs.Disks.{Log, reads, Leaves, and_then}
use Rattle.st_disk.specs.LoggedCalls.{Adds, Reads, removal}
use Rattle.st_disk.specs.Runs.{Each, Ran}
use Rattle.st_disk.specs.Pairs.{both}
use Rattle.st_disk.proofs.Images.{leaves_now}
use Rattle.st_disk.proofs.Reading.{known_log, reads_removal}
use Rattle.st_disk.proofs.Runs.{ran_start, ran_widen, ran_then, known_before}
use Rattle.st_spool.specs.Rows.{Has, RanBy}
use Rattle.st_spool.specs.Entering.{found_rows, Is, SamePairs, IsPart, AreThere, ReadsCleared, pairs_alone, beside, flushed_log}
use Rattle.st_spool.proofs.Entering.{found_has, found_pairs, part_more, reads_removing, then_flushed}
use Rattle.st_spool.proofs.Published.{ran_each}
use Rattle.st_spool.proofs.Stages.{start}

pub not_part : (r : Bool) (P : Type 0) → r ≡ false → (IsTrue r ↔ P) → P → ⊥
not_part true P e is p = cc
not_part false P e is p = let t : false ≡ true = is.1 p in cc

pub is_true : (r : Bool) (P : Type 0) → r ≡ true → (IsTrue r ↔ P) → P
is_true true P e is = is.0 refl
is_true false P e is = cc

alone : (own other : Option (List ℕ)) → (IsSome other × (beside other own ≡ own)) ⊎ ((IsSome other → ⊥) × (beside other own ≡ None))
alone own None = inr ((λ h. cc), refl)
alone own (Some x) = inl (refl, refl)

-- a name that is part of a pair stays, another one does not
alone_cases : (f : Folder) (n : Name) → (IsPart (λ m. IsSome (f m)) n × (pairs_alone f n ≡ f n)) ⊎ ((IsPart (λ m. IsSome (f m)) n → ⊥) × (pairs_alone f n ≡ None))
alone_cases f (Block s) = alone (f (Block s)) (f (Index s))
alone_cases f (Index s) = alone (f (Index s)) (f (Block s))
alone_cases f (Parked s) = inr ((λ h. h), refl)
alone_cases f (Draft k d) = inr ((λ h. h), refl)

beside_same : (b i : Option (List ℕ)) → both (beside i b) (beside b i) ≡ both b i
beside_same None None = refl
beside_same None (Some y) = refl
beside_same (Some x) None = refl
beside_same (Some x) (Some y) = refl

pub alone_pairs : (f c : Folder) → Is (pairs_alone f) c → SamePairs f c
alone_pairs f c is s = ap (λ (o : Option (List ℕ)). both o (c (Index s))) (is (Block s)) ∙ ap (λ (o : Option (List ℕ)). both (beside (f (Index s)) (f (Block s))) o) (is (Index s)) ∙ beside_same (f (Block s)) (f (Index s))

nothing_or : (o : Option (List ℕ)) → (o ≡ None) ⊎ IsSome o
nothing_or None = inl refl
nothing_or (Some x) = inr refl

-- where each name is part of a pair there is nothing to clear
pub all_alone : (names : List Name) (f : Folder) → AreThere names f → ((n : Name) → Contains names n → IsPart (Contains names) n) → (n : Name) → f n ≡ pairs_alone f n
all_alone names f there part n =
    ⊎_elim (λ yes. sym yes.1)
    (λ no. ⊎_elim (λ none. none ∙ sym no.1) (λ some. absurd (no.0 (part_more (Contains names) (λ m. IsSome (f m)) n (λ m has. (there m).0 has) (part n ((there n).1 some))))) (nothing_or (f n))) (alone_cases f n)

-- a name that was removed is not read
pub removed_here : (old new : Option Log) (m : Name) → Adds old new (removal old m) → Reads new m (λ v. v ≡ None)
removed_here old new m adds log is =
    let prior = known_before old new (removal old m) log is adds in
    let now : log ≡ and_then prior.0 (removal (Some prior.0) m) = prior.2 ∙ ap (λ (o : Option Log). and_then prior.0 (removal o m)) prior.1 in
    ap (λ (l : Log). reads l m) now ∙ reads_removal prior.0 m

module _ (names : List Name) where
  -- what is left while names are removed: each is as it was, or was no part of a pair and is gone
  abbrev pub Left : Option Log → Option Log → Type 0
  Left old now = (f : Folder) → ((n : Name) → Reads old n (λ v. v ≡ f n)) → (n : Name) → Reads now n (λ v. (v ≡ f n) ⊎ ((IsPart (Contains names) n → ⊥) × (v ≡ None)))

  abbrev pub Gone : ℕ → Option Log → Type 0
  Gone i now = (k : ℕ) (d : Name) → k < i → (IsPart (Contains names) (get_or names k d) → ⊥) → Reads now (get_or names k d) (λ v. v ≡ None)

  pub left_start : (old : Option Log) → Left old old
  left_start old f was n log is = inl (was n log is)

  below_or_at : (k i : ℕ) → k < i + 1 → (k < i) ⊎ (k ≡ i)
  below_or_at k i lt = grind arith

  module _ (old mid new : Option Log) (i : ℕ) (lt : i < length names) (out : IsPart (Contains names) (get_or names i (Block 0)) → ⊥) (adds : Adds mid new (removal mid (get_or names i (Block 0)))) where
    pub left_more : Left old mid → Left old new
    left_more was f read n =
        reads_removing mid new (get_or names i (Block 0)) n (λ v. (v ≡ f n) ⊎ ((IsPart (Contains names) n → ⊥) × (v ≡ None))) (λ same. inr ((λ part. out (subst (IsPart (Contains names)) (sym same) part)), refl)) (was f read n) adds

    pub gone_more : Gone i mid → Gone (i + 1) new
    gone_more was k d b stray =
        ⊎_elim
        (λ (lower : k < i). reads_removing mid new (get_or names i (Block 0)) (get_or names k d) (λ v. v ≡ None) (λ same. refl) (was k d lower stray) adds)
        (λ (e : k ≡ i).
        let same : get_or names i (Block 0) ≡ get_or names k d = get_or_default names i (Block 0) d lt ∙ ap (λ (j : ℕ). get_or names j d) (sym e) in
        here (get_or names k d) same)
        (below_or_at k i b)
      where
        here : (n : Name) → get_or names i (Block 0) ≡ n → Reads new n (λ v. v ≡ None)
        here n same = subst (λ (m : Name). Reads new m (λ v. v ≡ None)) same (removed_here mid new (get_or names i (Block 0)) adds)

  pub gone_still : (now : Option Log) (i : ℕ) → i < length names → IsPart (Contains names) (get_or names i (Block 0)) → Gone i now → Gone (i + 1) now
  gone_still now i lt part was k d b stray =
      ⊎_elim (λ (lower : k < i). was k d lower stray)
      (λ (e : k ≡ i). absurd (stray (subst (IsPart (Contains names)) (get_or_default names i (Block 0) d lt ∙ ap (λ (j : ℕ). get_or names j d) (sym e)) part)))
      (below_or_at k i b)

  -- all names were looked at
  pub cleared_reads : (old now : Option Log) (i : ℕ) → length names ≤ i → Left old now → Gone i now → ReadsCleared old now names
  cleared_reads old now i le left gone f there was n log is =
      ⊎_elim
      (λ yes. ⊎_elim (λ e. e ∙ sym yes.1) (λ out. absurd (out.0 (part_more (λ m. IsSome (f m)) (Contains names) n (λ m some. (there m).1 some) yes.0))) (left f was n log is))
      (λ no. ⊎_elim
      (λ none. ⊎_elim (λ e. e ∙ none ∙ sym no.1) (λ out. out.1 ∙ sym no.1) (left f was n log is))
      (λ some. let has = (there n).1 some in let lt : has.0 < length names = has.1 in
      let stray : IsPart (Contains names) n → ⊥ = λ part. no.0 (part_more (Contains names) (λ m. IsSome (f m)) n (λ m h. (there m).0 h) part) in
      subst (λ (m : Name). Reads now m (λ v. v ≡ None)) has.2 (gone has.0 n (omega arith) (λ part. stray (subst (IsPart (Contains names)) has.2 part))) log is ∙ sym no.1)
      (nothing_or (f n)))
      (alone_cases f n)

-- what is read is one of the images
pub read_is : (first : Log) (known : Option Log) (f : Folder) → known ≡ Some first → Each first (Is f) → (n : Name) → Reads known n (λ v. v ≡ f n)
read_is first known f is each n log k = ap (λ (l : Log). reads l n) (known_log log first (sym k ∙ is)) ∙ each (reads first) (leaves_now first) n

module _ (first : Log) (known : Option Log) (f : Folder) (names : List Name) (there : AreThere names f) where
  pub nothing_cleared : known ≡ Some first → Each first (Is f) → ((n : Name) → Contains names n → IsPart (Contains names) n) → Ran first known [] (SamePairs f) (Is (pairs_alone f))
  nothing_cleared is each part = ran_start first known (SamePairs f) (Is (pairs_alone f)) is (alone_pairs f) (λ c left n. each c left n ∙ all_alone names f there part n)

  pub clearing : known ≡ Some first → Each first (Is f) → RanBy first known [] (found_rows f) (found_rows f)
  clearing is each = start first (found_rows f) known is (λ c left. found_has f c (each c left))

  pub clear_failed : RanBy first known [] (found_rows f) (found_rows f) → Ran first known [] (SamePairs f) (SamePairs f)
  clear_failed run = ran_widen first known [] (Has (found_rows f)) (Has (found_rows f)) (SamePairs f) (SamePairs f) (found_pairs f) (found_pairs f) run

  pub flush_failed : (old : Option Log) → (run : RanBy first old [] (found_rows f) (found_rows f)) → Ran run.log known [] (Leaves run.log) (Leaves run.log) → Ran first known [] (SamePairs f) (SamePairs f)
  flush_failed old run more =
      clear_failed (ran_then first old known [] [] (Has (found_rows f)) (Has (found_rows f)) (Has (found_rows f)) run (ran_widen run.log known [] (Leaves run.log) (Leaves run.log) (Has (found_rows f)) (Has (found_rows f)) (λ c left. run.each c left) (λ c left. run.each c left) more))

  pub clear_flushed : (old : Option Log) → (run : RanBy first old [] (found_rows f) (found_rows f)) → known ≡ Some (flushed_log run.log) → ((n : Name) → Reads old n (λ v. v ≡ pairs_alone f n)) → Ran first known [] (SamePairs f) (Is (pairs_alone f))
  clear_flushed old run is cleared =
      ran_widen first known [] (Has (found_rows f)) (Is (reads run.log)) (SamePairs f) (Is (pairs_alone f)) (found_pairs f) (λ c same n. same n ∙ cleared n run.log run.is)
      (then_flushed first old known (Has (found_rows f)) (Has (found_rows f)) (λ c h. h) run is)

-- after both flushes each image is as it was read
pub listed : (first : Log) (old : Option Log) → Ran first (Some (flushed_log first)) [] (Leaves first) (Is (reads first)) → old ≡ Some (flushed_log first) → Ran (flushed_log first) old [] (Is (reads first)) (Is (reads first))
listed first old run is = ran_start (flushed_log first) old (Is (reads first)) (Is (reads first)) is (λ c h. h) (ran_each first (Some (flushed_log first)) [] (Leaves first) (Is (reads first)) run (flushed_log first) refl)
