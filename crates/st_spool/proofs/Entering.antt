-- The flushes and removals of an opening.
use Rattle.std.proofs.Common.{◌≡◌, ℕ, List, [], Option, None, Some, IsSome, false, cond, nat_eq, refl, sym, ◌∙◌, ap, subst, ⊎_elim}
use Rattle.st_disk.specs.declared.naming.Kind.{Kind}
use Rattle.st_disk.specs.declared.naming.Kind.TheVariants as kind
use Rattle.st_disk.specs.declared.naming.Name.{Name}
use Rattle.st_disk.specs.declared.naming.Name.TheVariants.{Block, Index, Parked, Draft}
use Rattle.st_disk.specs.declared.changes.Call.TheVariants.{Did, Flush, Other}
use Rattle.st_disk.specs.declared.changes.Change.TheVariants.{Remove}
use Rattle.st_disk.specs.Folders.{Folder, apply, where_there}
use Rattle.st_disk.specs.Names.{kind_of, same_name}
use Rattle.st_disk.specs.Disks.{Log, reads, Leaves, and_then}
use Rattle.st_disk.specs.LoggedCalls.{Adds, Reads, removal}
use Rattle.st_disk.specs.Runs.{Ran}
use Rattle.st_disk.specs.Pairs.{both}
use Rattle.st_disk.proofs.Order.{same_is}
use Rattle.st_disk.proofs.Reading.{known_log, flush_spares, other_spares, remove_spares, reads_removal}
use Rattle.st_disk.proofs.Runs.{ran_start, ran_widen, ran_then, ran_flushed, known_before}
use Rattle.st_spool.specs.Rows.{Row, Past, Lone, Fits, Has, pair_before, pair_after}
use Rattle.st_spool.specs.Entering.{found_row, found_rows, Is, SamePairs, IsPart, flushed_log}
use Rattle.st_spool.proofs.Keeping.{by_test, is_same, past_block}
use Rattle.st_spool.proofs.Setting.{one_of}

by_kind_of : (n : Name) (A : Type 0) → (kind_of n ≡ kind.Block → A) → (kind_of n ≡ kind.Index → A) → A
by_kind_of n A one two = go (kind_of n) refl
  where
    go : (k : Kind) → kind_of n ≡ k → A
    go kind.Block e = one e
    go kind.Index e = two e

-- what both flushes leave as it was read
pub flushed_reads : (l : Log) (n : Name) → reads (flushed_log l) n ≡ reads l n
flushed_reads l n = flush_spares kind.Index n (and_then l (Flush kind.Block)) ∙ flush_spares kind.Block n l

-- after both flushes each image is what is read
pub both_flushed : (l : Log) → Ran l (Some (flushed_log l)) [] (Leaves l) (Is (reads l))
both_flushed l =
    let run = ran_start l (Some l) (Leaves l) (Leaves l) refl (λ c h. h) (λ c h. h) in
    let half = ran_flushed l (Some l) (Some (and_then l (Flush kind.Block))) [] (Leaves l) (Leaves l) (λ c. Leaves l c × ((n : Name) → kind_of n ≡ kind.Block → c n ≡ reads l n)) kind.Block (λ c h. h.0)
    (λ g t c h pins. (h, λ n e. pins n e ∙ ap (λ (x : Log). reads x n) (known_log g l (sym t)))) run refl in
    let whole = ran_flushed l (Some (and_then l (Flush kind.Block))) (Some (flushed_log l)) [] (Leaves l) (λ c. Leaves l c × ((n : Name) → kind_of n ≡ kind.Block → c n ≡ reads l n)) (λ c. Leaves l c × Is (reads l) c) kind.Index (λ c h. h.0)
    (λ g t c h pins. (h.0, λ n. by_kind_of n (c n ≡ reads l n) (h.1 n) (λ e. pins n e ∙ ap (λ (x : Log). reads x n) (known_log g (and_then l (Flush kind.Block)) (sym t)) ∙ flush_spares kind.Block n l))) half refl in
    ran_widen l (Some (flushed_log l)) [] (Leaves l) (λ c. Leaves l c × Is (reads l) c) (Leaves l) (Is (reads l)) (λ c h. h) (λ c h. h.1) whole

-- both flushes after a run
pub then_flushed : (first : Log) (old new : Option Log) (P Q : Folder → Type 0) → ((c : Folder) → Q c → P c) → (run : Ran first old [] P Q) → new ≡ Some (flushed_log run.log) → Ran first new [] P (Is (reads run.log))
then_flushed first old new P Q gives run is =
    ran_then first old new [] [] P Q (Is (reads run.log)) run
    (ran_widen run.log new [] (Leaves run.log) (Is (reads run.log)) P (Is (reads run.log)) (λ c left. gives c (run.each c left)) (λ c h. h) (subst (λ (o : Option Log). Ran run.log o [] (Leaves run.log) (Is (reads run.log))) (sym is) (both_flushed run.log)))

-- a folder has the rows that are found in it
found_fits : (b i p : Option (List ℕ)) → Fits (found_row b i) b i p
found_fits None i p = refl
found_fits (Some b) None p = refl
found_fits (Some b) (Some i) p = (refl, refl)

pub found_has : (f c : Folder) → Is f c → Has (found_rows f) c
found_has f c is s =
    subst (λ (x : Option (List ℕ)). Fits (found_rows f s) x (c (Index s)) (c (Parked s))) (sym (is (Block s)))
    (subst (λ (y : Option (List ℕ)). Fits (found_rows f s) (f (Block s)) y (c (Parked s))) (sym (is (Index s))) (found_fits (f (Block s)) (f (Index s)) (c (Parked s))))

found_same : (b i : Option (List ℕ)) → pair_before (found_row b i) ≡ both b i
found_same None i = refl
found_same (Some b) None = refl
found_same (Some b) (Some i) = refl

found_after : (b i : Option (List ℕ)) → pair_after (found_row b i) ≡ both b i
found_after None i = refl
found_after (Some b) None = refl
found_after (Some b) (Some i) = refl

-- what has these rows has the pairs that were found
pub found_pairs : (f c : Folder) → Has (found_rows f) c → SamePairs f c
found_pairs f c h s =
    ⊎_elim (λ e. e ∙ found_same (f (Block s)) (f (Index s))) (λ e. e ∙ found_after (f (Block s)) (f (Index s))) (one_of (found_rows f s) (c (Block s)) (c (Index s)) (c (Parked s)) (h s))

found_past : (b i : Option (List ℕ)) → IsSome b → (IsSome i → ⊥) → found_row b i ≡ Past
found_past None i there out = cc
found_past (Some b) None there out = refl
found_past (Some b) (Some i) there out = absurd (out refl)

found_lone : (b i : Option (List ℕ)) → (IsSome b → ⊥) → found_row b i ≡ Lone
found_lone None i out = refl
found_lone (Some b) i out = absurd (out refl)

found_parked : (b i x y p q : Option (List ℕ)) → Fits (found_row b i) x y p → Fits (found_row b i) x y q
found_parked None i x y p q fits = fits
found_parked (Some b) None x y p q fits = fits
found_parked (Some b) (Some i) x y p q fits = fits

lone_index : (rows : ℕ → Row) (t : ℕ) → rows t ≡ Lone → (c : Folder) → Has rows c → Has rows (apply (Remove (Index t)) c)
lone_index rows t lone c h s =
    by_test (nat_eq t s) (λ b. Fits (rows s) (c (Block s)) (cond b None (c (Index s))) (c (Parked s)))
    (λ e. subst (λ (q : ℕ). Fits (rows q) (c (Block q)) None (c (Parked q))) (is_same t s e) (subst (λ (r : Row). Fits r (c (Block t)) None (c (Parked t))) (sym lone) (subst (λ (r : Row). Fits r (c (Block t)) (c (Index t)) (c (Parked t))) lone (h t)))) (λ e. h s)

-- what is no part of a pair may be removed
pub stray_keeps : (f : Folder) (name : Name) → IsSome (f name) → (IsPart (λ n. IsSome (f n)) name → ⊥) → (c : Folder) → Has (found_rows f) c → Has (found_rows f) (apply (Remove name) c)
stray_keeps f (Block t) there stray c h = past_block (found_rows f) t (found_past (f (Block t)) (f (Index t)) there stray) c h
stray_keeps f (Index t) there stray c h = lone_index (found_rows f) t (found_lone (f (Block t)) (f (Index t)) stray) c h
stray_keeps f (Parked t) there stray c h = λ s.
    by_test (nat_eq t s) (λ b. Fits (found_rows f s) (c (Block s)) (c (Index s)) (cond b None (c (Parked s)))) (λ e. found_parked (f (Block s)) (f (Index s)) (c (Block s)) (c (Index s)) (c (Parked s)) None (h s)) (λ e. h s)
stray_keeps f (Draft k d) there stray c h = λ s. h s

pub part_more : (P Q : Name → Type 0) (name : Name) → ((n : Name) → P n → Q n) → IsPart P name → IsPart Q name
part_more P Q (Block t) more part = more (Index t) part
part_more P Q (Index t) more part = more (Block t) part
part_more P Q (Parked t) more part = part
part_more P Q (Draft k d) more part = part

-- a removal of one name, of another
removal_spares : (log : Log) (m n : Name) (there : Option (List ℕ)) → same_name m n ≡ false → reads (and_then log (where_there there (λ _. Did (Remove m)) Other)) n ≡ reads log n
removal_spares log m n None other = other_spares n log
removal_spares log m n (Some x) other = remove_spares m n other log

-- what is read after a removal
pub reads_removing : (old new : Option Log) (m n : Name) (P : Option (List ℕ) → Type 0) → (m ≡ n → P None) → Reads old n P → Adds old new (removal old m) → Reads new n P
reads_removing old new m n P gone was adds log is =
    let prior = known_before old new (removal old m) log is adds in
    let now : log ≡ and_then prior.0 (removal (Some prior.0) m) = prior.2 ∙ ap (λ (o : Option Log). and_then prior.0 (removal o m)) prior.1 in
    subst (λ (l : Log). P (reads l n)) (sym now)
    (by_test (same_name m n) (λ b. same_name m n ≡ b → P (reads (and_then prior.0 (removal (Some prior.0) m)) n))
    (λ k e. let same : m ≡ n = same_is m n k in subst P (sym (ap (λ (q : Name). reads (and_then prior.0 (removal (Some prior.0) m)) q) (sym same) ∙ reads_removal prior.0 m)) (gone same))
    (λ k e. subst P (sym (removal_spares prior.0 m n (reads prior.0 m) k)) (was prior.0 prior.1)) refl)
