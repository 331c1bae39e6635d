-- The spool that an opening makes of what it found.
use Rattle.std.proofs.Common.{◌≡◌, ◌⊎◌, ◌<◌, ◌≤◌, ◌+◌, ℕ, suc, List, [], ◌∷◌, ◌++◌, length, take, map, get_or, Option, None, Some, IsSome, Bool, true, false, cond, nat_eq, nat_lt, nat_le, Contains, refl, sym, ◌∙◌, ap, subst, inl, inr, ⊎_elim, arith}
use Rattle.std.specs.List.{AllPairs}
use Rattle.std.proofs.lemmas.Bool.Decides.{nat_tests}
use Rattle.std.proofs.lemmas.List.{append-nil}
use Rattle.std.proofs.lemmas.List.Elements.{Contains-append_left, Contains-append_right, Contains-append_cases, Contains-push, Contains-push_cases}
use Rattle.st_disk.specs.declared.naming.Name.{Name}
use Rattle.st_disk.specs.declared.naming.Name.TheVariants.{Block, Index, Parked}
use Rattle.st_disk.specs.Folders.{Folder, given, bare}
use Rattle.st_disk.specs.Disks.{Log, reads, Leaves}
use Rattle.st_disk.specs.Events.{Event, Found, events}
use Rattle.st_disk.specs.LoggedCalls.{KnownBefore}
use Rattle.st_disk.specs.Pairs.{Entry, Files, both, IsBelow, IsFileSet, PairsIn}
use Rattle.st_spool.specs.Rows.{Row, Free, Past, Pair, Held, Fits, Has, pair_before}
use Rattle.st_disk.specs.Runs.{Each}
use Rattle.st_disk.proofs.Images.{leaves_now}
use Rattle.st_spool.specs.Recalling.{entries_in, log_before}
use Rattle.st_spool.specs.Settling.{files, entry}
use Rattle.st_spool.specs.States.{SpoolState, place_in, covers, row_at, rows_of, AreUpTo}
use Rattle.st_spool.specs.Standing.{StandsFor, OnDisk, stamp_of}
use Rattle.st_spool.specs.Entering.{Is, SamePairs, pairs_alone, beside, ArePaired, IsLastStamp, flushed_log, opened, Opens, Enters}
use Rattle.st_spool.specs.declared.state.Span.{Span}
use Rattle.st_spool.proofs.Keeping.{by_test, is_same}
use Rattle.st_spool.proofs.Recalled.{before_now, recall_by, rows_show, take_long}
use Rattle.st_spool.proofs.Places.{rows_set}
use Rattle.st_spool.proofs.Published.{ran_each, ran_past}

first_or : (x s : ℕ) (xs : List ℕ) → Contains (x ∷ xs) s → (x ≡ s) ⊎ Contains xs s
first_or x s xs has = ⊎_elim (λ one. ⊎_elim (λ (none : Contains [] s). absurd (let lt : none.0 < 0 = none.1 in omega arith)) (λ e. inl e) (Contains-push_cases [] x s one)) (λ more. inr more) (Contains-append_cases (x ∷ []) xs s has)

later : (x s : ℕ) (xs : List ℕ) → Contains xs s → Contains (x ∷ xs) s
later x s xs has = Contains-append_right (x ∷ []) xs s has

first : (x : ℕ) (xs : List ℕ) → Contains (x ∷ xs) x
first x xs = Contains-append_left (x ∷ []) xs x (Contains-push [] x)

nothing_or : (o : Option (List ℕ)) → (o ≡ None) ⊎ ((x : List ℕ) × (o ≡ Some x))
nothing_or None = inl refl
nothing_or (Some x) = inr (x, refl)

module _ (f : Folder) where
  -- the files of a stamp, as far as they are there
  abbrev pub files_in : ℕ → Files
  files_in s = files (given (f (Block s))) (given (f (Index s)))

  abbrev pub entry_in : ℕ → Entry
  entry_in s = entry s (files_in s)

  abbrev pub pairs_at : List ℕ → List Entry
  pairs_at [] = []
  pairs_at (s ∷ ss) = entry_in s ∷ pairs_at ss

  pub stamps_at : (ss : List ℕ) → map stamp_of (pairs_at ss) ≡ ss
  stamps_at [] = refl
  stamps_at (s ∷ ss) = ap (λ (xs : List ℕ). s ∷ xs) (stamps_at ss)

  pub length_at : (ss : List ℕ) → length (pairs_at ss) ≡ length ss
  length_at [] = refl
  length_at (s ∷ ss) = let more = length_at ss in omega arith

  below_at : (s : ℕ) (ss : List ℕ) → ((t : ℕ) → Contains ss t → s < t) → IsBelow s (pairs_at ss)
  below_at s [] less = tt
  below_at s (t ∷ ts) less = (less t (first t ts), below_at s ts (λ u has. less u (later t u ts has)))

  below_first : (s : ℕ) (ss : List ℕ) → AllPairs (λ s t. s < t) (s ∷ ss) → (t : ℕ) → Contains ss t → s < t
  below_first s ss rises t has =
      let lt : has.0 < length ss = has.1 in
      let less : s < get_or ss has.0 t = rises 0 (suc has.0) t (omega arith) (omega arith) in
      subst (λ (n : ℕ). s < n) has.2 less

  pub rises_at : (ss : List ℕ) → AllPairs (λ s t. s < t) ss → IsFileSet (pairs_at ss)
  rises_at [] rises = tt
  rises_at (s ∷ ss) rises = (below_at s ss (below_first s ss rises), rises_at ss (λ i j d lt in_list. rises (suc i) (suc j) d (omega arith) (omega arith)))

  pub up_to_at : (last : ℕ) (ss : List ℕ) → ((s : ℕ) → Contains ss s → s ≤ last) → AreUpTo last (pairs_at ss)
  up_to_at last [] most = tt
  up_to_at last (s ∷ ss) most = (most s (first s ss), up_to_at last ss (λ t has. most t (later s t ss has)))

  place_there : (n s : ℕ) (ss : List ℕ) → Contains ss s → (k : ℕ) × (place_in n s (pairs_at ss) ≡ Some (record { place = k; files = files_in s }))
  place_there n s [] has = absurd (let lt : has.0 < 0 = has.1 in omega arith)
  place_there n s (x ∷ xs) has =
      by_test (nat_eq x s) (λ b. nat_eq x s ≡ b → (k : ℕ) × (cond b (Some (record { place = n; files = files_in x })) (place_in (n + 1) s (pairs_at xs)) ≡ Some (record { place = k; files = files_in s })))
      (λ e z. (n, ap (λ (q : ℕ). Some (record { place = n; files = files_in q })) (is_same x s e)))
      (λ e z. place_there (n + 1) s xs (⊎_elim (λ (same : x ≡ s). absurd (apart x s e same)) (λ more. more) (first_or x s xs has))) refl
    where
      apart : (a b : ℕ) → nat_eq a b ≡ false → a ≡ b → ⊥
      apart a b e same = let t : nat_eq a b ≡ true = grind (arith, nat_tests) in cc

  place_absent : (n s : ℕ) (ss : List ℕ) → (Contains ss s → ⊥) → place_in n s (pairs_at ss) ≡ None
  place_absent n s [] none = refl
  place_absent n s (x ∷ xs) none =
      by_test (nat_eq x s) (λ b. nat_eq x s ≡ b → cond b (Some (record { place = n; files = files_in x })) (place_in (n + 1) s (pairs_at xs)) ≡ None)
      (λ e z. absurd (none (subst (Contains (x ∷ xs)) (is_same x s e) (first x xs))))
      (λ e z. place_absent (n + 1) s xs (λ has. none (later x s xs has))) refl

  module _ (ss : List ℕ) (paired : ArePaired (λ n. IsSome (f n)) ss) (last : ℕ) where
    row : ℕ → Row
    row = rows_of 0 [] last (pairs_at ss)

    two_some : (s : ℕ) (x y : List ℕ) → f (Block s) ≡ Some x → f (Index s) ≡ Some y → Contains ss s
    two_some s x y e g = paired.all s (subst (λ (o : Option (List ℕ)). IsSome o) (sym e) refl) (subst (λ (o : Option (List ℕ)). IsSome o) (sym g) refl)

    pair_row : (s : ℕ) → Contains ss s → rows_of 0 [] last (pairs_at ss) s ≡ Pair (files_in s)
    pair_row s has =
        let at = place_there 0 s ss has in
        let in_set : nat_le 0 at.0 ≡ true = grind (arith, nat_tests) in
        ap (row_at 0 [] (nat_lt last s)) at.1 ∙ ap (λ (b : Bool). cond b (Pair (files_in s)) (cond (covers [] at.0) (Held (files_in s)) Past)) in_set

    no_row : (s : ℕ) → (Contains ss s → ⊥) → rows_of 0 [] last (pairs_at ss) s ≡ cond (nat_lt last s) Free Past
    no_row s none = ap (row_at 0 [] (nat_lt last s)) (place_absent 0 s ss none)

    of_files : (b i : Option (List ℕ)) (x y : List ℕ) → b ≡ Some x → i ≡ Some y → both b i ≡ Some (files (given b) (given i))
    of_files b i x y e g = ap (λ (o : Option (List ℕ)). both o i) e ∙ ap (λ (o : Option (List ℕ)). both (Some x) o) g ∙ sym (ap (λ (o : Option (List ℕ)). Some (files (given o) (given i))) e ∙ ap (λ (o : Option (List ℕ)). Some (files x (given o))) g)

    some_is : (o : Option (List ℕ)) → IsSome o → (x : List ℕ) × (o ≡ Some x)
    some_is None h = absurd (cc)
    some_is (Some x) h = (x, refl)

    none_before : (b : Bool) → pair_before (cond b Free Past) ≡ None
    none_before true = refl
    none_before false = refl

    no_pair : (b i : Option (List ℕ)) → ((x y : List ℕ) → b ≡ Some x → i ≡ Some y → ⊥) → both b i ≡ None
    no_pair None i none = refl
    no_pair (Some x) None none = refl
    no_pair (Some x) (Some y) none = absurd (none x y refl refl)

    -- whether the stamp is one of a pair
    is_pair : (s : ℕ) → Contains ss s ⊎ (Contains ss s → ⊥)
    is_pair s =
        ⊎_elim (λ (e : f (Block s) ≡ None). inr (λ has. let g = some_is (f (Block s)) (paired.each s has).0 in not_both (f (Block s)) g.0 e g.1))
        (λ x. ⊎_elim (λ (e : f (Index s) ≡ None). inr (λ has. let g = some_is (f (Index s)) (paired.each s has).1 in not_both (f (Index s)) g.0 e g.1)) (λ y. inl (two_some s x.0 y.0 x.1 y.1)) (nothing_or (f (Index s))))
        (nothing_or (f (Block s)))
      where
        not_both : (o : Option (List ℕ)) (x : List ℕ) → o ≡ None → o ≡ Some x → ⊥
        not_both o x a b = cc

    pub pairs_in : PairsIn f (pairs_at ss)
    pairs_in = record {
      rises = rises_at ss paired.rises;
      each = λ s. (rows_set 0 last [] (pairs_at ss) (rises_at ss paired.rises)).each s ∙ ⊎_elim
          (λ has. let x = some_is (f (Block s)) (paired.each s has).0 in let y = some_is (f (Index s)) (paired.each s has).1 in
          ap pair_before (pair_row s has) ∙ sym (of_files (f (Block s)) (f (Index s)) x.0 y.0 x.1 y.1))
          (λ none. ap pair_before (no_row s none) ∙ none_before (nat_lt last s) ∙ sym (no_pair (f (Block s)) (f (Index s)) (λ x y e g. none (two_some s x y e g))))
          (is_pair s);
    }

    free_or_past : (t : Bool) (b i p : Option (List ℕ)) → b ≡ None → i ≡ None → p ≡ None → Fits (cond t Free Past) b i p
    free_or_past true b i p e g k = (e, g, k)
    free_or_past false b i p e g k = g

    beside_none : (own other : Option (List ℕ)) → ((x y : List ℕ) → own ≡ Some x → other ≡ Some y → ⊥) → beside other own ≡ None
    beside_none own None none = refl
    beside_none None (Some y) none = refl
    beside_none (Some x) (Some y) none = absurd (none x y refl refl)

    beside_some : (own other : Option (List ℕ)) (x y : List ℕ) → own ≡ Some x → other ≡ Some y → beside other own ≡ Some (given own)
    beside_some own other x y e g = ap (λ (o : Option (List ℕ)). beside o own) g ∙ e ∙ sym (ap (λ (o : Option (List ℕ)). Some (given o)) e)

    -- a folder of the pairs alone has the rows of the new spool
    pub alone_has : (c : Folder) → Is (pairs_alone f) c → Has (rows_of 0 [] last (pairs_at ss)) c
    alone_has c is s = ⊎_elim
        (λ has. let x = some_is (f (Block s)) (paired.each s has).0 in let y = some_is (f (Index s)) (paired.each s has).1 in
        subst (λ (r : Row). Fits r (c (Block s)) (c (Index s)) (c (Parked s))) (sym (pair_row s has))
        (is (Block s) ∙ beside_some (f (Block s)) (f (Index s)) x.0 y.0 x.1 y.1, is (Index s) ∙ beside_some (f (Index s)) (f (Block s)) y.0 x.0 y.1 x.1, is (Parked s)))
        (λ none. subst (λ (r : Row). Fits r (c (Block s)) (c (Index s)) (c (Parked s))) (sym (no_row s none))
        (free_or_past (nat_lt last s) (c (Block s)) (c (Index s)) (c (Parked s)) (is (Block s) ∙ beside_none (f (Block s)) (f (Index s)) (λ x y e g. none (two_some s x y e g)))
        (is (Index s) ∙ beside_none (f (Index s)) (f (Block s)) (λ y x g e. none (two_some s x y e g))) (is (Parked s))))
        (is_pair s)

  -- what is so of the new spool, whatever is known of its shelf
  stands_at : (W : List ℕ → List ℕ → Type 0) (known : Option Log) (limit last : ℕ) (ss : List ℕ) (earlier : List Event) (k : Files) → AllPairs (λ s t. s < t) ss → ((s : ℕ) → Contains ss s → s ≤ last)
      → ((log : Log) → known ≡ Some log → OnDisk W log (opened limit ss last) earlier (Found (pairs_at ss) ∷ []) k) → StandsFor W known (opened limit ss last) earlier (Found (pairs_at ss) ∷ []) k
  stands_at W known limit last ss earlier k rises most disk = record {
    legal = (rises_at ss rises, tt);
    more = (rises_at ss rises, tt);
    found = omega arith;
    counts = omega arith;
    stamps = stamps_at ss;
    set = refl;
    within = omega arith;
    rises = rises_at ss rises;
    last = up_to_at last ss most;
    holds = λ h has. absurd (let lt : has.0 < 0 = has.1 in omega arith);
    asked = let long = length_at ss in (omega arith, omega arith);
    no_doubt = (refl, refl);
    doubt = tt;
    disk = disk;
  }

most_of : (P : Name → Type 0) (ss : List ℕ) (last : ℕ) → ArePaired P ss → IsLastStamp P last → (s : ℕ) → Contains ss s → s ≤ last
most_of P ss last paired top s has = top.above (Block s) tt (paired.each s has).0

-- the spool of a shelf whose log is known
pub enters : (W : List ℕ → List ℕ → Type 0) (log : Log) (known : Option Log) (limit : ℕ) (ss : List ℕ) (last : ℕ) → Opens log known ss last → Enters W log known (opened limit ss last)
enters W log known limit ss last opens = record {
  pairs = pairs_at (reads log) ss;
  found = pairs_in (reads log) ss opens.paired last;
  stands = λ k. stands_at (reads log) W known limit last ss (events log) k opens.paired.rises (most_of (λ n. IsSome (reads log n)) ss last opens.paired opens.greatest) (λ now is.
      let images_now : Each now (Has (rows_of 0 [] last (pairs_at (reads log) ss))) =
      λ c left. alone_has (reads log) ss opens.paired last c (ran_each (flushed_log log) known [] (SamePairs (reads log)) (Is (pairs_alone (reads log))) opens.images.cleared now is c left) in
      let no_events : events now ≡ events log =
      ran_past (flushed_log log) known [] (SamePairs (reads log)) (Is (pairs_alone (reads log))) opens.images.cleared now is
      ∙ append-nil (events (flushed_log log)) ∙ ran_past log (Some (flushed_log log)) [] (Leaves log) (Is (reads log)) opens.images.flushed (flushed_log log) refl ∙ append-nil (events log) in
      let past_now : events now ≡ events log ++ [] = no_events ∙ sym (append-nil (events log)) in
      let long : length (events now) ≡ length (events log) = ap length no_events in
      let shown : entries_in (reads (log_before (length (events log)) now)) (take (length ss) ss) ≡ pairs_at (reads log) ss =
      ap (λ (l : Log). entries_in (reads l) (take (length ss) ss)) (before_now now (length (events log)) (omega arith))
      ∙ ap (entries_in (reads now)) (take_long (length ss) ss (omega arith) ∙ sym (stamps_at (reads log) ss))
      ∙ rows_show last [] (pairs_at (reads log) ss) (reads now) (rises_at (reads log) ss opens.paired.rises) (images_now (reads now) (leaves_now now)) in
      record {
        images = images_now;
        past = past_now;
        whole = tt;
        recalls = recall_by (opened limit ss last) now (events log) (Found (pairs_at (reads log) ss) ∷ []) k past_now (omega arith) limit (rises_at (reads log) ss opens.paired.rises, tt) shown;
        read = images_now (reads now) (leaves_now now);
      });
  last = opens.greatest;
  images = opens.images;
}

-- and of one whose log is not
pub enters_unknown : (W : List ℕ → List ℕ → Type 0) (known : Option Log) (limit : ℕ) (ss : List ℕ) (last : ℕ) → known ≡ None → AllPairs (λ s t. s < t) ss × ((s : ℕ) → Contains ss s → s ≤ last)
    → (earlier : List Event) × (h : List Event) × (k : Files) × StandsFor W known (opened limit ss last) earlier h k
enters_unknown W known limit ss last none sorted = ([], Found (pairs_at bare ss) ∷ [], files [] [], stands_at bare W known limit last ss [] (files [] []) sorted.0 sorted.1 (λ log is. absurd (cc)))

-- so there is a history in either case
pub opened_stands : (W : List ℕ → List ℕ → Type 0) (old known : Option Log) (limit : ℕ) (ss : List ℕ) (last : ℕ) → KnownBefore old known → ((log : Log) → old ≡ Some log → Opens log known ss last) → AllPairs (λ s t. s < t) ss × ((s : ℕ) → Contains ss s → s ≤ last)
    → (earlier : List Event) × (h : List Event) × (k : Files) × StandsFor W known (opened limit ss last) earlier h k
opened_stands W old known limit ss last before opens sorted = go known refl
  where
    go : (o : Option Log) → known ≡ o → (earlier : List Event) × (h : List Event) × (k : Files) × StandsFor W known (opened limit ss last) earlier h k
    go None is = enters_unknown W known limit ss last is sorted
    go (Some log) is =
        let was = before log is in
        let e = enters W was.0 known limit ss last (opens was.0 was.1) in
        (events was.0, Found e.pairs ∷ [], files [] [], e.stands (files [] []))

-- the state of the new spool, by its parts
pub opened_at : (P : SpoolState → Type 0) (limit last to : ℕ) (ss : List ℕ) (holds : List Span) → holds ≡ [] → to ≡ length ss → P (opened limit ss last)
    → P (record (opened limit ss last) { found = to; holds = holds; asked = record { from = 0; to = to } })
opened_at P limit last to ss holds none long has =
    subst (λ (n : ℕ). P (record (opened limit ss last) { found = n; holds = holds; asked = record { from = 0; to = n } })) (sym long)
    (subst (λ (hs : List Span). P (record (opened limit ss last) { holds = hs })) (sym none) has)
