-- The pairs that a crash may leave of a spool.
use Rattle.std.proofs.Common.{◌≡◌, ◌<◌, ◌≤◌, ◌+◌, ℕ, zero, suc, List, [], ◌∷◌, ◌++◌, drop, Option, None, Some, Bool, false, cond, nat_eq, refl, sym, ◌∙◌, ap, subst, ⊎_elim, arith}
use Rattle.std.proofs.lemmas.Bool.Decides.{nat_tests}
use Rattle.st_disk.specs.Folders.{Folder}
use Rattle.st_disk.specs.Disks.{Log}
use Rattle.st_disk.specs.Events.{Event, Publish, Remove}
use Rattle.st_disk.proofs.Sets.{files_more, files_less}
use Rattle.st_disk.specs.Pairs.{Entry, Files, files_of, files_at, PairsIn, IsBelow, IsFileSet}
use Rattle.st_spool.specs.Rows.{Row, Free, Half, Coming, Pair, Going, Has, set_row, pair_before, IsSetOf, Either}
use Rattle.st_spool.specs.Settling.{entry}
use Rattle.st_spool.specs.History.{set_of, entries_of, without}
use Rattle.st_spool.specs.States.{SpoolState, rows_of, with_doubt, MayBe, Placement, place_in}
use Rattle.st_spool.specs.Standing.{StandsFor, Gives, in_doubt}
use Rattle.st_spool.specs.declared.state.Doubt.{Doubt}
use Rattle.st_spool.specs.declared.state.Doubt.TheVariants as doubt
use Rattle.st_spool.proofs.Keeping.{by_test, is_same, same_here}
use Rattle.st_spool.proofs.Setting.{sure_set, either_set}
use Rattle.st_spool.proofs.Stages.{at_least}
use Rattle.st_spool.proofs.Histories.{set_more}
use Rattle.st_spool.proofs.Places.{rows_free, rows_sure, rows_set, file_set_more, file_set_drop, up_to_drop}
use Rattle.st_spool.proofs.Aged.{rows_least}

without_none : (s : ℕ) (es : List Entry) → IsBelow s es → without s es ≡ es
without_none s [] below = refl
without_none s (e ∷ es) below =
    let more : s < e.stamp = below.0 in
    let other : nat_eq e.stamp s ≡ false = grind (arith, nat_tests) in
    ap (λ (b : Bool). cond b (without s es) (e ∷ without s es)) other ∙ ap (λ (xs : List Entry). e ∷ xs) (without_none s es below.1)

pub without_first : (t : ℕ) (e : Entry) (rest : List Entry) → t ≡ e.stamp → IsBelow e.stamp rest → without t (e ∷ rest) ≡ rest
without_first t e rest same below =
    ap (λ (n : ℕ). without n (e ∷ rest)) same ∙ ap (λ (b : Bool). cond b (without e.stamp rest) (e ∷ without e.stamp rest)) (same_here e.stamp) ∙ without_none e.stamp rest below

some_is : (x y : Placement) → ◌≡◌ {A = Option Placement} (Some x) (Some y) → x ≡ y
some_is x y e = cc

place_from : (n s : ℕ) (all : List Entry) (p : Placement) → place_in n s all ≡ Some p → n ≤ p.place
place_from n s [] p is = cc
place_from n s (e ∷ es) p is =
    by_test (nat_eq e.stamp s) (λ b. cond b (Some (record { place = n; files = files_of e })) (place_in (n + 1) s es) ≡ Some p → n ≤ p.place)
    (λ k is. let same : n ≡ p.place = ap (λ (q : Placement). q.place) (some_is (record { place = n; files = files_of e }) p is) in omega arith)
    (λ k is. let more : n + 1 ≤ p.place = place_from (n + 1) s es p is in omega arith) is

-- the entry at a place that was found
pub found_at : (n g t : ℕ) (all : List Entry) (f : Files) → place_in n t all ≡ Some (record { place = n + g; files = f }) → (e : Entry) × (rest : List Entry) × (drop g all ≡ e ∷ rest) × (t ≡ e.stamp) × (files_of e ≡ f)
found_at n g t [] f is = absurd (cc)
found_at n zero t (e ∷ es) f is =
    by_test (nat_eq e.stamp t) (λ b. nat_eq e.stamp t ≡ b → cond b (Some (record { place = n; files = files_of e })) (place_in (n + 1) t es) ≡ Some (record { place = n + 0; files = f }) → (d : Entry) × (rest : List Entry) × (drop 0 (e ∷ es) ≡ d ∷ rest) × (t ≡ d.stamp) × (files_of d ≡ f))
    (λ k z is. (e, es, refl, sym (is_same e.stamp t k), ap (λ (q : Placement). q.files) (some_is (record { place = n; files = files_of e }) (record { place = n + 0; files = f }) is)))
    (λ k z is. let more : n + 1 ≤ n + 0 = place_from (n + 1) t es (record { place = n + 0; files = f }) is in absurd (omega arith)) refl is
found_at n (suc g) t (e ∷ es) f is =
    by_test (nat_eq e.stamp t) (λ b. nat_eq e.stamp t ≡ b → cond b (Some (record { place = n; files = files_of e })) (place_in (n + 1) t es) ≡ Some (record { place = n + suc g; files = f }) → (d : Entry) × (rest : List Entry) × (drop (suc g) (e ∷ es) ≡ d ∷ rest) × (t ≡ d.stamp) × (files_of d ≡ f))
    (λ k z is. let same : n ≡ n + suc g = ap (λ (q : Placement). q.place) (some_is (record { place = n; files = files_of e }) (record { place = n + suc g; files = f }) is) in absurd (omega arith))
    (λ k z is. found_at (n + 1) g t es f (is ∙ ap (λ (m : ℕ). Some (record { place = m; files = f })) (let eq : n + suc g ≡ n + 1 + g = omega arith in eq))) refl is

module _ (W : List ℕ → List ℕ → Type 0) (known : Option Log) (st : SpoolState) (earlier h : List Event) (k : Files) (stands : StandsFor W known st earlier h k) where
  rows : ℕ → Row
  rows = rows_of st.removed st.holds st.last (entries_of h)

  pub is_set : IsSetOf (rows_of st.removed st.holds st.last (entries_of h)) (drop st.removed (entries_of h))
  is_set = rows_set st.removed st.last st.holds (entries_of h) stands.rises

  -- nothing is in doubt
  pub sure_sets : (c : Folder) → Has (rows_of st.removed st.holds st.last (entries_of h)) c → PairsIn c (set_of h)
  sure_sets c has = subst (λ (s : List Entry). PairsIn c s) (sym stands.set) (sure_set (rows_of st.removed st.holds st.last (entries_of h)) (drop st.removed (entries_of h)) c (rows_sure st.removed st.last st.holds (entries_of h)) is_set has)

  module _ (t : ℕ) (f : Files) (more : st.last < t) where
    pub free : rows_of st.removed st.holds st.last (entries_of h) t ≡ Free
    free = rows_free st.removed st.last st.holds (entries_of h) t stands.last more

    pub set_more_is : set_of (h ++ Publish (entry t f) ∷ []) ≡ drop st.removed (entries_of h) ++ entry t f ∷ []
    set_more_is = set_more [] h (Publish (entry t f)) ∙ ap (λ (s : List Entry). s ++ entry t f ∷ []) stands.set

    rises_set : IsFileSet (drop st.removed (entries_of h) ++ entry t f ∷ [])
    rises_set = file_set_more st.last (drop st.removed (entries_of h)) (entry t f) (up_to_drop st.last st.removed (entries_of h) stands.last) more (file_set_drop st.removed (entries_of h) stands.rises)

    pub coming_sets : (c : Folder) → Has (set_row (rows_of st.removed st.holds st.last (entries_of h)) t (Coming f)) c → Either (set_of h) (set_of (h ++ Publish (entry t f) ∷ [])) c
    coming_sets c has =
        subst (λ (s : List Entry). Either (set_of h) s c) (sym set_more_is)
        (subst (λ (s : List Entry). Either s (drop st.removed (entries_of h) ++ entry t f ∷ []) c) (sym stands.set)
        (either_set (rows_of st.removed st.holds st.last (entries_of h)) t (Coming f) (drop st.removed (entries_of h)) (drop st.removed (entries_of h) ++ entry t f ∷ []) c (rows_sure st.removed st.last st.holds (entries_of h)) is_set (sym (ap pair_before free)) rises_set
        (λ s. files_more (entry t f) (drop st.removed (entries_of h)) s (is_set.each t ∙ ap pair_before free)) has))

    pub half_sets : (c : Folder) → Has (set_row (rows_of st.removed st.holds st.last (entries_of h)) t (Half f)) c → PairsIn c (set_of h)
    half_sets c has =
        subst (λ (s : List Entry). PairsIn c s) (sym stands.set)
        (⊎_elim (λ (p : PairsIn c (drop st.removed (entries_of h))). p) (λ (p : PairsIn c (drop st.removed (entries_of h))). p)
        (either_set (rows_of st.removed st.holds st.last (entries_of h)) t (Half f) (drop st.removed (entries_of h)) (drop st.removed (entries_of h)) c (rows_sure st.removed st.last st.holds (entries_of h)) is_set (sym (ap pair_before free)) is_set.rises
        (at_least (rows_of st.removed st.holds st.last (entries_of h)) t (drop st.removed (entries_of h)) (Half f) is_set (sym (ap pair_before free))) has))

  -- the least pair of the set
  module _ (t : ℕ) (e : Entry) (rest : List Entry) (is : drop st.removed (entries_of h) ≡ e ∷ rest) (same : t ≡ e.stamp) where
    pub is_pair : rows_of st.removed st.holds st.last (entries_of h) t ≡ Pair (files_of e)
    is_pair = ap (rows_of st.removed st.holds st.last (entries_of h)) same ∙ rows_least st.removed st.last st.holds (entries_of h) e rest is stands.rises

    pub rises_both : IsFileSet (e ∷ rest)
    rises_both = subst IsFileSet is (file_set_drop st.removed (entries_of h) stands.rises)

    pub set_old : set_of h ≡ e ∷ rest
    set_old = stands.set ∙ is

    pub set_less : set_of (h ++ Remove t ∷ []) ≡ rest
    set_less = set_more [] h (Remove t) ∙ ap (without t) set_old ∙ without_first t e rest same rises_both.0

    pub going_sets : (c : Folder) → Has (set_row (rows_of st.removed st.holds st.last (entries_of h)) t (Going (files_of e))) c → Either (set_of h) (set_of (h ++ Remove t ∷ [])) c
    going_sets c has =
        subst (λ (s : List Entry). Either (set_of h) s c) (sym set_less)
        (subst (λ (s : List Entry). Either s rest c) (sym set_old)
        (either_set (rows_of st.removed st.holds st.last (entries_of h)) t (Going (files_of e)) (e ∷ rest) rest c (rows_sure st.removed st.last st.holds (entries_of h))
        (subst (λ (s : List Entry). IsSetOf (rows_of st.removed st.holds st.last (entries_of h)) s) is is_set) (sym (ap pair_before is_pair)) rises_both.1
        (subst (λ (n : ℕ). (s : ℕ) → files_at s rest ≡ cond (nat_eq n s) None (files_at s (e ∷ rest))) (sym same) (λ s. files_less e rest s rises_both)) has))

  going_found : (t : ℕ) → place_in 0 t (entries_of h) ≡ Some (record { place = st.removed; files = k }) → (c : Folder) → Has (set_row (rows_of st.removed st.holds st.last (entries_of h)) t (Going k)) c → Either (set_of h) (set_of (h ++ Remove t ∷ [])) c
  going_found t may c has =
      let r = found_at 0 st.removed t (entries_of h) k (may ∙ ap (λ (n : ℕ). Some (record { place = n; files = k })) (let z : st.removed ≡ 0 + st.removed = omega arith in z)) in
      going_sets t r.0 r.1 r.2 r.3 c (subst (λ (q : Files). Has (set_row (rows_of st.removed st.holds st.last (entries_of h)) t (Going q)) c) (sym r.4) has)

  sets_by : (d : Doubt) → MayBe d k st.removed st.last (entries_of h) → (c : Folder) → Has (with_doubt d k (rows_of st.removed st.holds st.last (entries_of h))) c → Gives h (in_doubt d k) c
  sets_by doubt.Nothing may c has = sure_sets c has
  sets_by (doubt.Unsettled t) may c has = half_sets t k may c has
  sets_by (doubt.Settled t) may c has = coming_sets t k may c has
  sets_by (doubt.Unhidden t) may c has = sure_sets c has
  sets_by (doubt.Hidden t) may c has = going_found t may c has

  -- each image has the pairs of the history, or those with the event in doubt if it began
  pub gives : (c : Folder) → Has (with_doubt st.doubt k (rows_of st.removed st.holds st.last (entries_of h))) c → Gives h (in_doubt st.doubt k) c
  gives c has = sets_by st.doubt stands.doubt c has
