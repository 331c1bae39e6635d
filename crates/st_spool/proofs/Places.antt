-- The rows of a spool as its state changes.
use Rattle.std.proofs.Common.{◌≡◌, ◌<◌, ◌≤◌, ◌+◌, ℕ, zero, suc, List, [], ◌∷◌, ◌++◌, length, drop, Option, None, Some, Bool, true, false, cond, nat_eq, nat_lt, nat_le, refl, sym, ◌∙◌, ap, subst, arith}
use Rattle.std.proofs.lemmas.Bool.Decides.{nat_tests}
use Rattle.st_disk.specs.declared.naming.Name.TheVariants.{Block, Index, Parked}
use Rattle.st_disk.specs.Folders.{Folder}
use Rattle.st_disk.specs.Pairs.{Entry, Files, files_of, files_at, IsFileSet, IsBelow}
use Rattle.st_disk.proofs.OneSet.{none_at}
use Rattle.st_spool.specs.Rows.{Free, Pair, Held, Past, Fits, Has, set_row, pair_before, pair_after, AreSure, IsSetOf}
use Rattle.st_spool.specs.States.{Placement, place_in, covers, row_at, rows_of, AreUpTo}
use Rattle.st_spool.specs.declared.state.Span.{Span}
use Rattle.st_spool.proofs.Keeping.{by_test, is_same, same_here, has_here, has_other}

pub place_none : (n s last : ℕ) (all : List Entry) → AreUpTo last all → last < s → place_in n s all ≡ None
place_none n s last [] up lt = refl
place_none n s last (e ∷ es) up lt =
    let le : e.stamp ≤ last = up.0 in
    let other : nat_eq e.stamp s ≡ false = grind (arith, nat_tests) in
    ap (λ (b : Bool). cond b (Some (record { place = n; files = files_of e })) (place_in (n + 1) s es)) other ∙ place_none (n + 1) s last es up.1 lt

place_other : (n s : ℕ) (all : List Entry) (e : Entry) → nat_eq e.stamp s ≡ false → place_in n s (all ++ e ∷ []) ≡ place_in n s all
place_other n s [] e other = ap (λ (b : Bool). cond b (Some (record { place = n; files = files_of e })) None) other
place_other n s (d ∷ ds) e other = ap (λ (o : Option Placement). cond (nat_eq d.stamp s) (Some (record { place = n; files = files_of d })) o) (place_other (n + 1) s ds e other)

place_new : (n last : ℕ) (all : List Entry) (e : Entry) → AreUpTo last all → last < e.stamp → place_in n e.stamp (all ++ e ∷ []) ≡ Some (record { place = n + length all; files = files_of e })
place_new n last [] e up lt = ap (λ (b : Bool). cond b (Some (record { place = n; files = files_of e })) None) (same_here e.stamp) ∙ ap (λ (k : ℕ). Some (record { place = k; files = files_of e })) (omega arith)
place_new n last (d ∷ ds) e up lt =
    let le : d.stamp ≤ last = up.0 in
    let other : nat_eq d.stamp e.stamp ≡ false = grind (arith, nat_tests) in
    ap (λ (b : Bool). cond b (Some (record { place = n; files = files_of d })) (place_in (n + 1) e.stamp (ds ++ e ∷ []))) other
    ∙ place_new (n + 1) last ds e up.1 lt ∙ ap (λ (k : ℕ). Some (record { place = k; files = files_of e })) (omega arith)

pub rows_free : (g last : ℕ) (sp : List Span) (all : List Entry) (t : ℕ) → AreUpTo last all → last < t → rows_of g sp last all t ≡ Free
rows_free g last sp all t up lt =
    let above : nat_lt last t ≡ true = grind (arith, nat_tests) in
    ap (row_at g sp (nat_lt last t)) (place_none 0 t last all up lt) ∙ ap (λ (b : Bool). cond b Free Past) above

-- a stamp that no entry has, below a last stamp that rose
further : (g last now s : ℕ) (sp : List Span) (o : Option Placement) (b i p : Option (List ℕ)) → last < now → Fits (row_at g sp (nat_lt last s) o) b i p → Fits (row_at g sp (nat_lt now s) o) b i p
further g last now s sp (Some q) b i p lt fits = fits
further g last now s sp None b i p lt fits =
    by_test (nat_lt now s) (λ z. Fits (cond z Free Past) b i p)
    (λ e. let was : nat_lt last s ≡ true = grind (arith, nat_tests) in subst (λ (z : Bool). Fits (cond z Free Past) b i p) was fits)
    (λ e. by_test (nat_lt last s) (λ z. Fits (cond z Free Past) b i p → i ≡ None) (λ k h. h.1) (λ k h. h) fits)

-- a pair that was published is one of the rows
pub rows_published : (g last : ℕ) (sp : List Span) (all : List Entry) (e : Entry) → AreUpTo last all → last < e.stamp → g ≤ length all → (c : Folder) → Has (set_row (rows_of g sp last all) e.stamp (Pair (files_of e))) c → Has (rows_of g sp e.stamp (all ++ e ∷ [])) c
rows_published g last sp all e up lt le c h s =
    by_test (nat_eq e.stamp s) (λ z. nat_eq e.stamp s ≡ z → Fits (rows_of g sp e.stamp (all ++ e ∷ []) s) (c (Block s)) (c (Index s)) (c (Parked s)))
    (λ k z. subst (λ (q : ℕ). Fits (rows_of g sp e.stamp (all ++ e ∷ []) q) (c (Block q)) (c (Index q)) (c (Parked q))) (is_same e.stamp s k)
    (subst (λ (o : Option Placement). Fits (row_at g sp (nat_lt e.stamp e.stamp) o) (c (Block e.stamp)) (c (Index e.stamp)) (c (Parked e.stamp))) (sym (place_new 0 last all e up lt))
    (let in_set : nat_le g (0 + length all) ≡ true = grind (arith, nat_tests) in
    subst (λ (z : Bool). Fits (cond z (Pair (files_of e)) (cond (covers sp (0 + length all)) (Held (files_of e)) Past)) (c (Block e.stamp)) (c (Index e.stamp)) (c (Parked e.stamp))) (sym in_set) (has_here (rows_of g sp last all) e.stamp (Pair (files_of e)) c h))))
    (λ k z. subst (λ (o : Option Placement). Fits (row_at g sp (nat_lt e.stamp s) o) (c (Block s)) (c (Index s)) (c (Parked s))) (sym (place_other 0 s all e k))
    (further g last e.stamp s sp (place_in 0 s all) (c (Block s)) (c (Index s)) (c (Parked s)) lt (has_other (rows_of g sp last all) e.stamp (Pair (files_of e)) c h s k)))
    refl

sure_at : (g : ℕ) (sp : List Span) (above : Bool) (o : Option Placement) → pair_after (row_at g sp above o) ≡ pair_before (row_at g sp above o)
sure_at g sp true None = refl
sure_at g sp false None = refl
sure_at g sp above (Some q) =
    by_test (nat_le g q.place) (λ z. pair_after (cond z (Pair q.files) (cond (covers sp q.place) (Held q.files) Past)) ≡ pair_before (cond z (Pair q.files) (cond (covers sp q.place) (Held q.files) Past)))
    (λ e. refl) (λ e. by_test (covers sp q.place) (λ z. pair_after (cond z (Held q.files) Past) ≡ pair_before (cond z (Held q.files) Past)) (λ k. refl) (λ k. refl))

pub rows_sure : (g last : ℕ) (sp : List Span) (all : List Entry) → AreSure (rows_of g sp last all)
rows_sure g last sp all s = sure_at g sp (nat_lt last s) (place_in 0 s all)

-- an entry that isn't in the set any more
none_gone : (b : Bool) (f : Files) → pair_before (cond b (Held f) Past) ≡ None
none_gone true f = refl
none_gone false f = refl

none_before : (above : Bool) → pair_before (cond above Free Past) ≡ None
none_before true = refl
none_before false = refl

-- all entries from a place on are in the set
all_in : (n g s : ℕ) (sp : List Span) (above : Bool) (all : List Entry) → g ≤ n → files_at s all ≡ pair_before (row_at g sp above (place_in n s all))
all_in n g s sp above [] le = sym (none_before above)
all_in n g s sp above (e ∷ es) le =
    let more = all_in (n + 1) g s sp above es (omega arith) in
    let in_set : nat_le g n ≡ true = grind (arith, nat_tests) in
    by_test (nat_eq e.stamp s) (λ z. cond z (Some (files_of e)) (files_at s es) ≡ pair_before (row_at g sp above (cond z (Some (record { place = n; files = files_of e })) (place_in (n + 1) s es))))
    (λ k. sym (ap (λ (z : Bool). pair_before (cond z (Pair (files_of e)) (cond (covers sp n) (Held (files_of e)) Past))) in_set)) (λ k. more)

pub below_drop : (s k : ℕ) (es : List Entry) → IsBelow s es → IsBelow s (drop k es)
below_drop s zero es h = h
below_drop s (suc k) [] h = h
below_drop s (suc k) (e ∷ es) h = below_drop s k es h.1

pub file_set_drop : (k : ℕ) (es : List Entry) → IsFileSet es → IsFileSet (drop k es)
file_set_drop zero es h = h
file_set_drop (suc k) [] h = h
file_set_drop (suc k) (e ∷ es) h = file_set_drop k es h.1

set_at : (n k g s : ℕ) (sp : List Span) (above : Bool) (all : List Entry) → g ≡ n + k → IsFileSet all → files_at s (drop k all) ≡ pair_before (row_at g sp above (place_in n s all))
set_at n zero g s sp above all is h = all_in n g s sp above all (omega arith)
set_at n (suc k) g s sp above [] is h = sym (none_before above)
set_at n (suc k) g s sp above (e ∷ es) is h =
    let more = set_at (n + 1) k g s sp above es (omega arith) h.1 in
    let out : nat_le g n ≡ false = grind (arith, nat_tests) in
    by_test (nat_eq e.stamp s) (λ z. files_at s (drop k es) ≡ pair_before (row_at g sp above (cond z (Some (record { place = n; files = files_of e })) (place_in (n + 1) s es))))
    (λ j. let same : e.stamp ≡ s = is_same e.stamp s j in
    none_at s (drop k es) (subst (λ (q : ℕ). IsBelow q (drop k es)) same (below_drop e.stamp k es h.0))
    ∙ sym (ap (λ (z : Bool). pair_before (cond z (Pair (files_of e)) (cond (covers sp n) (Held (files_of e)) Past))) out ∙ none_gone (covers sp n) (files_of e)))
    (λ j. more)

pub rows_set : (g last : ℕ) (sp : List Span) (all : List Entry) → IsFileSet all → IsSetOf (rows_of g sp last all) (drop g all)
rows_set g last sp all h = record { rises = file_set_drop g all h; each = λ s. set_at 0 g g s sp (nat_lt last s) all (omega arith) h }

below_more : (s last : ℕ) (es : List Entry) (e : Entry) → s ≤ last → last < e.stamp → IsBelow s es → IsBelow s (es ++ e ∷ [])
below_more s last [] e le lt h = (omega arith, tt)
below_more s last (d ∷ ds) e le lt h = (h.0, below_more s last ds e le lt h.1)

pub file_set_more : (last : ℕ) (es : List Entry) (e : Entry) → AreUpTo last es → last < e.stamp → IsFileSet es → IsFileSet (es ++ e ∷ [])
file_set_more last [] e up lt h = (tt, tt)
file_set_more last (d ∷ ds) e up lt h = (below_more d.stamp last ds e up.0 lt h.0, file_set_more last ds e up.1 lt h.1)

pub up_to_drop : (last k : ℕ) (es : List Entry) → AreUpTo last es → AreUpTo last (drop k es)
up_to_drop last zero es h = h
up_to_drop last (suc k) [] h = h
up_to_drop last (suc k) (e ∷ es) h = up_to_drop last k es h.1

pub up_to_more : (last now : ℕ) (es : List Entry) (e : Entry) → last ≤ now → e.stamp ≤ now → AreUpTo last es → AreUpTo now (es ++ e ∷ [])
up_to_more last now [] e le at h = (at, tt)
up_to_more last now (d ∷ ds) e le at h = let was : d.stamp ≤ last = h.0 in (omega arith, up_to_more last now ds e le at h.1)

pub drop_more : (k : ℕ) (es : List Entry) (e : Entry) → k ≤ length es → drop k (es ++ e ∷ []) ≡ drop k es ++ e ∷ []
drop_more zero es e le = refl
drop_more (suc k) [] e le = absurd (omega arith)
drop_more (suc k) (d ∷ ds) e le = drop_more k ds e (omega arith)
