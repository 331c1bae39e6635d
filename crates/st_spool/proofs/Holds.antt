-- Holds: the rows under them, and the bytes that they keep.
use Rattle.std.proofs.Common.{◌≡◌, ◌<◌, ◌≤◌, ◌+◌, ◌-◌, ℕ, zero, suc, List, [], ◌∷◌, ◌++◌, length, get_or, drop, take, Option, None, Some, IsSome, Bool, true, false, ◌&&◌, ◌||◌, cond, nat_eq, nat_lt, nat_le, Contains, refl, sym, ◌∙◌, ap, subst, ⊎_elim, arith, length-drop}
use Rattle.std.proofs.lemmas.Bool.Decides.{nat_tests}
use Rattle.std.proofs.lemmas.List.Elements.{Contains-push_cases, at_from_Contains}
use Rattle.std.proofs.lemmas.List.Folds.{list_any-append, list_any_at}
use Rattle.std.proofs.lemmas.List.{drop-drop, take-append-le, length-map}
use Rattle.st_disk.specs.declared.naming.Name.TheVariants.{Block, Index, Parked}
use Rattle.st_disk.specs.declared.naming.Name.{Name}
use Rattle.st_disk.specs.LoggedCalls.{Shows}
use Rattle.st_disk.specs.Folders.{Folder}
use Rattle.st_disk.specs.Disks.{Log, reads}
use Rattle.st_disk.specs.Events.{Event, Publish, Remove}
use Rattle.st_disk.specs.Runs.{Each}
use Rattle.st_disk.specs.Pairs.{Entry, Files, files_of, IsFileSet}
use Rattle.st_disk.proofs.Images.{leaves_now}
use Rattle.st_spool.specs.Rows.{Row, Half, Coming, Pair, Going, Held, Past, Fits, Has}
use Rattle.st_spool.specs.History.{set_of, entries_of}
use Rattle.st_spool.specs.States.{SpoolState, SpoolView, rows_of, row_at, with_doubt, with_read, MayBe, AreUpTo, IsWithin, AreWithin, place_in, Placement, covers, held}
use Rattle.st_spool.specs.Standing.{StandsFor, stamp_of}
use Rattle.st_spool.specs.Holding.{is_parked, index_name}
use Rattle.st_spool.specs.declared.state.Span.{Span}
use Rattle.st_spool.specs.declared.state.Doubt.{Doubt}
use Rattle.st_spool.specs.declared.state.Doubt.TheVariants as doubt
use Rattle.st_spool.proofs.Keeping.{by_test, is_same, has_here, has_other}
use Rattle.st_spool.proofs.Aged.{at_place, split_at, one_stamp}
use Rattle.st_spool.proofs.Doubted.{IsRead, is_read_of}
use Rattle.st_spool.proofs.Histories.{entries_more}
use Rattle.st_spool.proofs.Places.{drop_more}

-- a hold of the whole set changes no row
span_at : ℕ → ℕ → Span
span_at from to = record { from = from; to = to }

covers_more : (sp : List Span) (h : Span) (n : ℕ) → n < h.from → covers (sp ++ h ∷ []) n ≡ covers sp n
covers_more sp h n lt =
    let out : nat_le h.from n ≡ false = grind (arith, nat_tests) in
    list_any-append (λ (k : Span). nat_le k.from n && nat_lt n k.to) sp (h ∷ []) ∙ ap (λ (b : Bool). covers sp n || ((b && nat_lt n h.to) || false)) out ∙ or_false (covers sp n)
  where
    or_false : (b : Bool) → (b || false) ≡ b
    or_false true = refl
    or_false false = refl

held_at : (g : ℕ) (sp : List Span) (h : Span) (above : Bool) (o : Option Placement) → h.from ≡ g → row_at g (sp ++ h ∷ []) above o ≡ row_at g sp above o
held_at g sp h above None from = refl
held_at g sp h above (Some q) from =
    by_test (nat_le g q.place) (λ z. cond z (Pair q.files) (cond (covers (sp ++ h ∷ []) q.place) (Held q.files) Past) ≡ cond z (Pair q.files) (cond (covers sp q.place) (Held q.files) Past))
    (λ k. refl) (λ k. let lt : q.place < g = grind (arith, nat_tests) in ap (λ (b : Bool). cond b (Held q.files) Past) (covers_more sp h q.place (omega arith)))

pub rows_held : (g last : ℕ) (sp : List Span) (h : Span) (all : List Entry) → h.from ≡ g → rows_of g (sp ++ h ∷ []) last all ≡ rows_of g sp last all
rows_held g last sp h all from i s = held_at g sp h (nat_lt last s) (place_in 0 s all) from i

take_whole : (n : ℕ) (es : List Entry) → n ≡ length es → take n es ≡ es
take_whole zero [] e = refl
take_whole zero (x ∷ xs) e = absurd (omega arith)
take_whole (suc n) [] e = refl
take_whole (suc n) (x ∷ xs) e = ap (λ (ys : List Entry). x ∷ ys) (take_whole n xs (omega arith))

-- the hold of all pairs that are published has the set
pub held_all : (W : List ℕ → List ℕ → Type 0) (known : Option Log) (st : SpoolState) (earlier h : List Event) (k : Files) (to : ℕ) → StandsFor W known st earlier h k → to ≡ length (entries_of h) → held (record { from = st.removed; to = to }) h ≡ set_of h
held_all W known st earlier h k to stands is =
    take_whole (to - st.removed) (drop st.removed (entries_of h)) (let z : length (drop st.removed (entries_of h)) ≡ length (entries_of h) - st.removed = length-drop st.removed (entries_of h) in omega arith) ∙ sym stands.set

-- one hold more
pub hold_stands : (W : List ℕ → List ℕ → Type 0) (known : Option Log) (st : SpoolState) (earlier h : List Event) (k : Files) (holds : List Span) (to asks : ℕ) → StandsFor W known st earlier h k → to ≡ length (entries_of h) → holds ≡ st.holds ++ (record { from = st.removed; to = to }) ∷ []
    → StandsFor W known (record st { holds = holds; asks = asks; asked = record { from = st.removed; to = to } }) earlier h k
hold_stands W known st earlier h k holds to asks stands is pushed = record {
  legal = stands.legal;
  more = stands.more;
  found = stands.found;
  counts = stands.counts;
  stamps = stands.stamps;
  set = stands.set;
  within = stands.within;
  rises = stands.rises;
  last = stands.last;
  no_doubt = stands.no_doubt;
  doubt = stands.doubt;
  holds = subst (λ (sp : List Span). AreWithin (length (entries_of h)) sp) (sym pushed)
      (λ q has. ⊎_elim (λ was. stands.holds q was) (λ (e : record { from = st.removed; to = to } ≡ q). subst (IsWithin (length (entries_of h))) e (let in_list : st.removed ≤ length (entries_of h) = stands.within in (omega arith, omega arith)))
      (Contains-push_cases st.holds (record { from = st.removed; to = to }) q has));
  asked = let in_list : st.removed ≤ length (entries_of h) = stands.within in (omega arith, omega arith);
  disk = λ log now.
      let disk = stands.disk log now in
      record {
        images = subst (λ (rows : ℕ → Row). Each log (Has (with_doubt st.doubt k rows)))
            (sym (ap (λ (sp : List Span). rows_of st.removed sp st.last (entries_of h)) pushed ∙ rows_held st.removed st.last st.holds (record { from = st.removed; to = to }) (entries_of h) refl)) disk.images;
        past = disk.past;
        whole = disk.whole;
        recalls = disk.recalls;
        read = subst (λ (rows : ℕ → Row). Has (with_read st.doubt k rows) (reads log))
            (sym (ap (λ (sp : List Span). rows_of st.removed sp st.last (entries_of h)) pushed ∙ rows_held st.removed st.last st.holds (record { from = st.removed; to = to }) (entries_of h) refl)) disk.read;
      };
}

pub up_to_at : (k last : ℕ) (all : List Entry) (e : Entry) (rest : List Entry) → drop k all ≡ e ∷ rest → AreUpTo last all → e.stamp ≤ last
up_to_at zero last [] e rest is up = cc
up_to_at zero last (x ∷ xs) e rest is up = let same : x ≡ e = cc in subst (λ (y : Entry). y.stamp ≤ last) same up.0
up_to_at (suc k) last [] e rest is up = cc
up_to_at (suc k) last (x ∷ xs) e rest is up = up_to_at k last xs e rest is up.1

covers_here : (sp : List Span) (h : Span) (n : ℕ) → Contains sp h → h.from ≤ n → n < h.to → covers sp n ≡ true
covers_here sp h n has from to =
    let r = at_from_Contains sp h has in
    let low : nat_le h.from n ≡ true = grind (arith, nat_tests) in
    let high : nat_lt n h.to ≡ true = grind (arith, nat_tests) in
    list_any_at (λ (k : Span). nat_le k.from n && nat_lt n k.to) sp r.0 h r.1 (ap (λ (k : Span). nat_le k.from n && nat_lt n k.to) (r.2 h) ∙ ap (λ (b : Bool). b && nat_lt n h.to) low ∙ high)

-- a held entry's block is there, whether it is in the set or not
block_at : (g : ℕ) (sp : List Span) (above : Bool) (q : Placement) (b i p : Option (List ℕ)) → (q.place < g → covers sp q.place ≡ true) → Fits (row_at g sp above (Some q)) b i p → b ≡ Some q.files.block
block_at g sp above q b i p kept fits =
    by_test (nat_le g q.place) (λ z. Fits (cond z (Pair q.files) (cond (covers sp q.place) (Held q.files) Past)) b i p → b ≡ Some q.files.block)
    (λ k f. f.0)
    (λ k f. let lt : q.place < g = grind (arith, nat_tests) in (subst (λ (z : Bool). Fits (cond z (Held q.files) Past) b i p) (kept lt) f).0) fits

-- its index is there, and parked where the entry is not in the set
abbrev IndexBy : Bool → Files → Option (List ℕ) → Option (List ℕ) → Type 0
IndexBy true f i p = p ≡ Some f.index
IndexBy false f i p = i ≡ Some f.index

index_at : (g : ℕ) (sp : List Span) (above : Bool) (q : Placement) (b i p : Option (List ℕ)) → (q.place < g → covers sp q.place ≡ true) → Fits (row_at g sp above (Some q)) b i p → IndexBy (nat_lt q.place g) q.files i p
index_at g sp above q b i p kept fits =
    by_test (nat_le g q.place) (λ z. Fits (cond z (Pair q.files) (cond (covers sp q.place) (Held q.files) Past)) b i p → IndexBy (nat_lt q.place g) q.files i p)
    (λ k f. let no : nat_lt q.place g ≡ false = grind (arith, nat_tests) in subst (λ (z : Bool). IndexBy z q.files i p) (sym no) f.1)
    (λ k f. let lt : q.place < g = grind (arith, nat_tests) in let yes : nat_lt q.place g ≡ true = grind (arith, nat_tests) in
    subst (λ (z : Bool). IndexBy z q.files i p) (sym yes) (subst (λ (z : Bool). Fits (cond z (Held q.files) Past) b i p) (kept lt) f).2) fits

some_is : (x y : Placement) → ◌≡◌ {A = Option Placement} (Some x) (Some y) → x ≡ y
some_is x y e = cc

not_there : (x : List ℕ) → ◌≡◌ {A = Option (List ℕ)} (Some x) None → ⊥
not_there x e = cc

or_false : (b c : Bool) → c ≡ false → (b || c) ≡ b
or_false true c e = refl
or_false false c e = e

or_true : (b c : Bool) → c ≡ true → (b || c) ≡ true
or_true true c e = refl
or_true false c e = e

module _ (g last n : ℕ) (sp : List Span) (all : List Entry) (e : Entry) (rest : List Entry) (k : Files) (c : Folder) (is : drop n all ≡ e ∷ rest) (rises : IsFileSet all) (up : AreUpTo last all) (kept : n < g → covers sp n ≡ true) where
  zero_first : 0 + n ≡ n
  zero_first = omega arith

  placed : Fits (rows_of g sp last all e.stamp) (c (Block e.stamp)) (c (Index e.stamp)) (c (Parked e.stamp)) → Fits (row_at g sp (nat_lt last e.stamp) (Some (record { place = 0 + n; files = files_of e }))) (c (Block e.stamp)) (c (Index e.stamp)) (c (Parked e.stamp))
  placed fits = subst (λ (o : Option Placement). Fits (row_at g sp (nat_lt last e.stamp) o) (c (Block e.stamp)) (c (Index e.stamp)) (c (Parked e.stamp))) (at_place 0 n all e rest is rises) fits

  base_block : Fits (rows_of g sp last all e.stamp) (c (Block e.stamp)) (c (Index e.stamp)) (c (Parked e.stamp)) → c (Block e.stamp) ≡ Some e.block
  base_block fits = block_at g sp (nat_lt last e.stamp) (record { place = 0 + n; files = files_of e }) (c (Block e.stamp)) (c (Index e.stamp)) (c (Parked e.stamp)) (λ lt. ap (covers sp) zero_first ∙ kept (omega arith)) (placed fits)

  base_index : Fits (rows_of g sp last all e.stamp) (c (Block e.stamp)) (c (Index e.stamp)) (c (Parked e.stamp)) → IndexBy (nat_lt n g) (files_of e) (c (Index e.stamp)) (c (Parked e.stamp))
  base_index fits =
      subst (λ (m : ℕ). IndexBy (nat_lt m g) (files_of e) (c (Index e.stamp)) (c (Parked e.stamp))) zero_first
      (index_at g sp (nat_lt last e.stamp) (record { place = 0 + n; files = files_of e }) (c (Block e.stamp)) (c (Index e.stamp)) (c (Parked e.stamp)) (λ lt. ap (covers sp) zero_first ∙ kept (omega arith)) (placed fits))

  other_above : (t : ℕ) → last < t → nat_eq t e.stamp ≡ false
  other_above t lt = let le : e.stamp ≤ last = up_to_at n last all e rest is up in grind (arith, nat_tests)

  -- a removal in doubt is of the entry at the first place
  same_files : (t : ℕ) → place_in 0 t all ≡ Some (record { place = g; files = k }) → t ≡ e.stamp → (g ≡ n) × (k ≡ files_of e)
  same_files t may same =
      let found = some_is (record { place = g; files = k }) (record { place = 0 + n; files = files_of e }) (sym may ∙ ap (λ (s : ℕ). place_in 0 s all) same ∙ at_place 0 n all e rest is rises) in
      (ap (λ (q : Placement). q.place) found ∙ zero_first, ap (λ (q : Placement). q.files) found)

  other_place : (t : ℕ) → place_in 0 t all ≡ Some (record { place = g; files = k }) → nat_eq t e.stamp ≡ false → nat_eq n g ≡ false
  other_place t may other =
      by_test (nat_eq n g) (λ b. b ≡ false) (λ yes. let eq : n ≡ g = is_same n g yes in
      let same : t ≡ e.stamp = one_stamp 0 t e.stamp all (record { place = g; files = k }) (record { place = 0 + n; files = files_of e }) may (at_place 0 n all e rest is rises) (sym eq ∙ sym zero_first) in
      let here : nat_eq t e.stamp ≡ true = grind (arith, nat_tests) in absurd (cc)) (λ no. refl)

  block_by : (d : Doubt) → MayBe d k g last all → Has (with_doubt d k (rows_of g sp last all)) c → c (Block e.stamp) ≡ Some e.block
  block_by doubt.Nothing may has = base_block (has e.stamp)
  block_by (doubt.Unsettled t) may has = base_block (has_other (rows_of g sp last all) t (Half k) c has e.stamp (other_above t may))
  block_by (doubt.Settled t) may has = base_block (has_other (rows_of g sp last all) t (Coming k) c has e.stamp (other_above t may))
  block_by (doubt.Unhidden t) may has = base_block (has e.stamp)
  block_by (doubt.Hidden t) may has =
      by_test (nat_eq t e.stamp) (λ z. nat_eq t e.stamp ≡ z → c (Block e.stamp) ≡ Some e.block)
      (λ yes z. let same : t ≡ e.stamp = is_same t e.stamp yes in
      subst (λ (s : ℕ). c (Block s) ≡ Some e.block) same ((has_here (rows_of g sp last all) t (Going k) c has).0 ∙ ap (λ (f : Files). Some f.block) (same_files t may same).1))
      (λ no z. base_block (has_other (rows_of g sp last all) t (Going k) c has e.stamp no)) refl

  index_by : (d : Doubt) → MayBe d k g last all → Has (with_doubt d k (rows_of g sp last all)) c → IsRead d k c → IndexBy (is_parked d g n) (files_of e) (c (Index e.stamp)) (c (Parked e.stamp))
  index_by doubt.Nothing may has hidden = base_index (has e.stamp)
  index_by (doubt.Unsettled t) may has hidden = base_index (has_other (rows_of g sp last all) t (Half k) c has e.stamp (other_above t may))
  index_by (doubt.Settled t) may has hidden = base_index (has_other (rows_of g sp last all) t (Coming k) c has e.stamp (other_above t may))
  index_by (doubt.Unhidden t) may has hidden = base_index (has e.stamp)
  index_by (doubt.Hidden t) may has hidden =
      by_test (nat_eq t e.stamp) (λ z. nat_eq t e.stamp ≡ z → IndexBy (nat_lt n g || nat_eq n g) (files_of e) (c (Index e.stamp)) (c (Parked e.stamp)))
      (λ yes z. let same : t ≡ e.stamp = is_same t e.stamp yes in
      let at = same_files t may same in
      let here = has_here (rows_of g sp last all) t (Going k) c has in
      let parked : c (Parked t) ≡ Some k.index = ⊎_elim (λ (q : (c (Index t) ≡ Some k.index) × (c (Parked t) ≡ None)). absurd (not_there k.index (sym q.0 ∙ hidden))) (λ (q : (c (Index t) ≡ None) × (c (Parked t) ≡ Some k.index)). q.1) here.1 in
      let eq : nat_eq n g ≡ true = (let m : g ≡ n = at.0 in grind (arith, nat_tests)) in
      subst (λ (b : Bool). IndexBy b (files_of e) (c (Index e.stamp)) (c (Parked e.stamp))) (sym (or_true (nat_lt n g) (nat_eq n g) eq))
      (subst (λ (s : ℕ). c (Parked s) ≡ Some e.index) same (parked ∙ ap (λ (f : Files). Some f.index) at.1)))
      (λ no z. subst (λ (b : Bool). IndexBy b (files_of e) (c (Index e.stamp)) (c (Parked e.stamp))) (sym (or_false (nat_lt n g) (nat_eq n g) (other_place t may no)))
      (base_index (has_other (rows_of g sp last all) t (Going k) c has e.stamp no))) refl

index_read : (b : Bool) (f : Files) (c : Folder) (s : ℕ) → IndexBy b f (c (Index s)) (c (Parked s)) → c (index_name b s) ≡ Some f.index
index_read true f c s h = h
index_read false f c s h = h

module _ (W : List ℕ → List ℕ → Type 0) (known : Option Log) (st : SpoolState) (earlier h : List Event) (k : Files) (span : Span) (i : ℕ) (stands : StandsFor W known st earlier h k) (has : Contains st.holds span) (lt : i < span.to - span.from) where
  -- the entry that a hold has at a place
  pub in_list : span.from + i < length (entries_of h)
  in_list = let to : span.to ≤ length (entries_of h) = (stands.holds span has).1 in omega arith

  pub in_stamps : span.from + i < length st.stamps
  in_stamps = let long : length (entries_of h) ≡ length st.stamps = sym (length-map (entries_of h) stamp_of) ∙ ap length stands.stamps in let lt_all = in_list in omega arith

  module _ (e : Entry) (rest : List Entry) (is : drop (span.from + i) (entries_of h) ≡ e ∷ rest) (log : Log) (now : known ≡ Some log) where
    covered : span.from + i < st.removed → covers st.holds (span.from + i) ≡ true
    covered gone = covers_here st.holds span (span.from + i) has (omega arith) (omega arith)

    pub held_block : reads log (Block e.stamp) ≡ Some e.block
    held_block = block_by st.removed st.last (span.from + i) st.holds (entries_of h) e rest k (reads log) is stands.rises stands.last covered st.doubt stands.doubt ((stands.disk log now).images (reads log) (leaves_now log))

    pub held_index : reads log (index_name (is_parked st.doubt st.removed (span.from + i)) e.stamp) ≡ Some e.index
    held_index = index_read (is_parked st.doubt st.removed (span.from + i)) (files_of e) (reads log) e.stamp
        (index_by st.removed st.last (span.from + i) st.holds (entries_of h) e rest k (reads log) is stands.rises stands.last covered st.doubt stands.doubt ((stands.disk log now).images (reads log) (leaves_now log)) (is_read_of st.doubt k (rows_of st.removed st.holds st.last (entries_of h)) (reads log) (stands.disk log now).read))

-- an entry of the hold is one of the list
pub taken_at : (i m : ℕ) (xs : List Entry) (e : Entry) (rest : List Entry) → drop i (take m xs) ≡ e ∷ rest → (more : List Entry) × (drop i xs ≡ e ∷ more)
taken_at zero zero [] e rest is = absurd (cc)
taken_at zero zero (x ∷ xs) e rest is = absurd (cc)
taken_at zero (suc m) [] e rest is = absurd (cc)
taken_at zero (suc m) (x ∷ xs) e rest is = let same : x ≡ e = cc in (xs, ap (λ (y : Entry). y ∷ xs) same)
taken_at (suc i) zero [] e rest is = absurd (cc)
taken_at (suc i) zero (x ∷ xs) e rest is = absurd (cc)
taken_at (suc i) (suc m) [] e rest is = absurd (cc)
taken_at (suc i) (suc m) (x ∷ xs) e rest is = taken_at i m xs e rest is

-- what a hold has stays the same as the history goes on
pub held_published : (span : Span) (h : List Event) (e : Entry) → IsWithin (length (entries_of h)) span → held span (h ++ Publish e ∷ []) ≡ held span h
held_published span h e within =
    let le : span.from ≤ span.to = within.0 in
    let to : span.to ≤ length (entries_of h) = within.1 in
    let room : length (drop span.from (entries_of h)) ≡ length (entries_of h) - span.from = length-drop span.from (entries_of h) in
    ap (λ (es : List Entry). take (span.to - span.from) (drop span.from es)) (entries_more [] h (Publish e))
    ∙ ap (take (span.to - span.from)) (drop_more span.from (entries_of h) e (omega arith))
    ∙ take-append-le (span.to - span.from) (drop span.from (entries_of h)) (e ∷ []) (omega arith)

pub held_removed : (span : Span) (h : List Event) (s : ℕ) → held span (h ++ Remove s ∷ []) ≡ held span h
held_removed span h s = ap (λ (es : List Entry). take (span.to - span.from) (drop span.from es)) (entries_more [] h (Remove s))

-- what is required of a hold, of the spool and the hold that were opened
pub held_here : {D : Type 0} (seen old : SpoolView D) (a b : Span) → seen ≡ old → a ≡ b → Contains old.state.holds b → Contains seen.state.holds a
held_here {D} seen old a b same is has = subst (λ (s : Span). Contains seen.state.holds s) (sym is) (subst (λ (s : SpoolView D). Contains s.state.holds b) (sym same) has)

pub size_here : (a b : Span) (i : ℕ) → a ≡ b → i < b.to - b.from → i < a.to - a.from
size_here a b i is lt = subst (λ (s : Span). i < s.to - s.from) (sym is) lt

length_taken : (n : ℕ) (es : List Entry) → n ≤ length es → length (take n es) ≡ n
length_taken zero es le = refl
length_taken (suc n) [] le = absurd (omega arith)
length_taken (suc n) (e ∷ es) le = let more = length_taken n es (omega arith) in omega arith

pub length_held : (span : Span) (h : List Event) → IsWithin (length (entries_of h)) span → span.to - span.from ≡ length (held span h)
length_held span h within =
    let le : span.from ≤ span.to = within.0 in
    let to : span.to ≤ length (entries_of h) = within.1 in
    let room : length (drop span.from (entries_of h)) ≡ length (entries_of h) - span.from = length-drop span.from (entries_of h) in
    sym (length_taken (span.to - span.from) (drop span.from (entries_of h)) (omega arith))

some_first : (a b : List Entry) (d e : Entry) → ◌≡◌ {A = List Entry} (d ∷ a) (e ∷ b) → d ≡ e
some_first a b d e h = cc

-- the entry that a hold has at a place, in the list of all
pub held_entry : (span : Span) (h : List Event) (i : ℕ) (e : Entry) (after : List Entry) → drop i (held span h) ≡ e ∷ after → (rest : List Entry) × (drop (span.from + i) (entries_of h) ≡ e ∷ rest)
held_entry span h i e after at =
    let taken = taken_at i (span.to - span.from) (drop span.from (entries_of h)) e after at in
    (taken.0, sym (drop-drop i span.from (entries_of h)) ∙ taken.1)

pub stamp_at : (W : List ℕ → List ℕ → Type 0) (known : Option Log) (st : SpoolState) (earlier h : List Event) (k : Files) (n stamp : ℕ) (e : Entry) (rest : List Entry) → StandsFor W known st earlier h k → n < length (entries_of h) → drop n (entries_of h) ≡ e ∷ rest → stamp ≡ get_or st.stamps n 0 → stamp ≡ e.stamp
stamp_at W known st earlier h k n stamp e rest stands lt is at =
    let r = split_at n (entries_of h) lt in
    at ∙ ap (λ (xs : List ℕ). get_or xs n 0) (sym stands.stamps) ∙ r.3 ∙ ap stamp_of (some_first r.1 rest r.0 e (sym r.2 ∙ is))

-- some entry is there
pub entry_at : (W : List ℕ → List ℕ → Type 0) (known : Option Log) (st : SpoolState) (earlier h : List Event) (k : Files) (n stamp : ℕ) → StandsFor W known st earlier h k → n < length (entries_of h) → stamp ≡ get_or st.stamps n 0 → (e : Entry) × (rest : List Entry) × (drop n (entries_of h) ≡ e ∷ rest) × (stamp ≡ e.stamp)
entry_at W known st earlier h k n stamp stands lt at =
    let r = split_at n (entries_of h) lt in (r.0, r.1, r.2, stamp_at W known st earlier h k n stamp r.0 r.1 stands lt r.2 at)

pub is_there : (o : Option (List ℕ)) (x : List ℕ) → o ≡ Some x → IsSome o
is_there o x e = subst (λ (v : Option (List ℕ)). IsSome v) (sym e) refl

pub long_list : (W : List ℕ → List ℕ → Type 0) (known : Option Log) (st : SpoolState) (earlier h : List Event) (k : Files) (n : ℕ) → StandsFor W known st earlier h k → n ≡ length st.stamps → n ≡ length (entries_of h)
long_list W known st earlier h k n stands is = is ∙ ap length (sym stands.stamps) ∙ length-map (entries_of h) stamp_of

-- a file that is lent under the name of an index shows it
pub shown : (b : Bool) (s : ℕ) (name : Name) (content : Option (List ℕ)) (f : Folder) → name ≡ index_name b s → Shows name content (f name) → content ≡ f (index_name b s)
shown true s name content f is shows = subst (λ (n : Name). Shows n content (f n)) is shows
shown false s name content f is shows = subst (λ (n : Name). Shows n content (f n)) is shows
