-- A hold less, and files that nobody holds any more.
use Rattle.std.proofs.Common.{◌≡◌, ◌<◌, ◌≤◌, ◌+◌, ℕ, zero, suc, List, [], ◌∷◌, ◌++◌, length, drop, take, Option, Some, Bool, true, false, ◌&&◌, ◌||◌, cond, nat_eq, nat_lt, nat_le, Contains, refl, sym, ◌∙◌, ap, subst, ⊎_elim, arith, slice_index}
use Rattle.std.specs.List.{remove}
use Rattle.std.proofs.lemmas.List.{take-append-drop, append-nil}
use Rattle.std.proofs.lemmas.List.Elements.{Contains-append_left, Contains-append_right, Contains-append_cases}
use Rattle.std.proofs.lemmas.Bool.Decides.{nat_tests}
use Rattle.st_disk.specs.declared.naming.Name.TheVariants.{Block, Index, Parked}
use Rattle.st_disk.specs.declared.naming.Name.{Name}
use Rattle.st_disk.specs.Names.{number_of}
use Rattle.st_disk.specs.Folders.{Folder}
use Rattle.st_disk.proofs.Images.{leaves_now}
use Rattle.st_disk.specs.Disks.{Log, reads}
use Rattle.st_disk.specs.Events.{Event, events}
use Rattle.st_disk.specs.LoggedCalls.{KnownBefore}
use Rattle.st_disk.proofs.Runs.{ran_widen}
use Rattle.st_disk.specs.Pairs.{Entry, Files, files_of, IsFileSet}
use Rattle.st_spool.specs.Rows.{Row, Half, Coming, Pair, Going, Held, Past, Fits, Has, set_row, RanBy}
use Rattle.st_spool.specs.History.{entries_of}
use Rattle.st_spool.specs.States.{SpoolState, rows_by, rows_of, with_doubt, with_read, MayBe, AreUpTo, place_in, Placement, covers}
use Rattle.st_spool.specs.Standing.{StandsFor, Gives, in_doubt}
use Rattle.st_spool.specs.Holding.{IsWithout, IsOther, StayRead}
use Rattle.st_spool.specs.Publishing.{Keeps}
use Rattle.st_spool.specs.declared.state.Span.{Span}
use Rattle.st_spool.specs.declared.state.Doubt.{Doubt}
use Rattle.st_spool.specs.declared.state.Doubt.TheVariants as doubt
use Rattle.st_spool.proofs.Keeping.{by_test, is_same, set_has, has_here, has_other}
use Rattle.st_spool.proofs.Stages.{start}
use Rattle.st_spool.proofs.Aged.{split_at, at_place, rows_past, rows_released}
use Rattle.st_spool.proofs.Holds.{up_to_at}
use Rattle.st_spool.proofs.Published.{ran_each, ran_past}
use Rattle.st_spool.proofs.Giving.{gives}
use Rattle.st_spool.proofs.Doubted.{KeepsRead, still_read, is_read_of, read_rows_of}
use Rattle.st_spool.proofs.Recalled.{recalls_on}
use Rattle.st_spool.proofs.Kept.{doubt_shows}

set_less : (base more : ℕ → Row) (t : ℕ) (r : Row) → ((s : ℕ) (b i p : Option (List ℕ)) → Fits (base s) b i p → Fits (more s) b i p) → (c : Folder) → Has (set_row base t r) c → Has (set_row more t r) c
set_less base more t r less c h = set_has more t r c (λ s e. less s (c (Block s)) (c (Index s)) (c (Parked s)) (has_other base t r c h s e)) (has_here base t r c h)

-- fewer holds allow more
less_by : (d : Doubt) (k : Files) (base more : ℕ → Row) → ((s : ℕ) (b i p : Option (List ℕ)) → Fits (base s) b i p → Fits (more s) b i p) → (c : Folder) → Has (with_doubt d k base) c → Has (with_doubt d k more) c
less_by doubt.Nothing k base more less c h = λ s. less s (c (Block s)) (c (Index s)) (c (Parked s)) (h s)
less_by (doubt.Unsettled t) k base more less c h = set_less base more t (Half k) less c h
less_by (doubt.Settled t) k base more less c h = set_less base more t (Coming k) less c h
less_by (doubt.Unhidden t) k base more less c h = λ s. less s (c (Block s)) (c (Index s)) (c (Parked s)) (h s)
less_by (doubt.Hidden t) k base more less c h = set_less base more t (Going k) less c h

-- and so of what is read
less_read : (d : Doubt) (k : Files) (base more : ℕ → Row) → ((s : ℕ) (b i p : Option (List ℕ)) → Fits (base s) b i p → Fits (more s) b i p) → (c : Folder) → Has (with_read d k base) c → Has (with_read d k more) c
less_read doubt.Nothing k base more less c h = λ s. less s (c (Block s)) (c (Index s)) (c (Parked s)) (h s)
less_read (doubt.Unsettled t) k base more less c h = set_less base more t (Half k) less c h
less_read (doubt.Settled t) k base more less c h = set_less base more t (Pair k) less c h
less_read (doubt.Unhidden t) k base more less c h = λ s. less s (c (Block s)) (c (Index s)) (c (Parked s)) (h s)
less_read (doubt.Hidden t) k base more less c h = set_less base more t (Held k) less c h

other_row : (base : ℕ → Row) (t s : ℕ) (r : Row) → nat_eq t s ≡ false → set_row base t r s ≡ base s
other_row base t s r e = ap (λ (b : Bool). cond b r (base s)) e

-- an entry that was removed and that nobody holds is past, whatever is in doubt
module _ (g last n : ℕ) (sp : List Span) (all : List Entry) (k : Files) (e : Entry) (rest : List Entry) (is : drop n all ≡ e ∷ rest) (rises : IsFileSet all) (up : AreUpTo last all) (lt : n < g) (out : covers sp n ≡ false) where
  base_past : rows_of g sp last all e.stamp ≡ Past
  base_past = rows_past g last n sp all e rest is rises lt out

  other_above : (t : ℕ) → last < t → nat_eq t e.stamp ≡ false
  other_above t above = let le : e.stamp ≤ last = up_to_at n last all e rest is up in grind (arith, nat_tests)

  some_is : (x y : Placement) → ◌≡◌ {A = Option Placement} (Some x) (Some y) → x ≡ y
  some_is x y e = cc

  apart : (t : ℕ) → place_in 0 t all ≡ Some (record { place = g; files = k }) → nat_eq t e.stamp ≡ true → ⊥
  apart t may eq =
      let found = sym may ∙ ap (λ (s : ℕ). place_in 0 s all) (is_same t e.stamp eq) ∙ at_place 0 n all e rest is rises in
      let same : g ≡ 0 + n = ap (λ (q : Placement). q.place) (some_is (record { place = g; files = k }) (record { place = 0 + n; files = files_of e }) found) in
      omega arith

  past_by : (d : Doubt) → MayBe d k g last all → with_doubt d k (rows_of g sp last all) e.stamp ≡ Past
  past_by doubt.Nothing may = base_past
  past_by (doubt.Unsettled t) may = other_row (rows_of g sp last all) t e.stamp (Half k) (other_above t may) ∙ base_past
  past_by (doubt.Settled t) may = other_row (rows_of g sp last all) t e.stamp (Coming k) (other_above t may) ∙ base_past
  past_by (doubt.Unhidden t) may = base_past
  past_by (doubt.Hidden t) may = other_row (rows_of g sp last all) t e.stamp (Going k) (by_test (nat_eq t e.stamp) (λ z. z ≡ false) (λ yes. absurd (apart t may yes)) (λ no. refl)) ∙ base_past

-- places that are removed and that nobody holds are past
pub pasts : (W : List ℕ → List ℕ → Type 0) (known : Option Log) (st : SpoolState) (earlier h : List Event) (k : Files) (stamps : List ℕ) (holds : List Span) → StandsFor W known st earlier h k → stamps ≡ st.stamps → holds ≡ st.holds
    → (n : ℕ) → n < st.removed → covers holds n ≡ false → rows_by st k (entries_of h) (slice_index stamps n) ≡ Past
pasts W known st earlier h k stamps holds stands same_stamps same_holds n lt out =
    let r = split_at n (entries_of h) (let in_list : st.removed ≤ length (entries_of h) = stands.within in omega arith) in
    ap (rows_by st k (entries_of h)) (ap (λ (xs : List ℕ). slice_index xs n) (same_stamps ∙ sym stands.stamps) ∙ r.3)
    ∙ past_by st.removed st.last n st.holds (entries_of h) k r.0 r.1 r.2 stands.rises stands.last lt (ap (λ (sp : List Span). covers sp n) (sym same_holds) ∙ out) st.doubt stands.doubt

-- the files in doubt are none of removed pairs
abbrev pub SparesRest : Option Log → Option Log → ℕ → List ℕ → Type 0
SparesRest old new removed stamps = StayRead old new (λ n. (i : ℕ) → i < removed → IsOther (slice_index stamps i) n)

index_other : (t s : ℕ) → IsOther s (Index t)
index_other t s = (λ (e : ◌≡◌ {A = Name} (Index t) (Block s)). let no : ⊥ = cc in no, λ (e : ◌≡◌ {A = Name} (Index t) (Parked s)). let no : ⊥ = cc in no)

block_other : (t s : ℕ) → s < t → IsOther s (Block t)
block_other t s lt = (λ e. let same : t ≡ s = ap number_of e in absurd (omega arith), λ (e : ◌≡◌ {A = Name} (Block t) (Parked s)). let no : ⊥ = cc in no)

below_last : (W : List ℕ → List ℕ → Type 0) (known : Option Log) (st : SpoolState) (earlier h : List Event) (k : Files) (stamps : List ℕ) → StandsFor W known st earlier h k → stamps ≡ st.stamps → (i : ℕ) → i < st.removed → slice_index stamps i ≤ st.last
below_last W known st earlier h k stamps stands same i lt =
    let r = split_at i (entries_of h) (let in_list : st.removed ≤ length (entries_of h) = stands.within in omega arith) in
    let at : slice_index stamps i ≡ r.0.stamp = ap (λ (xs : List ℕ). slice_index xs i) (same ∙ sym stands.stamps) ∙ r.3 in
    let le : r.0.stamp ≤ st.last = up_to_at i st.last (entries_of h) r.0 r.1 r.2 stands.last in
    omega arith

pub swept_read : (W : List ℕ → List ℕ → Type 0) (old new : Option Log) (st : SpoolState) (earlier h : List Event) (k : Files) (stamps : List ℕ) → StandsFor W old st earlier h k → stamps ≡ st.stamps → SparesRest old new st.removed stamps → KeepsRead st.doubt old new
swept_read W old new st earlier h k stamps stands same spares = by_doubt st.doubt stands.doubt
  where
    by_doubt : (d : Doubt) → MayBe d k st.removed st.last (entries_of h) → KeepsRead d old new
    by_doubt doubt.Nothing may n v none read = absurd none
    by_doubt (doubt.Unsettled t) may n v none read = absurd none
    by_doubt (doubt.Settled t) may n v of read =
        ⊎_elim
        (λ (is : n ≡ Block t). spares n v (λ i lt. let le : slice_index stamps i ≤ st.last = below_last W old st earlier h k stamps stands same i lt in
        subst (IsOther (slice_index stamps i)) (sym is) (block_other t (slice_index stamps i) (let above : st.last < t = may in omega arith))) read)
        (λ (is : n ≡ Index t). spares n v (λ i lt. subst (IsOther (slice_index stamps i)) (sym is) (index_other t (slice_index stamps i))) read)
        of
    by_doubt (doubt.Unhidden t) may n v none read = absurd none
    by_doubt (doubt.Hidden t) may n v is read = spares n v (λ i lt. subst (IsOther (slice_index stamps i)) (sym is) (index_other t (slice_index stamps i))) read

-- files of such pairs were swept
pub swept_keeps : (W : List ℕ → List ℕ → Type 0) (old new : Option Log) (st : SpoolState) (earlier h : List Event) (k : Files) (stamps : List ℕ) (holds : List Span) (to : ℕ) → StandsFor W old st earlier h k → stamps ≡ st.stamps → holds ≡ st.holds → KnownBefore old new → SparesRest old new st.removed stamps
    → ((first : Log) (rows : ℕ → Row) → ((n : ℕ) → n < st.removed → covers holds n ≡ false → rows (slice_index stamps n) ≡ Past) → RanBy first old [] rows rows → RanBy first new [] rows rows)
    → Keeps W old new (record st { swept = to }) earlier h k
swept_keeps W old new st earlier h k stamps holds to stands same_stamps same_holds before spares swept =
    let rows = rows_by st k (entries_of h) in
    let ran : (first : Log) → old ≡ Some first → RanBy first new [] (rows_by st k (entries_of h)) (rows_by st k (entries_of h)) = λ first known. swept first rows (pasts W old st earlier h k stamps holds stands same_stamps same_holds) (start first rows old known (stands.disk first known).images) in
    record {
      known = before;
      stands = record {
        legal = stands.legal;
        more = stands.more;
        found = stands.found;
        counts = stands.counts;
        stamps = stands.stamps;
        set = stands.set;
        within = stands.within;
        rises = stands.rises;
        last = stands.last;
        holds = stands.holds;
        asked = stands.asked;
        no_doubt = stands.no_doubt;
        doubt = stands.doubt;
        disk = λ m now.
            let was = before m now in
            let images_now = ran_each was.0 new [] (Has rows) (Has rows) (ran was.0 was.1) m now in
            let past_now = ran_past was.0 new [] (Has rows) (Has rows) (ran was.0 was.1) m now ∙ append-nil (events was.0) ∙ (stands.disk was.0 was.1).past in
            record {
              images = images_now;
              past = past_now;
              whole = (stands.disk was.0 was.1).whole;
              recalls = recalls_on W old new st earlier h k stands (record st { swept = to }) h k was.0 m [] (Has rows) (Has rows) was.1 now (ran was.0 was.1) refl refl stands.legal past_now stands.counts (doubt_shows W old st earlier h k stands);
              read = read_rows_of st.doubt k (rows_of st.removed st.holds st.last (entries_of h)) (reads m) (images_now (reads m) (leaves_now m))
                  (still_read st.doubt k old new was.0 m was.1 now (swept_read W old new st earlier h k stamps stands same_stamps spares) (is_read_of st.doubt k (rows_of st.removed st.holds st.last (entries_of h)) (reads was.0) (stands.disk was.0 was.1).read));
            };
      };
      images = λ first known. ran_widen first new [] (Has rows) (Has rows) (Gives h (in_doubt st.doubt k)) (Gives h (in_doubt st.doubt k)) (gives W old st earlier h k stands) (gives W old st earlier h k stands) (ran first known);
    }

covers_removed : (sp : List Span) (i n : ℕ) → covers (take i sp ++ drop (suc i) sp) n ≡ true → covers sp n ≡ true
covers_removed [] zero n h = h
covers_removed [] (suc i) n h = h
covers_removed (x ∷ xs) zero n h = right (nat_le x.from n && nat_lt n x.to) (covers xs n) h
  where
    right : (b c : Bool) → c ≡ true → (b || c) ≡ true
    right true c e = refl
    right false c e = e
covers_removed (x ∷ xs) (suc i) n h = both_of (nat_le x.from n && nat_lt n x.to) (covers (take i xs ++ drop (suc i) xs) n) (covers xs n) (covers_removed xs i n) h
  where
    both_of : (b c d : Bool) → (c ≡ true → d ≡ true) → (b || c) ≡ true → (b || d) ≡ true
    both_of true c d f e = refl
    both_of false c d f e = f e

pub less_removed : (sp tp : List Span) (i n : ℕ) → tp ≡ remove sp i → covers tp n ≡ true → covers sp n ≡ true
less_removed sp tp i n e h = covers_removed sp i n (subst (λ (xs : List Span). covers xs n ≡ true) e h)

pub fewer_removed : (sp tp : List Span) (i : ℕ) (k : Span) → tp ≡ remove sp i → Contains tp k → Contains sp k
fewer_removed sp tp i k e h =
    ⊎_elim
    (λ (was : Contains (take i sp) k). subst (λ (xs : List Span). Contains xs k) (take-append-drop i sp) (Contains-append_left (take i sp) (drop i sp) k was))
    (λ (was : Contains (drop (suc i) sp) k). subst (λ (xs : List Span). Contains xs k) (take-append-drop (suc i) sp) (Contains-append_right (take (suc i) sp) (drop (suc i) sp) k was))
    (Contains-append_cases (take i sp) (drop (suc i) sp) k (subst (λ (xs : List Span). Contains xs k) e h))

-- a hold less
pub fewer_stands : (W : List ℕ → List ℕ → Type 0) (known : Option Log) (st : SpoolState) (earlier h : List Event) (k : Files) (hold : Span) (holds : List Span) → StandsFor W known st earlier h k → IsWithout hold st.holds holds → StandsFor W known (record st { holds = holds }) earlier h k
fewer_stands W known st earlier h k hold holds stands out = record {
  legal = stands.legal;
  more = stands.more;
  found = stands.found;
  counts = stands.counts;
  stamps = stands.stamps;
  set = stands.set;
  within = stands.within;
  rises = stands.rises;
  last = stands.last;
  asked = stands.asked;
  no_doubt = stands.no_doubt;
  doubt = stands.doubt;
  holds = λ q has. stands.holds q (fewer_removed st.holds holds out.0 q out.3 has);
  disk = λ log now.
      let disk = stands.disk log now in
      record {
        images = λ c left. less_by st.doubt k (rows_of st.removed st.holds st.last (entries_of h)) (rows_of st.removed holds st.last (entries_of h)) (rows_released st.removed st.last st.holds holds (entries_of h) (λ n. less_removed st.holds holds out.0 n out.3)) c (disk.images c left);
        past = disk.past;
        whole = disk.whole;
        recalls = disk.recalls;
        read = less_read st.doubt k (rows_of st.removed st.holds st.last (entries_of h)) (rows_of st.removed holds st.last (entries_of h)) (rows_released st.removed st.last st.holds holds (entries_of h) (λ n. less_removed st.holds holds out.0 n out.3)) (reads log) disk.read;
      };
}

-- so a release
pub released : (W : List ℕ → List ℕ → Type 0) (old new : Option Log) (st : SpoolState) (earlier h : List Event) (k : Files) (hold : Span) (holds : List Span) (stamps : List ℕ) (swept_holds : List Span) (to : ℕ) → IsWithout hold st.holds holds → stamps ≡ st.stamps → swept_holds ≡ holds → KnownBefore old new → SparesRest old new st.removed stamps
    → ((first : Log) (rows : ℕ → Row) → ((n : ℕ) → n < st.removed → covers swept_holds n ≡ false → rows (slice_index stamps n) ≡ Past) → RanBy first old [] rows rows → RanBy first new [] rows rows)
    → StandsFor W old st earlier h k → Keeps W old new (record st { holds = holds; swept = to }) earlier h k
released W old new st earlier h k hold holds stamps swept_holds to out same_stamps same_holds before spares swept stands =
    swept_keeps W old new (record st { holds = holds }) earlier h k stamps swept_holds to (fewer_stands W old st earlier h k hold holds stands out) same_stamps same_holds before spares swept
