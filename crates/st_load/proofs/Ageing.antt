-- Removals, one after the other.
use Rattle.std.specs.Prelude.{slice_index, Bool, true, false, ◌↔◌}
use Rattle.std.proofs.lemmas.Bool.{cases_lt}
use Rattle.std.proofs.Common.{◌≡◌, ℕ, zero, suc, ◌-◌, ◌<◌, ◌≤◌, ◌⊎◌, ⊎_elim, List, [], ◌∷◌, ◌++◌, length, length-drop, drop, append_assoc, refl, sym, ap, ◌∙◌, subst, arith, Option, Some, None, Ok, Err, Result}
use Rattle.std.proofs.lemmas.List.{append-nil, length-map}
use Rattle.st_disk.specs.Disks.{Log}
use Rattle.st_disk.specs.Events.{Event, Remove}
use Rattle.st_disk.specs.Pairs.{Entry, Files, files_of, IsFileSet, IsBelow}
use Rattle.st_pairs.specs.Pairs.{IsWholePair}
use Rattle.st_spool.specs.Aging.{Removes, FailsToAge, AgesTo, MayAge, pair_count, oldest}
use Rattle.st_spool.specs.Aging.{Ages as AgesBy}
use Rattle.st_spool.specs.Refusing.{RefusesAge}
use Rattle.st_spool.specs.declared.refusals.AgeErr.{AgeErr}
use Rattle.st_spool.specs.declared.refusals.AgeErr.TheVariants as age_err
use Rattle.st_spool.specs.History.{set_of, without, entries_of}
use Rattle.st_spool.specs.Publishing.{failed}
use Rattle.st_spool.specs.Standing.{StandsFor, stamp_of, failed_event, in_doubt}
use Rattle.st_spool.specs.States.{SpoolState, SpoolView}
use Rattle.st_spool.specs.declared.state.Doubt.TheVariants as doubt
use Rattle.st_spool.proofs.Aged.{split_at}
use Rattle.st_spool.proofs.Giving.{without_first}
use Rattle.st_spool.proofs.Histories.{set_more}
use Rattle.st_load.specs.Acts.{removals, newest}
use Rattle.st_load.specs.Loading.{Covered}
use Rattle.st_load.specs.Publishing.{Ages, AgesAll}
use Rattle.st_load.proofs.Covered.{covered_none, covered_on, covered_fault}
use Rattle.st_load.proofs.Finishing.{no_doubt}
use Rattle.st_load.proofs.Jobs.{removals_first, newest_first, removals_none, newest_all}

-- as many pairs as the history has
pub pairs_counted : (known : Option Log) (st : SpoolState) (earlier h : List Event) (f : Files) → StandsFor IsWholePair known st earlier h f → pair_count st ≡ length (set_of h)
pairs_counted known st earlier h f stands =
    let all : length (entries_of h) ≡ length st.stamps = sym (length-map (entries_of h) stamp_of) ∙ ap length stands.stamps in
    let left : length (drop st.removed (entries_of h)) ≡ length (entries_of h) - st.removed = length-drop st.removed (entries_of h) in
    let set : length (set_of h) ≡ length (drop st.removed (entries_of h)) = ap length stands.set in
    omega (arith, all, left, set)

-- the oldest pair
pub some_pair : (set : List Entry) → 1 ≤ length set → (e : Entry) × (rest : List Entry) × (set ≡ e ∷ rest)
some_pair [] some = absurd (omega arith)
some_pair (e ∷ rest) some = (e, rest, refl)

-- some of the removals that a history asks for happened, and it asks for the others still
pub record Aged (before known : Option Log) (st : SpoolState) (earlier h : List Event) (f : Files) : Type 0 where
  pub events : List Event
  pub are : removals st.limit (set_of h) ≡ events ++ removals st.limit (set_of (h ++ events))
  pub newest_are : newest st.limit (set_of h) ≡ newest st.limit (set_of (h ++ events))
  pub stands : StandsFor IsWholePair known st earlier (h ++ events) f
  pub images : Covered before known h events []

pub aged_none : (known : Option Log) (st : SpoolState) (earlier h : List Event) (f : Files) → StandsFor IsWholePair known st earlier h f → st.halted ≡ None → Aged known known st earlier h f
aged_none known st earlier h f stands runs = record {
  events = [];
  are = ap (λ x. removals st.limit (set_of x)) (sym (append-nil h));
  newest_are = ap (λ x. newest st.limit (set_of x)) (sym (append-nil h));
  stands = subst (λ x. StandsFor IsWholePair known st earlier x f) (sym (append-nil h)) stands;
  images = covered_none known st earlier h f stands (no_doubt known st earlier h f stands runs);
}

set_drop : (k : ℕ) (all : List Entry) → IsFileSet all → IsFileSet (drop k all)
set_drop zero all set = set
set_drop (suc k) [] set = set
set_drop (suc k) (e ∷ es) set = set_drop k es set.1

-- the oldest pair of a spool that has more than its limit
abbrev pub Oldest : SpoolState → List Event → Type 0
Oldest st h = (e : Entry) × (rest : List Entry) × (set_of h ≡ e ∷ rest) × (oldest st ≡ e.stamp) × IsBelow e.stamp rest × (st.limit < length (e ∷ rest))

pub oldest_pair : (known : Option Log) (st : SpoolState) (earlier h : List Event) (f : Files) → StandsFor IsWholePair known st earlier h f → st.limit < pair_count st → Oldest st h
oldest_pair known st earlier h f stands over =
    let all : length (entries_of h) ≡ length st.stamps = sym (length-map (entries_of h) stamp_of) ∙ ap length stands.stamps in
    let count = pairs_counted known st earlier h f stands in
    let (e, rest, is, at) = split_at st.removed (entries_of h) (omega (arith, all, over)) in
    let set = stands.set ∙ is in
    let below : IsFileSet (e ∷ rest) = subst IsFileSet is (set_drop st.removed (entries_of h) stands.rises) in
    (e, rest, set, ap (λ (xs : List ℕ). slice_index xs st.removed) (sym stands.stamps) ∙ at, below.0, omega (arith, count, over, ap length set))

pub set_removed : (h : List Event) (e : Entry) (rest : List Entry) → set_of h ≡ e ∷ rest → IsBelow e.stamp rest → set_of (h ++ Remove e.stamp ∷ []) ≡ rest
set_removed h e rest is below = set_more [] h (Remove e.stamp) ∙ ap (without e.stamp) is ∙ without_first e.stamp e rest refl below

-- one removal more
pub aged_on : (before known now : Option Log) (st after : SpoolState) (earlier h : List Event) (f : Files) (e : Entry) (rest : List Entry) (a : Aged before known st earlier h f)
    → after.limit ≡ st.limit → set_of (h ++ a.events) ≡ e ∷ rest → IsBelow e.stamp rest → st.limit < length (e ∷ rest) → Removes IsWholePair known now after earlier (h ++ a.events) e f
    → Aged before now after earlier h f
aged_on before known now st after earlier h f e rest a lim is below over removes =
    let history : (h ++ a.events) ++ Remove e.stamp ∷ [] ≡ h ++ (a.events ++ Remove e.stamp ∷ []) = append_assoc h a.events (Remove e.stamp ∷ []) in
    let set : set_of (h ++ (a.events ++ Remove e.stamp ∷ [])) ≡ rest = ap set_of (sym history) ∙ set_removed (h ++ a.events) e rest is below in
    let first : removals st.limit (set_of (h ++ a.events)) ≡ Remove e.stamp ∷ removals st.limit rest = ap (removals st.limit) is ∙ removals_first st.limit e rest over in
    let lims : removals st.limit rest ≡ removals after.limit (set_of (h ++ (a.events ++ Remove e.stamp ∷ []))) =
    ap (λ n. removals n rest) (sym lim) ∙ ap (removals after.limit) (sym set) in
    record {
      events = a.events ++ Remove e.stamp ∷ [];
      are = ap (λ n. removals n (set_of h)) lim ∙ a.are ∙ ap (λ es. a.events ++ es) (first ∙ ap (λ es. Remove e.stamp ∷ es) lims)
          ∙ sym (append_assoc a.events (Remove e.stamp ∷ []) (removals after.limit (set_of (h ++ (a.events ++ Remove e.stamp ∷ [])))));
      newest_are = ap (λ n. newest n (set_of h)) lim ∙ a.newest_are ∙ ap (newest st.limit) is ∙ newest_first st.limit e rest over
          ∙ ap (λ n. newest n rest) (sym lim) ∙ ap (newest after.limit) (sym set);
      stands = subst (λ x. StandsFor IsWholePair now after earlier x f) history removes.stands;
      images = covered_on before known now h a.events (Remove e.stamp) a.images (λ mid same. removes.images mid same);
    }

-- all of them happened
pub aged_all : (before known : Option Log) (st : SpoolState) (earlier h : List Event) (f : Files) (a : Aged before known st earlier h f) → length (set_of (h ++ a.events)) ≤ st.limit
    → AgesAll before known st earlier h f
aged_all before known st earlier h f a within =
    let is : removals st.limit (set_of h) ≡ a.events = a.are ∙ ap (λ es. a.events ++ es) (removals_none st.limit (set_of (h ++ a.events)) within) ∙ append-nil a.events in
    record {
      stands = subst (λ es. StandsFor IsWholePair known st earlier (h ++ es) f) (sym is) a.stands;
      set = ap (λ es. set_of (h ++ es)) is ∙ sym (newest_all st.limit (set_of (h ++ a.events)) within) ∙ sym a.newest_are;
      images = subst (λ es. Covered before known h es []) (sym is) a.images;
    }

removal_doubted : (old new : SpoolState) (since : ℕ) (f : Files) → (new ≡ failed old (doubt.Unhidden (oldest old)) since) ⊎ (new ≡ failed old (doubt.Hidden (oldest old)) since)
    → failed_event new.doubt f ≡ Remove (oldest old) ∷ []
removal_doubted old new since f fails = ⊎_elim
    (λ is. ap (λ (x : SpoolState). failed_event x.doubt f) is)
    (λ is. ap (λ (x : SpoolState). failed_event x.doubt f) is)
    fails

-- one failed
pub aged_fails : (before known now : Option Log) (st after : SpoolState) (earlier h : List Event) (f : Files) (e : Entry) (rest : List Entry) (since : ℕ) (a : Aged before known st earlier h f)
    → after.limit ≡ st.limit → set_of (h ++ a.events) ≡ e ∷ rest → oldest st ≡ e.stamp → st.limit < length (e ∷ rest)
    → FailsToAge IsWholePair known now after earlier (h ++ a.events) e
    → (after ≡ failed st (doubt.Unhidden (oldest st)) since) ⊎ (after ≡ failed st (doubt.Hidden (oldest st)) since)
    → Ages before now after earlier h
aged_fails before known now st after earlier h f e rest since a lim is at over fails how = record {
  events = a.events;
  to_come = removals after.limit (set_of (h ++ a.events));
  are = ap (λ n. removals n (set_of h)) lim ∙ a.are ∙ ap (λ n. a.events ++ removals n (set_of (h ++ a.events))) (sym lim);
  f = files_of e;
  stands = fails.fails.stands;
  later = removals st.limit rest;
  doubt = ap (λ n. removals n (set_of (h ++ a.events))) lim ∙ ap (removals st.limit) is ∙ removals_first st.limit e rest over
      ∙ ap (λ es. es ++ removals st.limit rest) (ap (λ (n : ℕ). Remove n ∷ []) (sym at) ∙ sym (removal_doubted st after since (files_of e) how));
  images = covered_fault before known now h a.events (in_doubt after.doubt (files_of e)) a.images (λ mid same. fails.fails.images mid same);
}

-- an answer other than that there is nothing to remove
pub over_limit : {E : Type 0} (st : SpoolState) (r : Result Bool E) → st.halted ≡ None → ((r ≡ Ok false) ↔ (pair_count st ≤ st.limit)) → (r ≡ Ok true) → MayAge st
over_limit st r runs small is = (runs, ⊎_elim (λ (over : st.limit < pair_count st). over) (λ (few : pair_count st ≤ st.limit). let bad : Ok true ≡ Ok false = sym is ∙ small.1 few in absurd (cc)) (cases_lt st.limit (pair_count st)))

-- a removal, from the clause of the call
pub aged_at : (before known now : Option Log) (st after : SpoolState) (earlier h : List Event) (f : Files) (b : Bool) (a : Aged before known st earlier h f)
    → st.limit < pair_count st → after.limit ≡ st.limit → b ≡ true
    → ((e : Entry) (rest : List Entry) → set_of (h ++ a.events) ≡ e ∷ rest → AgesBy IsWholePair known now after earlier (h ++ a.events) e f (Ok b))
    → Aged before now after earlier h f
aged_at before known now st after earlier h f b a over lim is ages =
    let (e, rest, set, at, below, more) = oldest_pair known st earlier (h ++ a.events) f a.stands over in
    aged_on before known now st after earlier h f e rest a lim set below more
    (subst (λ (x : Bool). AgesBy IsWholePair known now after earlier (h ++ a.events) e f (Ok x)) is (ages e rest set))

-- one that failed
pub fails_at : {D : Type 0} (before known now : Option Log) (old new : SpoolView D) (since : ℕ) (earlier h : List Event) (f : Files) (x : AgeErr) (a : Aged before known old.state earlier h f)
    → old.state.halted ≡ None → RefusesAge old new x → (MayAge old.state → AgesTo old.state new.state since (Err x))
    → ((MayAge old.state) → (e : Entry) (rest : List Entry) → set_of (h ++ a.events) ≡ e ∷ rest → AgesBy IsWholePair known now new.state earlier (h ++ a.events) e f (Err x))
    → Ages before now new.state earlier h
fails_at {D} before known now old new since earlier h f age_err.DiskFault a runs refuses state ages =
    let how = state refuses in
    let (e, rest, set, at, below, more) = oldest_pair known old.state earlier (h ++ a.events) f a.stands refuses.1 in
    let lim : new.state.limit ≡ old.state.limit = ⊎_elim (λ is. ap (λ (s : SpoolState). s.limit) is) (λ is. ap (λ (s : SpoolState). s.limit) is) how in
    aged_fails before known now old.state new.state earlier h f e rest since a lim set at more (ages refuses e rest set) how
fails_at {D} before known now old new since earlier h f (age_err.Halted n) a runs refuses state ages = let bad : Some n ≡ None = sym refuses.0 ∙ runs in absurd (cc)
