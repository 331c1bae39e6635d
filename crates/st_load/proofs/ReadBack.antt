-- The pairs that are read of a spool, also where an event is in doubt.
use Rattle.std.proofs.Common.{◌≡◌, ◌<◌, ◌+◌, ℕ, List, [], ◌∷◌, ◌++◌, drop, Option, Some, sym, ◌∙◌, ap, subst, arith}
use Rattle.std.proofs.lemmas.List.{append-nil}
use Rattle.st_disk.specs.Folders.{Folder}
use Rattle.st_disk.specs.Disks.{Log, reads}
use Rattle.st_disk.specs.Events.{Event, Publish, Remove}
use Rattle.st_disk.specs.Pairs.{Entry, Files, PairsIn, IsFileSet}
use Rattle.st_spool.specs.History.{set_of, entries_of}
use Rattle.st_spool.specs.Settling.{entry}
use Rattle.st_spool.specs.Rows.{Row, Pair, Held, Has, set_row}
use Rattle.st_spool.specs.Standing.{StandsFor, in_doubt}
use Rattle.st_spool.specs.States.{SpoolState, rows_of, with_read, MayBe, place_in}
use Rattle.st_spool.specs.declared.state.Doubt.{Doubt}
use Rattle.st_spool.specs.declared.state.Doubt.TheVariants as doubt
use Rattle.st_spool.proofs.Aged.{drop_next, rows_aged}
use Rattle.st_spool.proofs.Giving.{sure_sets, half_sets, set_more_is, set_less, found_at}
use Rattle.st_spool.proofs.Places.{rows_published, rows_sure, rows_set, file_set_more, drop_more}
use Rattle.st_spool.proofs.Setting.{sure_set}

module _ (W : List ℕ → List ℕ → Type 0) (known : Option Log) (st : SpoolState) (earlier h : List Event) (k : Files) (stands : StandsFor W known st earlier h k) where
  abbrev all : List Entry
  all = entries_of h

  abbrev rows : ℕ → Row
  rows = rows_of st.removed st.holds st.last all

  none_set : (c : Folder) → PairsIn c (set_of h) → PairsIn c (set_of (h ++ []))
  none_set c is = subst (λ (es : List Event). PairsIn c (set_of es)) (sym (append-nil h)) is

  -- a pair that was settled
  settled_set : (t : ℕ) → st.last < t → (c : Folder) → Has (set_row rows t (Pair k)) c → PairsIn c (set_of (h ++ Publish (entry t k) ∷ []))
  settled_set t more c has =
      let e : Entry = entry t k in
      let rises : IsFileSet (all ++ e ∷ []) = file_set_more st.last all e stands.last more stands.rises in
      let now = rows_published st.removed st.last st.holds all e stands.last more stands.within c has in
      let set : set_of (h ++ Publish e ∷ []) ≡ drop st.removed (all ++ e ∷ []) =
      set_more_is W known st earlier h k stands t k more ∙ sym (drop_more st.removed all e stands.within) in
      subst (λ (s : List Entry). PairsIn c s) (sym set)
      (sure_set (rows_of st.removed st.holds t (all ++ e ∷ [])) (drop st.removed (all ++ e ∷ [])) c (rows_sure st.removed t st.holds (all ++ e ∷ [])) (rows_set st.removed t st.holds (all ++ e ∷ []) rises) now)

  -- a pair whose index was hidden
  hidden_set : (t : ℕ) → place_in 0 t all ≡ Some (record { place = st.removed; files = k }) → (c : Folder) → Has (set_row rows t (Held k)) c → PairsIn c (set_of (h ++ Remove t ∷ []))
  hidden_set t may c has =
      let from : st.removed ≡ 0 + st.removed = omega arith in
      let (e, rest, is, same, files) = found_at 0 st.removed t all k (may ∙ ap (λ (n : ℕ). Some (record { place = n; files = k })) from) in
      let here = subst (λ (n : ℕ). Has (set_row rows n (Held k)) c) same has in
      let now = rows_aged st.removed st.last st.holds all e rest is stands.rises c (subst (λ (f : Files). Has (set_row rows e.stamp (Held f)) c) (sym files) here) in
      let set : set_of (h ++ Remove t ∷ []) ≡ drop (st.removed + 1) all = set_less W known st earlier h k stands t e rest is same ∙ sym (drop_next st.removed all e rest is) in
      subst (λ (s : List Entry). PairsIn c s) (sym set)
      (sure_set (rows_of (st.removed + 1) st.holds st.last all) (drop (st.removed + 1) all) c (rows_sure (st.removed + 1) st.last st.holds all) (rows_set (st.removed + 1) st.last st.holds all stands.rises) now)

  by_doubt : (d : Doubt) → MayBe d k st.removed st.last all → (c : Folder) → Has (with_read d k rows) c → PairsIn c (set_of (h ++ in_doubt d k))
  by_doubt doubt.Nothing may c has = none_set c (sure_sets W known st earlier h k stands c has)
  by_doubt (doubt.Unsettled t) may c has = none_set c (half_sets W known st earlier h k stands t k may c has)
  by_doubt (doubt.Settled t) may c has = settled_set t may c has
  by_doubt (doubt.Unhidden t) may c has = none_set c (sure_sets W known st earlier h k stands c has)
  by_doubt (doubt.Hidden t) may c has = hidden_set t may c has

  -- the pairs of the history are read, with the event in doubt, if there is one
  pub read_set : (log : Log) → known ≡ Some log → PairsIn (reads log) (set_of (h ++ in_doubt st.doubt k))
  read_set log is = by_doubt st.doubt stands.doubt (reads log) (stands.disk log is).read
