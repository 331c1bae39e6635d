-- Calls on a spool that are no event, as a store's.
use Rattle.std.proofs.Common.{◌≡◌, ℕ, List, [], Option, None, Some, refl, sym, ◌∙◌, ap, subst}
use Rattle.std.specs.Prelude.{option_map, take}
use Rattle.st_disk.specs.Disks.{Log}
use Rattle.st_disk.specs.Events.{Event}
use Rattle.st_disk.specs.Pairs.{Files}
use Rattle.st_disk.proofs.Runs.{ran_then}
use Rattle.st_spool.specs.Holding.{size_of}
use Rattle.st_spool.specs.Publishing.{Keeps, RanAsBefore}
use Rattle.st_spool.specs.Recalling.{history, history_of, taken_of, taken_count}
use Rattle.st_spool.specs.Standing.{StandsFor, Stands, Gives, in_doubt}
use Rattle.st_spool.specs.States.{SpoolState, SpoolView}
use Rattle.st_spool.specs.declared.state.Doubt.{Doubt}
use Rattle.st_answer.specs.Spools.{IsStill, Remains, spool_holds, times_in, set_in}
use Rattle.st_answer.specs.Stores.{KeepsHolds, IsSameStore, StayHeld}
use Rattle.st_answer.proofs.SpoolHolds.{stay_held}
use Rattle.st_answer.proofs.Staying.{goes_on_refl}

-- the history that is known stays
kept_history : (W : List ℕ → List ℕ → Type 0) (old new : Option Log) (st next : SpoolState) (earlier h : List Event) (f : Files) → StandsFor W old st earlier h f → Keeps W old new next earlier h f
    → option_map (history next) new ≡ option_map (history st) old
kept_history W None None st next earlier h f stands keeps = refl
kept_history W None (Some log) st next earlier h f stands keeps = let (was, is, grew) = keeps.known log refl in absurd (cc)
kept_history W (Some log) new st next earlier h f stands keeps =
    let run = keeps.images log refl in
    let before = (stands.disk log refl).recalls in
    let after = (keeps.stands.disk run.log run.is).recalls in
    ap (option_map (history next)) run.is ∙ ap Some (after ∙ sym before)

-- what was so since a log before is so still
still_kept : (W : List ℕ → List ℕ → Type 0) (first : Log) (old new : Option Log) (st next : SpoolState) (earlier h : List Event) (f : Files) → next.doubt ≡ st.doubt
    → (StandsFor W old st earlier h f → Keeps W old new next earlier h f) → IsStill W first old st earlier h f → IsStill W first new next earlier h f
still_kept W first old new st next earlier h f same keeps is =
    let kept = keeps is.stands in
    let P = λ (d : Doubt). Gives h (in_doubt d f) in
    let run : RanAsBefore first old h (in_doubt next.doubt f) = subst (λ (d : Doubt). RanAsBefore first old h (in_doubt d f)) (sym same) is.images in
    record {
      stands = kept.stands;
      images = ran_then first old new [] [] (P next.doubt) (P next.doubt) (P next.doubt) run (kept.images run.log run.is);
    }

-- a call that keeps the state but for the sets that are held
pub remains : {D : Type 0} (W : List ℕ → List ℕ → Type 0) (log : D → Option Log) (a b : SpoolView D) → Stands W (log a.shelf) a.state
    → ((earlier h : List Event) (f : Files) → StandsFor W (log a.shelf) a.state earlier h f → Keeps W (log a.shelf) (log b.shelf) b.state earlier h f)
    → b.state.doubt ≡ a.state.doubt → b.state.limit ≡ a.state.limit → Remains W log a b
remains W log a b (earlier, h, f, stands) keeps doubt limit = record {
  history = kept_history W (log a.shelf) (log b.shelf) a.state b.state earlier h f stands (keeps earlier h f stands);
  limit = limit;
  doubt = doubt;
  still = λ first earlier h f is. still_kept W first (log a.shelf) (log b.shelf) a.state b.state earlier h f doubt (keeps earlier h f) is;
}

same_holds : (st next : SpoolState) (seen seen' : Option (List Event)) → next ≡ st → seen' ≡ seen
    → KeepsHolds (spool_holds st seen (option_map (take (taken_count st)) seen)) (spool_holds next seen' (option_map (take (taken_count next)) seen'))
same_holds st next seen seen' state is =
    subst (λ (s : SpoolState). KeepsHolds (spool_holds st seen (option_map (take (taken_count st)) seen)) (spool_holds s seen' (option_map (take (taken_count s)) seen'))) (sym state)
    (subst (λ (o : Option (List Event)). KeepsHolds (spool_holds st seen (option_map (take (taken_count st)) seen)) (spool_holds st o (option_map (take (taken_count st)) o))) (sym is)
    (record { asks = refl; held = refl; took = refl; seen = goes_on_refl seen; out = refl }))

same_held : (st next : SpoolState) (seen seen' : Option (List Event)) → next ≡ st → seen' ≡ seen
    → StayHeld (times_in st.holds) (times_in next.holds) size_of size_of (set_in seen) (set_in seen')
same_held st next seen seen' state is =
    subst (λ (o : Option (List Event)). StayHeld (times_in st.holds) (times_in next.holds) size_of size_of (set_in seen) (set_in o)) (sym is) (stay_held st.holds next.holds seen (ap (λ (s : SpoolState). s.holds) state))

-- a call that lends a file or takes one back
pub same_store : {D : Type 0} (W : List ℕ → List ℕ → Type 0) (log : D → Option Log) (id : D → ℕ) (a b : SpoolView D) → Stands W (log a.shelf) a.state
    → ((earlier h : List Event) (f : Files) → StandsFor W (log a.shelf) a.state earlier h f → Keeps W (log a.shelf) (log b.shelf) b.state earlier h f)
    → b ≡ record a { shelf = b.shelf } → id b.shelf ≡ id a.shelf
    → IsSameStore (Remains W log a b) (id a.shelf) (id b.shelf) (spool_holds a.state (history_of log a) (taken_of log a)) (spool_holds b.state (history_of log b) (taken_of log b))
    (times_in a.state.holds) (times_in b.state.holds) size_of size_of (set_in (history_of log a)) (set_in (history_of log b))
same_store {D} W log id a b stands keeps same home =
    let state : b.state ≡ a.state = ap (λ (v : SpoolView D). v.state) same in
    let became = remains W log a b stands keeps (ap (λ (s : SpoolState). s.doubt) state) (ap (λ (s : SpoolState). s.limit) state) in
    record {
      became = became;
      id = home;
      holds = same_holds a.state b.state (history_of log a) (history_of log b) state became.history;
      others = same_held a.state b.state (history_of log a) (history_of log b) state became.history;
    }

-- a call that changes nothing
pub remains_so : {D : Type 0} (W : List ℕ → List ℕ → Type 0) (log : D → Option Log) (a : SpoolView D) → Remains W log a a
remains_so W log a = record { history = refl; limit = refl; doubt = refl; still = λ first earlier h f is. is }

pub no_call : {D : Type 0} (W : List ℕ → List ℕ → Type 0) (log : D → Option Log) (id : D → ℕ) (a : SpoolView D)
    → IsSameStore (Remains W log a a) (id a.shelf) (id a.shelf) (spool_holds a.state (history_of log a) (taken_of log a)) (spool_holds a.state (history_of log a) (taken_of log a))
    (times_in a.state.holds) (times_in a.state.holds) size_of size_of (set_in (history_of log a)) (set_in (history_of log a))
no_call W log id a = record {
  became = remains_so W log a;
  id = refl;
  holds = same_holds a.state a.state (history_of log a) (history_of log a) refl refl;
  others = same_held a.state a.state (history_of log a) (history_of log a) refl refl;
}

-- a hold that was not taken
pub not_taken : {D : Type 0} (W : List ℕ → List ℕ → Type 0) (log : D → Option Log) (a b : SpoolView D) → b ≡ a
    → KeepsHolds (spool_holds a.state (history_of log a) (taken_of log a)) (spool_holds b.state (history_of log b) (taken_of log b))
    × StayHeld (times_in a.state.holds) (times_in b.state.holds) size_of size_of (set_in (history_of log a)) (set_in (history_of log b))
    × Remains W log a b
not_taken {D} W log a b same =
    subst (λ (v : SpoolView D). KeepsHolds (spool_holds a.state (history_of log a) (taken_of log a)) (spool_holds v.state (history_of log v) (taken_of log v))
    × StayHeld (times_in a.state.holds) (times_in v.state.holds) size_of size_of (set_in (history_of log a)) (set_in (history_of log v))
    × Remains W log a v) (sym same)
    (same_holds a.state a.state (history_of log a) (history_of log a) refl refl, same_held a.state a.state (history_of log a) (history_of log a) refl refl, remains_so W log a)
