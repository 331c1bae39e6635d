-- A hold of a spool that is taken, and one that is given back.
use Rattle.std.proofs.Common.{◌≡◌, ◌-◌, ◌^◌, ℕ, List, [], ◌∷◌, length, Option, None, Some, refl, sym, ◌∙◌, ap, subst, arith}
use Rattle.std.specs.Prelude.{option_map, take, min}
use Rattle.std.proofs.lemmas.List.{length-append}
use Rattle.std.proofs.lemmas.List.Edits.{length-remove}
use Rattle.st_disk.specs.Disks.{Log}
use Rattle.st_disk.specs.Events.{Event}
use Rattle.st_disk.specs.Pairs.{Files}
use Rattle.st_spool.specs.History.{set_of}
use Rattle.st_spool.specs.Holding.{size_of, whole_set, with_hold, IsWithout}
use Rattle.st_spool.specs.Publishing.{Keeps}
use Rattle.st_spool.specs.Recalling.{history, history_of, taken_of, taken_count}
use Rattle.st_spool.specs.Standing.{StandsFor, Stands}
use Rattle.st_spool.specs.States.{SpoolState, SpoolView, held}
use Rattle.st_spool.specs.declared.state.Span.{Span}
use Rattle.st_answer.specs.Spools.{Remains, sets_in, spool_holds, times_in, set_in}
use Rattle.st_answer.specs.Stores.{TakesHold, GivesBack, HoldsOneMore, HoldsOneLess}
use Rattle.st_answer.specs.Sets.{GoesOn, AddsSet, DropsSet}
use Rattle.st_answer.proofs.SpoolCalls.{remains}
use Rattle.st_answer.proofs.SpoolHolds.{holds_more, holds_less, adds_set, drops_set}
use Rattle.st_answer.proofs.SpoolSets.{taken_all, whole_held}
use Rattle.st_answer.proofs.Staying.{goes_on_refl}

-- two states of one history
one_history : (W : List ℕ → List ℕ → Type 0) (known : Option Log) (st next : SpoolState) (earlier h : List Event) (f : Files) → StandsFor W known st earlier h f → StandsFor W known next earlier h f
    → option_map (history next) known ≡ option_map (history st) known
one_history W None st next earlier h f one two = refl
one_history W (Some log) st next earlier h f one two = ap Some ((two.disk log refl).recalls ∙ sym (one.disk log refl).recalls)

module _ (W : List ℕ → List ℕ → Type 0) (known : Option Log) (st : SpoolState)
    (now : Stands W known st) (stands : (earlier h : List Event) (f : Files) → StandsFor W known st earlier h f → StandsFor W known (with_hold st) earlier h f) where
  same_history : option_map (history (with_hold st)) known ≡ option_map (history st) known
  same_history = let (earlier, h, f, is) = now in one_history W known st (with_hold st) earlier h f is (stands earlier h f is)

  all_taken : option_map (take (taken_count (with_hold st))) (option_map (history (with_hold st)) known) ≡ option_map (history (with_hold st)) known
  all_taken = let (earlier, h, f, is) = now in taken_all W known (with_hold st) (earlier, h, f, stands earlier h f is) refl

  pub takes : ((earlier h : List Event) (f : Files) → StandsFor W known st earlier h f → held (whole_set st) h ≡ set_of h)
      → TakesHold (set_in (option_map (history (with_hold st)) known) (whole_set st))
      (spool_holds st (option_map (history st) known) (option_map (take (taken_count st)) (option_map (history st) known)))
      (spool_holds (with_hold st) (option_map (history (with_hold st)) known) (option_map (take (taken_count (with_hold st))) (option_map (history (with_hold st)) known)))
  takes whole =
      let (earlier, h, f, is) = now in
      let seen = option_map (history st) known in
      let next = option_map (history (with_hold st)) known in
      record {
        asks = omega arith;
        held = length-append st.holds (whole_set st ∷ []);
        asked = whole_held W known (with_hold st) earlier h f (whole_set st) (stands earlier h f is) (whole earlier h f is) ∙ ap (option_map set_of) (sym all_taken);
        took = subst (GoesOn seen) (sym (all_taken ∙ same_history)) (goes_on_refl seen);
        seen = subst (GoesOn seen) (sym same_history) (goes_on_refl seen);
        out = subst (λ (o : Option (List Event)). AddsSet (set_in next (whole_set st)) (option_map (sets_in st.holds) o) (option_map (sets_in (with_hold st).holds) next)) same_history (adds_set st.holds (whole_set st) next);
      }

  pub holds_one : HoldsOneMore (whole_set st) (times_in st.holds) (times_in (with_hold st).holds) size_of size_of (set_in (option_map (history st) known)) (set_in (option_map (history (with_hold st)) known))
  holds_one =
      let seen = option_map (history st) known in
      subst (λ (o : Option (List Event)). HoldsOneMore (whole_set st) (times_in st.holds) (times_in (with_hold st).holds) size_of size_of (set_in seen) (set_in o)) (sym same_history) (holds_more st.holds (whole_set st) seen)

pub hold_remains : {D : Type 0} (W : List ℕ → List ℕ → Type 0) (log : D → Option Log) (a : SpoolView D) → Stands W (log a.shelf) a.state
    → ((earlier h : List Event) (f : Files) → StandsFor W (log a.shelf) a.state earlier h f → StandsFor W (log a.shelf) (with_hold a.state) earlier h f)
    → Remains W log a (record a { state = with_hold a.state })
hold_remains W log a now stands = record {
  history = same_history W (log a.shelf) a.state now stands;
  limit = refl;
  doubt = refl;
  still = λ first earlier h f is. record { stands = stands earlier h f is.stands; images = is.images };
}

-- a hold that is given back
module _ {D : Type 0} (W : List ℕ → List ℕ → Type 0) (log : D → Option Log) (a b : SpoolView D) (hold : Span) (now : Stands W (log a.shelf) a.state)
    (keeps : (earlier h : List Event) (f : Files) → StandsFor W (log a.shelf) a.state earlier h f → Keeps W (log a.shelf) (log b.shelf) b.state earlier h f)
    (without : IsWithout hold a.state.holds b.state.holds)
    (same : b ≡ record a { shelf = b.shelf; state = record a.state { holds = b.state.holds; swept = b.state.swept } }) where
  state_is : b.state ≡ record a.state { holds = b.state.holds; swept = b.state.swept }
  state_is = ap (λ (v : SpoolView D). v.state) same

  pub release_remains : Remains W log a b
  release_remains = remains W log a b now keeps (ap (λ (s : SpoolState). s.doubt) state_is) (ap (λ (s : SpoolState). s.limit) state_is)

  same_count : taken_count b.state ≡ taken_count a.state
  same_count = ap taken_count state_is

  pub gives_back : GivesBack (set_in (history_of log a) hold) (spool_holds a.state (history_of log a) (taken_of log a)) (spool_holds b.state (history_of log b) (taken_of log b))
  gives_back =
      let seen = history_of log a in
      let is = release_remains.history in
      let (k, lt, at, less) = without in
      record {
        asks = ap (λ (s : SpoolState). min s.asks (2 ^ 64 - 1)) state_is;
        held = let shorter = length-remove a.state.holds k lt in let len = ap length less in omega (arith, shorter, len);
        took = ap (λ (n : ℕ). option_map (take n) (history_of log b)) same_count ∙ ap (option_map (take (taken_count a.state))) is;
        seen = subst (GoesOn seen) (sym is) (goes_on_refl seen);
        out = subst (λ (o : Option (List Event)). DropsSet (set_in seen hold) (option_map (sets_in a.state.holds) seen) (option_map (sets_in b.state.holds) o)) (sym is) (drops_set a.state.holds b.state.holds hold seen without);
      }

  pub holds_one_less : HoldsOneLess hold (times_in a.state.holds) (times_in b.state.holds) size_of size_of (set_in (history_of log a)) (set_in (history_of log b))
  holds_one_less =
      let seen = history_of log a in
      subst (λ (o : Option (List Event)). HoldsOneLess hold (times_in a.state.holds) (times_in b.state.holds) size_of size_of (set_in seen) (set_in o)) (sym release_remains.history) (holds_less a.state.holds b.state.holds hold seen without)

-- a hold that was taken
abbrev HasTaken : {D : Type 0} → (List ℕ → List ℕ → Type 0) → (D → Option Log) → SpoolView D → SpoolView D → Span → Type 0
HasTaken W log a b k =
    TakesHold (set_in (history_of log b) k) (spool_holds a.state (history_of log a) (taken_of log a)) (spool_holds b.state (history_of log b) (taken_of log b))
    × HoldsOneMore k (times_in a.state.holds) (times_in b.state.holds) size_of size_of (set_in (history_of log a)) (set_in (history_of log b))
    × Remains W log a b

pub has_taken : {D : Type 0} (W : List ℕ → List ℕ → Type 0) (log : D → Option Log) (a b : SpoolView D) (k : Span) → Stands W (log a.shelf) a.state
    → (k ≡ whole_set a.state) × (b ≡ record a { state = with_hold a.state })
    → ((earlier h : List Event) (f : Files) → StandsFor W (log a.shelf) a.state earlier h f → StandsFor W (log b.shelf) b.state earlier h f)
    → ((earlier h : List Event) (f : Files) → StandsFor W (log a.shelf) a.state earlier h f → held k h ≡ set_of h) → HasTaken W log a b k
has_taken {D} W log a b k now (is, same) stands whole =
    let v : SpoolView D = record a { state = with_hold a.state } in
    let stands' : (earlier h : List Event) (f : Files) → StandsFor W (log a.shelf) a.state earlier h f → StandsFor W (log a.shelf) (with_hold a.state) earlier h f =
    subst (λ (x : SpoolView D). (earlier h : List Event) (f : Files) → StandsFor W (log a.shelf) a.state earlier h f → StandsFor W (log x.shelf) x.state earlier h f) same stands in
    let whole' : (earlier h : List Event) (f : Files) → StandsFor W (log a.shelf) a.state earlier h f → held (whole_set a.state) h ≡ set_of h =
    subst (λ (s : Span). (earlier h : List Event) (f : Files) → StandsFor W (log a.shelf) a.state earlier h f → held s h ≡ set_of h) is whole in
    subst (λ (x : SpoolView D). HasTaken W log a x k) (sym same)
    (subst (λ (s : Span). HasTaken W log a v s) (sym is)
    (takes W (log a.shelf) a.state now stands' whole', holds_one W (log a.shelf) a.state now stands', hold_remains W log a now stands'))
