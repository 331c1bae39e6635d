-- A call of a store over a pass, as the store's clauses say it.
use Rattle.std.proofs.Common.{◌≡◌, ◌≤◌, ◌<◌, ℕ, List, [], ◌∷◌, ◌++◌, length, drop, Contains, Option, Some, refl, sym, ◌∙◌, ap, subst, arith}
use Rattle.std.specs.Prelude.{MatchResult, Result, Ok, Err}
use Rattle.std.proofs.lemmas.List.Edits.{length-remove}
use Rattle.st_base.specs.Faults.{next_count}
use Rattle.st_disk.specs.Disks.{Log}
use Rattle.st_disk.specs.Events.{Event}
use Rattle.st_disk.specs.Pairs.{Entry, Files}
use Rattle.st_shelf.specs.Loans.{LoansView}
use Rattle.st_spool.specs.Holding.{size_of, whole_set, with_hold}
use Rattle.st_spool.specs.Recalling.{event_count}
use Rattle.st_spool.specs.Standing.{StandsFor}
use Rattle.st_spool.specs.States.{SpoolState, SpoolView, held}
use Rattle.st_spool.specs.declared.state.Span.{Span}
use Rattle.st_answer.specs.Spools.{times_in}
use Rattle.st_answer.specs.Stores.{IsSameStore, TakesHold, KeepsHolds, StayHeld, HoldsOneMore, GivesBack, HoldsOneLess, OfEntry, IsSetOfSize}
use Rattle.st_answer.proofs.SpoolHolds.{is_out}
use Rattle.st_turn.specs.Calls.{IsTurn, Without}
use Rattle.st_turn.specs.Passes.{PassView, SharedView, IsOf, IsSame}
use Rattle.st_turn.specs.SpoolCalls.{IsAtHome, StaysAs, Releases, Holds}
use Rattle.st_turn.specs.Spools.{facts_of}
use Rattle.st_turn.proofs.Spooled.{stays_by}
use Rattle.st_seated.specs.Seats.{SeatView, Goes, Remains, SeesHolds, pass_holds, pass_set}
use Rattle.st_seated.proofs.Seen.{SeesMore, keeps, stay, sees_still, takes, one_more, sees_one, gives_back, one_less, sees_less}
use Rattle.st_seated.proofs.Turned.{asks_same, asked_same, asks_more, asked_all, seen_is, sees_more, remains, of_entry, set_of_size, whole_seen, within_seen}

-- the pass stays one of its spool
pub still_of : {S : Type 0} (s : SharedView S) (a b : PassView S) → IsOf s a → IsSame a b → IsOf s b
still_of s a b is same = (same.0 ∙ is.0, same.2 ∙ is.1)

-- a store over a pass, and what a call makes of it that takes no hold and gives none back
abbrev StaysSame : {D : Type 0} → (D → Option Log) → (D → ℕ) → SeatView (SpoolView D) → SeatView (SpoolView D) → Type 0
StaysSame log home x y =
    IsSameStore (Goes x y) (home x.shared.base.shelf) (home y.shared.base.shelf)
    (pass_holds (log x.shared.base.shelf) x.pass.state) (pass_holds (log y.shared.base.shelf) y.pass.state)
    (times_in x.pass.state.held) (times_in y.pass.state.held) size_of size_of
    (pass_set (log x.shared.base.shelf) x.pass.state) (pass_set (log y.shared.base.shelf) y.pass.state)

module _ {D : Type 0} (W : List ℕ → List ℕ → Type 0) (log : D → Option Log) (faults home : D → ℕ) (loans : D → LoansView) (s : SharedView (SpoolView D)) (a b : PassView (SpoolView D)) (v w : SpoolView D)
    (at : IsAtHome W log faults home s.base v) (turn : IsTurn (facts_of log faults home) v w a.state b.state) (is : IsSame a b) (sees : SeesHolds (log s.base.shelf) a.state) where
  -- a call that takes no hold and gives none back
  module _ (history : (facts_of log faults home w).history ≡ (facts_of log faults home v).history) (holds : w.state.holds ≡ v.state.holds) (halts : w.state.halts ≡ v.state.halts) (same : b.state.held ≡ a.state.held) where
    fewer : length w.state.holds ≤ length v.state.holds
    fewer = let e = ap length holds in omega (arith, e)

    on : SeesMore (log s.base.shelf) a.state b.state
    on = sees_more W log faults home loans v w a.state b.state turn s.base at history

    asks : b.state.asks ≡ a.state.asks
    asks = asks_same W log faults home loans v w a.state b.state turn fewer

    asked : b.state.asked ≡ a.state.asked
    asked = asked_same W log faults home loans v w a.state b.state turn fewer

    pub same_pass : Remains a b
    same_pass = remains W log faults home loans v w a.state b.state turn s.base at history a b refl refl is halts

    pub same_sees : SeesHolds (log s.base.shelf) b.state
    same_sees = sees_still (log s.base.shelf) a.state b.state on sees same asks asked

    pub same_holds : KeepsHolds (pass_holds (log s.base.shelf) a.state) (pass_holds (log s.base.shelf) b.state)
    same_holds = keeps (log s.base.shelf) a.state b.state on sees same asks asked

    pub same_held : StayHeld (times_in a.state.held) (times_in b.state.held) size_of size_of (pass_set (log s.base.shelf) a.state) (pass_set (log s.base.shelf) b.state)
    same_held = stay (log s.base.shelf) a.state b.state on sees same asks asked

  -- such a call that leaves the spool as it is but for its shelf, and one that leaves it whole
  stays_history : StaysAs W log faults home loans v w → (facts_of log faults home w).history ≡ (facts_of log faults home v).history
  stays_history stays = (stays_by log faults home W loans v w stays.keeps at.stands (ap (λ (x : SpoolView D). event_count x.state) stays.state)).0

  module _ (stays : StaysAs W log faults home loans v w) (same : b.state.held ≡ a.state.held) where
    state : w.state ≡ v.state
    state = ap (λ (x : SpoolView D). x.state) stays.state

    pub lends_sees : SeesHolds (log s.base.shelf) b.state
    lends_sees = same_sees (stays_history stays) (ap (λ (x : SpoolState). x.holds) state) (ap (λ (x : SpoolState). x.halts) state) same

    pub lends_store : StaysSame log home (record { shared = s; pass = a }) (record { shared = s; pass = b })
    lends_store = record {
      became = record { shared = refl; pass = same_pass (stays_history stays) (ap (λ (x : SpoolState). x.holds) state) (ap (λ (x : SpoolState). x.halts) state) same };
      id = refl;
      holds = same_holds (stays_history stays) (ap (λ (x : SpoolState). x.holds) state) (ap (λ (x : SpoolState). x.halts) state) same;
      others = same_held (stays_history stays) (ap (λ (x : SpoolState). x.holds) state) (ap (λ (x : SpoolState). x.halts) state) same;
    }

  module _ (still : w ≡ v) (same : b.state.held ≡ a.state.held) where
    still_history : (facts_of log faults home w).history ≡ (facts_of log faults home v).history
    still_history = ap (λ (x : SpoolView D). (facts_of log faults home x).history) still

    pub reads_sees : SeesHolds (log s.base.shelf) b.state
    reads_sees = same_sees still_history (ap (λ (x : SpoolView D). x.state.holds) still) (ap (λ (x : SpoolView D). x.state.halts) still) same

    pub reads_pass : Remains a b
    reads_pass = same_pass still_history (ap (λ (x : SpoolView D). x.state.holds) still) (ap (λ (x : SpoolView D). x.state.halts) still) same

    pub reads_holds : KeepsHolds (pass_holds (log s.base.shelf) a.state) (pass_holds (log s.base.shelf) b.state)
    reads_holds = same_holds still_history (ap (λ (x : SpoolView D). x.state.holds) still) (ap (λ (x : SpoolView D). x.state.halts) still) same

    pub reads_held : StayHeld (times_in a.state.held) (times_in b.state.held) size_of size_of (pass_set (log s.base.shelf) a.state) (pass_set (log s.base.shelf) b.state)
    reads_held = same_held still_history (ap (λ (x : SpoolView D). x.state.holds) still) (ap (λ (x : SpoolView D). x.state.halts) still) same

    pub reads_store : StaysSame log home (record { shared = s; pass = a }) (record { shared = s; pass = b })
    reads_store = record {
      became = record { shared = refl; pass = reads_pass };
      id = refl;
      holds = reads_holds;
      others = reads_held;
    }

  -- a hold that was taken
  module _ (one : Span) (state : (one ≡ whole_set v.state) × (w ≡ record v { state = with_hold v.state })) (more : b.state.held ≡ a.state.held ++ one ∷ []) where
    took_history : (facts_of log faults home w).history ≡ (facts_of log faults home v).history
    took_history = ap (λ (x : SpoolView D). (facts_of log faults home x).history) state.1

    took_more : w.state.holds ≡ v.state.holds ++ one ∷ []
    took_more = ap (λ (x : SpoolView D). x.state.holds) state.1 ∙ ap (λ (h : Span). v.state.holds ++ h ∷ []) (sym state.0)

    took_on : SeesMore (log s.base.shelf) a.state b.state
    took_on = sees_more W log faults home loans v w a.state b.state turn s.base at took_history

    took_asks : b.state.asks ≡ next_count a.state.asks
    took_asks = asks_more W log faults home loans v w a.state b.state turn one took_more

    took_asked : b.state.asked ≡ b.state.card.seen
    took_asked = asked_all W log faults home loans v w a.state b.state turn one took_more ∙ sym (seen_is W log faults home loans v w a.state b.state turn s.base at took_history)

    pub hold_pass : Remains a b
    hold_pass = remains W log faults home loans v w a.state b.state turn s.base at took_history a b refl refl is (ap (λ (x : SpoolView D). x.state.halts) state.1)

    pub hold_takes : {E : Type 0} → Holds W log faults home loans v w {E = E} (Ok one) → TakesHold (pass_set (log s.base.shelf) b.state one) (pass_holds (log s.base.shelf) a.state) (pass_holds (log s.base.shelf) b.state)
    hold_takes by =
        takes (log s.base.shelf) a.state b.state took_on sees one more took_asks took_asked
        (whole_seen W log faults home loans v w a.state b.state turn s.base at took_history one by.held_is)

    pub hold_more : HoldsOneMore one (times_in a.state.held) (times_in b.state.held) size_of size_of (pass_set (log s.base.shelf) a.state) (pass_set (log s.base.shelf) b.state)
    hold_more = one_more (log s.base.shelf) a.state b.state took_on sees one more took_asks took_asked

    pub hold_sees : {E : Type 0} → Holds W log faults home loans v w {E = E} (Ok one) → SeesHolds (log s.base.shelf) b.state
    hold_sees by =
        sees_one (log s.base.shelf) a.state b.state took_on sees one more took_asks took_asked
        (within_seen W log faults home loans v w a.state b.state turn s.base at took_history one took_more by.stands)

  -- a hold that was given back
  module _ (one : Span) (by : Releases W log faults home loans v w one) (less : Without one a.state.held b.state.held) where
    gave_history : (facts_of log faults home w).history ≡ (facts_of log faults home v).history
    gave_history = (stays_by log faults home W loans v w by.keeps at.stands (ap (λ (x : SpoolView D). event_count x.state) by.state)).0

    gave_fewer : length w.state.holds ≤ length v.state.holds
    gave_fewer = let shorter = length-remove v.state.holds by.without.0 by.without.1 in let e = ap length by.without.3 in omega (arith, shorter, e)

    gave_on : SeesMore (log s.base.shelf) a.state b.state
    gave_on = sees_more W log faults home loans v w a.state b.state turn s.base at gave_history

    gave_asks : b.state.asks ≡ a.state.asks
    gave_asks = asks_same W log faults home loans v w a.state b.state turn gave_fewer

    gave_asked : b.state.asked ≡ a.state.asked
    gave_asked = asked_same W log faults home loans v w a.state b.state turn gave_fewer

    pub release_pass : Remains a b
    release_pass = remains W log faults home loans v w a.state b.state turn s.base at gave_history a b refl refl is (ap (λ (x : SpoolView D). x.state.halts) by.state)

    pub release_back : Contains a.state.held one → GivesBack (pass_set (log s.base.shelf) a.state one) (pass_holds (log s.base.shelf) a.state) (pass_holds (log s.base.shelf) b.state)
    release_back mine = gives_back (log s.base.shelf) a.state b.state gave_on sees one less gave_asks gave_asked mine

    pub release_less : HoldsOneLess one (times_in a.state.held) (times_in b.state.held) size_of size_of (pass_set (log s.base.shelf) a.state) (pass_set (log s.base.shelf) b.state)
    release_less = one_less (log s.base.shelf) a.state b.state gave_on sees one less gave_asks gave_asked

    pub release_sees : SeesHolds (log s.base.shelf) b.state
    release_sees = sees_less (log s.base.shelf) a.state b.state gave_on sees one less gave_asks gave_asked

  -- what the store was before the call, as it is seen whole
  module _ (x : SeatView (SpoolView D)) (view : record { shared = s; pass = a } ≡ x) where
    pub is_mine : (hold : Span) → 0 < times_in x.pass.state.held hold → Contains a.state.held hold
    is_mine hold out = is_out hold a.state.held (subst (λ (y : SeatView (SpoolView D)). 0 < times_in y.pass.state.held hold) (sym view) out)

    pub stays_by_lending : StaysAs W log faults home loans v w → b.state.held ≡ a.state.held → StaysSame log home x (record { shared = s; pass = b })
    stays_by_lending stays same = subst (λ (y : SeatView (SpoolView D)). StaysSame log home y (record { shared = s; pass = b })) view (lends_store stays same)

    pub stays_by_reading : w ≡ v → b.state.held ≡ a.state.held → StaysSame log home x (record { shared = s; pass = b })
    stays_by_reading still same = subst (λ (y : SeatView (SpoolView D)). StaysSame log home y (record { shared = s; pass = b })) view (reads_store still same)

    -- of an entry of a hold, where the history of the spool stays
    pub entry_by : (facts_of log faults home w).history ≡ (facts_of log faults home v).history → (hold : Span) → 0 < times_in x.pass.state.held hold → (i : ℕ) (P : Entry → Type 0)
        → ((l : Log) (earlier h : List Event) (f : Files) (e : Entry) (after : List Entry) → log v.shelf ≡ Some l → StandsFor W (log v.shelf) v.state earlier h f → drop i (held hold h) ≡ e ∷ after → P e)
        → OfEntry (pass_set (log x.shared.base.shelf) x.pass.state hold) i P
    entry_by history hold out i P each =
        subst (λ (y : SeatView (SpoolView D)). OfEntry (pass_set (log y.shared.base.shelf) y.pass.state hold) i P) view
        (of_entry W log faults home loans v w a.state b.state turn s.base at history sees hold (is_mine hold out) i P each)

    pub lent_entry : StaysAs W log faults home loans v w → (hold : Span) → 0 < times_in x.pass.state.held hold → (i : ℕ) (P : Entry → Type 0)
        → ((l : Log) (earlier h : List Event) (f : Files) (e : Entry) (after : List Entry) → log v.shelf ≡ Some l → StandsFor W (log v.shelf) v.state earlier h f → drop i (held hold h) ≡ e ∷ after → P e)
        → OfEntry (pass_set (log x.shared.base.shelf) x.pass.state hold) i P
    lent_entry stays = entry_by (stays_history stays)

    pub read_entry : w ≡ v → (hold : Span) → 0 < times_in x.pass.state.held hold → (i : ℕ) (P : Entry → Type 0)
        → ((l : Log) (earlier h : List Event) (f : Files) (e : Entry) (after : List Entry) → log v.shelf ≡ Some l → StandsFor W (log v.shelf) v.state earlier h f → drop i (held hold h) ≡ e ∷ after → P e)
        → OfEntry (pass_set (log x.shared.base.shelf) x.pass.state hold) i P
    read_entry still = entry_by (ap (λ (y : SpoolView D). (facts_of log faults home y).history) still)

    pub size_by : w ≡ v → (hold : Span) → 0 < times_in x.pass.state.held hold → IsSetOfSize (pass_set (log x.shared.base.shelf) x.pass.state hold) (size_of hold)
    size_by still hold out =
        subst (λ (y : SeatView (SpoolView D)). IsSetOfSize (pass_set (log y.shared.base.shelf) y.pass.state hold) (size_of hold)) view
        (set_of_size W log faults home loans v w a.state b.state turn s.base at (ap (λ (y : SpoolView D). (facts_of log faults home y).history) still) sees hold (is_mine hold out))

    -- a hold, or none
    module _ {E : Type 0} where
      pub hold_sees_all : (result : Result Span E) → Holds W log faults home loans v w result → MatchResult result (λ k. b.state.held ≡ a.state.held ++ k ∷ []) (λ e. b.state.held ≡ a.state.held) → SeesHolds (log s.base.shelf) b.state
      hold_sees_all (Ok k) by more = hold_sees k by.state more by
      hold_sees_all (Err e) by same = reads_sees by.state same

      pub hold_holds : (result : Result Span E) → Holds W log faults home loans v w result → MatchResult result (λ k. b.state.held ≡ a.state.held ++ k ∷ []) (λ e. b.state.held ≡ a.state.held)
          → MatchResult result (λ k. TakesHold (pass_set (log s.base.shelf) b.state k) (pass_holds (log x.shared.base.shelf) x.pass.state) (pass_holds (log s.base.shelf) b.state))
          (λ e. KeepsHolds (pass_holds (log x.shared.base.shelf) x.pass.state) (pass_holds (log s.base.shelf) b.state))
      hold_holds (Ok k) by more = subst (λ (y : SeatView (SpoolView D)). TakesHold (pass_set (log s.base.shelf) b.state k) (pass_holds (log y.shared.base.shelf) y.pass.state) (pass_holds (log s.base.shelf) b.state)) view (hold_takes k by.state more by)
      hold_holds (Err e) by same = subst (λ (y : SeatView (SpoolView D)). KeepsHolds (pass_holds (log y.shared.base.shelf) y.pass.state) (pass_holds (log s.base.shelf) b.state)) view (reads_holds by.state same)

      pub hold_held : (result : Result Span E) → Holds W log faults home loans v w result → MatchResult result (λ k. b.state.held ≡ a.state.held ++ k ∷ []) (λ e. b.state.held ≡ a.state.held)
          → MatchResult result (λ k. HoldsOneMore k (times_in x.pass.state.held) (times_in b.state.held) size_of size_of (pass_set (log x.shared.base.shelf) x.pass.state) (pass_set (log s.base.shelf) b.state))
          (λ e. StayHeld (times_in x.pass.state.held) (times_in b.state.held) size_of size_of (pass_set (log x.shared.base.shelf) x.pass.state) (pass_set (log s.base.shelf) b.state))
      hold_held (Ok k) by more = subst (λ (y : SeatView (SpoolView D)). HoldsOneMore k (times_in y.pass.state.held) (times_in b.state.held) size_of size_of (pass_set (log y.shared.base.shelf) y.pass.state) (pass_set (log s.base.shelf) b.state)) view (hold_more k by.state more)
      hold_held (Err e) by same = subst (λ (y : SeatView (SpoolView D)). StayHeld (times_in y.pass.state.held) (times_in b.state.held) size_of size_of (pass_set (log y.shared.base.shelf) y.pass.state) (pass_set (log s.base.shelf) b.state)) view (reads_held by.state same)

      pub hold_becomes : (result : Result Span E) → Holds W log faults home loans v w result → MatchResult result (λ k. b.state.held ≡ a.state.held ++ k ∷ []) (λ e. b.state.held ≡ a.state.held) → Goes x (record { shared = s; pass = b })
      hold_becomes (Ok k) by more = subst (λ (y : SeatView (SpoolView D)). Goes y (record { shared = s; pass = b })) view (record { shared = refl; pass = hold_pass k by.state more })
      hold_becomes (Err e) by same = subst (λ (y : SeatView (SpoolView D)). Goes y (record { shared = s; pass = b })) view (record { shared = refl; pass = reads_pass by.state same })

    -- a release
    module _ (one : Span) (by : Releases W log faults home loans v w one) (less : Without one a.state.held b.state.held) where
      pub release_holds : 0 < times_in x.pass.state.held one → GivesBack (pass_set (log x.shared.base.shelf) x.pass.state one) (pass_holds (log x.shared.base.shelf) x.pass.state) (pass_holds (log s.base.shelf) b.state)
      release_holds out =
          subst (λ (y : SeatView (SpoolView D)). GivesBack (pass_set (log y.shared.base.shelf) y.pass.state one) (pass_holds (log y.shared.base.shelf) y.pass.state) (pass_holds (log s.base.shelf) b.state)) view
          (release_back one by less (is_mine one out))

      pub release_held : HoldsOneLess one (times_in x.pass.state.held) (times_in b.state.held) size_of size_of (pass_set (log x.shared.base.shelf) x.pass.state) (pass_set (log s.base.shelf) b.state)
      release_held =
          subst (λ (y : SeatView (SpoolView D)). HoldsOneLess one (times_in y.pass.state.held) (times_in b.state.held) size_of size_of (pass_set (log y.shared.base.shelf) y.pass.state) (pass_set (log s.base.shelf) b.state)) view
          (release_less one by less)

      pub release_becomes : Goes x (record { shared = s; pass = b })
      release_becomes = subst (λ (y : SeatView (SpoolView D)). Goes y (record { shared = s; pass = b })) view (record { shared = refl; pass = release_pass one by less })
