-- What the calls of a spool make of its history, of its holds and of what it keeps.
use Rattle.std.proofs.Common.{◌≡◌, ◌<◌, max, inl, inr, ℕ, ◌+◌, ◌≤◌, zero, suc, List, [], ◌∷◌, ◌++◌, length, replicate, drop, Option, Some, None, Result, Ok, Err, Bool, true, false, ⊎_elim, ◌-◌, refl, sym, ◌∙◌, ap, ap₂, subst, arith, append-nil, add_assoc, length-drop, length-append}
use Rattle.std.specs.Prelude.{option_map, MatchResult}
use Rattle.std.proofs.lemmas.List.{length-map}
use mathlib.Core.Logic.{dite}
use native.Mathlib.Decide.{dec_lt}
use Rattle.st_base.specs.Faults.{next_count}
use Rattle.st_disk.specs.Disks.{Log}
use Rattle.st_disk.specs.LoggedCalls.{KnownBefore}
use Rattle.st_disk.specs.Pairs.{Entry, Files, files_of}
use Rattle.st_disk.specs.Events.{Event, Found, Publish, Remove}
use Rattle.st_disk.proofs.Runs.{grew_none, known_then}
use Rattle.st_spool.specs.declared.state.Span.{Span}
use Rattle.st_spool.specs.declared.state.Doubt.{Doubt}
use Rattle.st_spool.specs.States.{SpoolState, SpoolView}
use Rattle.st_spool.specs.Standing.{StandsFor, Stands, NoDoubtUntilHalted}
use Rattle.st_spool.specs.Recalling.{history_of, event_count}
use Rattle.st_disk.specs.Folders.{given}
use Rattle.st_shelf.specs.declared.shelves.SealedPair.{SealedPair}
use Rattle.st_spool.specs.Settling.{files, entry}
use Rattle.st_spool.specs.Publishing.{Keeps, MayPublish, next_stamp, published}
use Rattle.st_spool.specs.declared.refusals.PublishErr.{PublishErr}
use Rattle.st_spool.specs.declared.refusals.PublishErr.TheVariants as publish
use Rattle.st_spool.specs.History.{set_of, entries_of}
use Rattle.st_spool.specs.Aging.{pair_count, MayAge, aged}
use Rattle.st_spool.specs.Holding.{whole_set, with_hold}
use Rattle.st_spool.specs.declared.refusals.AgeErr.{AgeErr}
use Rattle.st_spool.specs.declared.refusals.AgeErr.TheVariants as age
use Rattle.st_spool.proofs.Remembered.{history_stays, failed_stays, published_goes_on, removed_goes_on}
use Rattle.st_shelf.specs.Loans.{LoansView}
use Rattle.st_turn.specs.Parts.{PassState}
use Rattle.st_turn.specs.Calls.{MayTurn, HeldAfter, IsTurn}
use Rattle.st_turn.specs.SpoolCalls.{StaysAs, AgesBy, age_stopped, PublishesBy, publish_stopped}
use Rattle.st_turn.specs.Spools.{told_history, facts_of, KeepsImages, KeepsOf, StaysKnown}
use Rattle.st_turn.proofs.Totals.{begins_self, begins_on}
use Rattle.st_turn.proofs.Imaged.{images_self, images_held, images_still, images_more, images_fault}

-- the unknown history goes on by one event, too
more_blank : (n : ℕ) → replicate (n + 1 + 1) (Found []) ≡ replicate (n + 1) (Found []) ++ Found [] ∷ []
more_blank n = ap (λ (k : ℕ). replicate k (Found [])) (let e : n + 1 + 1 ≡ (n + 1) + 1 = omega arith in e) ∙ snoc (n + 1)
  where
    snoc : (k : ℕ) → replicate (k + 1) (Found []) ≡ replicate k (Found []) ++ Found [] ∷ []
    snoc k = ap (λ (j : ℕ). replicate j (Found [])) (let e : k + 1 ≡ suc k = omega arith in e) ∙ up k
      where
        up : (k : ℕ) → replicate (suc k) (Found []) ≡ replicate k (Found []) ++ Found [] ∷ []
        up zero = refl
        up (suc k) = ap (λ (l : List Event). Found [] ∷ l) (up k)

-- the call that stops a spool is counted
first_stop : (halted : Option ℕ) (d : Doubt) (was now : ℕ) → NoDoubtUntilHalted halted d was → halted ≡ None → now ≡ next_count was → was < now
first_stop None d was now no_doubt sound up = let none = no_doubt.1 in grind arith
first_stop (Some since) d was now no_doubt sound up = absurd (cc)

last_more : (last floor s : ℕ) → s ≡ next_stamp last floor → s ≡ max last s
last_more last floor s is = grind arith

-- as a history stays, so does what is told of it
told_stays : (a b : Option (List Event)) (m n : ℕ) → b ≡ a → n ≡ m → told_history b n ≡ told_history a m
told_stays a b m n e f = ap₂ told_history e f

told_goes_on : (a b : Option (List Event)) (m n : ℕ) (e : Event) → b ≡ option_map (λ past. past ++ e ∷ []) a → n ≡ m + 1 → (d : Event) × (told_history b (n + 1) ≡ told_history a (m + 1) ++ d ∷ [])
told_goes_on None b m n e is size = (Found [], ap₂ told_history is (ap (λ k. k + 1) size) ∙ more_blank m)
told_goes_on (Some h) b m n e is size = (e, ap (λ (o : Option (List Event)). told_history o (n + 1)) is)

still_then : (a b c : Option Log) → StaysKnown a b → StaysKnown b c → StaysKnown a c
still_then a b c first second l e = let p = first l e in second p.0 p.1

module _ {D : Type 0} (log : D → Option Log) (faults home : D → ℕ) where
  -- a call after which the history stays or has an event more
  pub keeps_on : (b x y : SpoolView D) (more : List Event) → home y.shelf ≡ home x.shelf → y.state.limit ≡ x.state.limit → faults x.shelf ≤ faults y.shelf → (facts_of log faults home y).history ≡ (facts_of log faults home x).history ++ more → KnownBefore (log x.shelf) (log y.shelf) → StaysKnown (log x.shelf) (log y.shelf)
      → ((first now : Log) → log b.shelf ≡ Some first → log y.shelf ≡ Some now → KeepsImages b.state y.state first now) → KeepsOf log faults home b x → KeepsOf log faults home b y
  keeps_on b x y more same limit later grows known still images k =
      record {
        shelf = same ∙ k.shelf;
        limit = limit ∙ k.limit;
        later = let a = k.later in omega arith;
        history = begins_on (facts_of log faults home b).history (facts_of log faults home x).history (facts_of log faults home y).history more k.history grows;
        known = known_then (log b.shelf) (log x.shelf) (log y.shelf) k.known known;
        still_known = still_then (log b.shelf) (log x.shelf) (log y.shelf) k.still_known still;
        images = images;
      }

  -- a state of a spool keeps all of itself
  pub keeps_self : (W : List ℕ → List ℕ → Type 0) (x : SpoolView D) → Stands W (log x.shelf) x.state → KeepsOf log faults home x x
  keeps_self W x stands = record {
    shelf = refl;
    limit = refl;
    later = omega arith;
    history = begins_self (facts_of log faults home x).history;
    known = λ l e. (l, e, grew_none l);
    still_known = λ l e. (l, e);
    images = images_self W (log x.shelf) x.state stands.0 stands.1 stands.2 stands.3;
  }

  module _ (W : List ℕ → List ℕ → Type 0) (loans : D → LoansView) where
    -- a call with no event
    pub stays_by : (x y : SpoolView D) → ((earlier h : List Event) (f : Files) → StandsFor W (log x.shelf) x.state earlier h f → Keeps W (log x.shelf) (log y.shelf) y.state earlier h f) → Stands W (log x.shelf) x.state → event_count y.state ≡ event_count x.state
        → ((facts_of log faults home y).history ≡ (facts_of log faults home x).history) × KnownBefore (log x.shelf) (log y.shelf) × StaysKnown (log x.shelf) (log y.shelf)
    stays_by x y keeps stands size =
        let k = keeps stands.0 stands.1 stands.2 stands.3 in
        (told_stays (history_of log x) (history_of log y) (event_count x.state + 1) (event_count y.state + 1) (history_stays W (log x.shelf) (log y.shelf) x.state y.state stands.0 stands.1 stands.2 stands.2 stands.3 k) (ap (λ n. n + 1) size), k.known, λ l e. let run = k.images l e in (run.log, run.is))

    -- it may be a turn
    pub still_turn : (x y : SpoolView D) (holds : List Span) → StaysAs W log faults home loans x y → Stands W (log x.shelf) x.state → faults x.shelf ≤ faults y.shelf
        → MayTurn (facts_of log faults home) (KeepsOf log faults home) x y holds holds false
    still_turn x y holds stays stands later =
        let state : y.state ≡ x.state = ap (λ (s : SpoolView D). s.state) stays.state in
        let both = stays_by x y stays.keeps stands (ap event_count state) in
        record {
          history = inl both.0;
          holds = inl (ap (λ (s : SpoolState). s.holds) state, refl);
          later = later;
          halts = ap (λ (s : SpoolState). s.halts) state;
          rose = λ (e : false ≡ true). absurd (cc);
          one = λ (e : false ≡ true). absurd (cc);
          keeps = λ b k. keeps_on b x y [] stays.shelf (ap (λ (s : SpoolState). s.limit) state) later (both.0 ∙ sym (append-nil (facts_of log faults home x).history)) both.1 both.2
              (images_still W b.state x.state y.state (log b.shelf) (log x.shelf) (log y.shelf) stands.0 stands.1 stands.2 stands.3 k.images (ap (λ (s : SpoolState). s.last) state) (stays.keeps stands.0 stands.1 stands.2 stands.3)) k;
        }

    -- a call that leaves the shelf and the history, with these holds
    unmoved : (x y : SpoolView D) (held next : List Span) → y.shelf ≡ x.shelf → (facts_of log faults home y).history ≡ (facts_of log faults home x).history → y.state.limit ≡ x.state.limit → y.state.halts ≡ x.state.halts → HeldAfter x.state.holds y.state.holds held next
        → ((b : SpoolState) (first now : Log) → KeepsImages b x.state first now → KeepsImages b y.state first now) → MayTurn (facts_of log faults home) (KeepsOf log faults home) x y held next false
    unmoved x y held next shelf same limit halts holds images =
        let count : faults y.shelf ≡ faults x.shelf = ap faults shelf in
        record {
          history = inl same;
          holds = holds;
          later = omega arith;
          halts = halts;
          rose = λ (e : false ≡ true). absurd (cc);
          one = λ (e : false ≡ true). absurd (cc);
          keeps = λ b k. keeps_on b x y [] (ap home shelf) limit (omega arith) (same ∙ sym (append-nil (facts_of log faults home x).history)) (λ l e. (l, sym (ap log shelf) ∙ e, grew_none l)) (λ l e. (l, ap log shelf ∙ e)) (λ first now begins is. images b.state first now (k.images first now begins (sym (ap log shelf) ∙ is))) k;
        }

    pub idle_turn : (x y : SpoolView D) (held : List Span) → y ≡ x → MayTurn (facts_of log faults home) (KeepsOf log faults home) x y held held false
    idle_turn x y held e = unmoved x y held held (ap (λ (s : SpoolView D). s.shelf) e) (ap (λ (s : SpoolView D). (facts_of log faults home s).history) e) (ap (λ (s : SpoolView D). s.state.limit) e) (ap (λ (s : SpoolView D). s.state.halts) e) (inl (ap (λ (s : SpoolView D). s.state.holds) e, refl))
        (λ b first now kept. subst (λ (s : SpoolState). KeepsImages b s first now) (sym (ap (λ (s : SpoolView D). s.state) e)) kept)

    -- a hold
    pub hold_turn : {F : Type 0} (x y : SpoolView D) (held : List Span) (result : Result Span F) → MatchResult result (λ k. (k ≡ whole_set x.state) × (y ≡ record x { state = with_hold x.state })) (λ e. y ≡ x)
        → (next : List Span) × MayTurn (facts_of log faults home) (KeepsOf log faults home) x y held next false
    hold_turn x y held (Ok k) state = (
      held ++ whole_set x.state ∷ [],
      unmoved x y held (held ++ whole_set x.state ∷ []) (ap (λ (s : SpoolView D). s.shelf) state.1) (ap (λ (s : SpoolView D). (facts_of log faults home s).history) state.1) (ap (λ (s : SpoolView D). s.state.limit) state.1) (ap (λ (s : SpoolView D). s.state.halts) state.1) (inr (inl (whole_set x.state, ap (λ (s : SpoolView D). s.state.holds) state.1, refl)))
          (λ b first now kept. subst (λ (s : SpoolState). KeepsImages b s first now) (sym (ap (λ (s : SpoolView D). s.state) state.1)) (images_held b x.state first now kept)),
    )
    hold_turn x y held (Err e) state = (held, idle_turn x y held state)

    -- an ageing
    first_of : (known : Option Log) (st : SpoolState) (earlier h : List Event) (f : Files) → StandsFor W known st earlier h f → MayAge st → (e : Entry) × (after : List Entry) × (set_of h ≡ e ∷ after)
    first_of known st earlier h f s may = by_set (set_of h) s.set
      where
        by_set : (set : List Entry) → set ≡ drop st.removed (entries_of h) → (e : Entry) × (after : List Entry) × (set ≡ e ∷ after)
        by_set (e ∷ after) is = (e, after, refl)
        by_set [] is = absurd (
            let a : 0 ≡ length (entries_of h) - st.removed = ap length is ∙ length-drop st.removed (entries_of h) in
            let b : length (entries_of h) ≡ length st.stamps = sym (length-map (entries_of h) (λ (e : Entry). e.stamp)) ∙ ap length s.stamps in
            let c = may.1 in omega arith)

    pub age_turn : (x y : SpoolView D) (held : List Span) (result : Result Bool AgeErr) → AgesBy W log faults home loans x y result → Stands W (log x.shelf) x.state
        → MayTurn (facts_of log faults home) (KeepsOf log faults home) x y held held (age_stopped result)
    age_turn x y held (Ok true) a stands =
        let may = may_of x y a stands in
        let first = first_of (log x.shelf) x.state stands.0 stands.1 stands.2 stands.3 may in
        let removes = a.aged stands.0 stands.1 stands.2 first.0 first.1 may stands.3 first.2 in
        let state : y.state ≡ aged x.state y.state.swept = a.state may in
        let size : event_count y.state ≡ event_count x.state + 1 = ap event_count state ∙ sym (add_assoc (length x.state.stamps - x.state.found) x.state.removed 1) in
        let grows = told_goes_on (history_of log x) (history_of log y) (event_count x.state) (event_count y.state) (Remove first.0.stamp) (removed_goes_on W (log x.shelf) (log y.shelf) x.state y.state stands.0 stands.1 first.0 stands.2 stands.2 stands.3 removes) size in
        record {
          history = inr (grows.0, grows.1);
          holds = inl (a.rest.3, refl);
          later = a.cause.0;
          halts = ap (λ (s : SpoolState). s.halts) state;
          rose = λ (e : false ≡ true). absurd (cc);
          one = λ (e : false ≡ true). absurd (cc);
          keeps = λ b k. keeps_on b x y (grows.0 ∷ []) a.rest.0 (ap (λ (s : SpoolState). s.limit) state) a.cause.0 grows.1 removes.known (λ l e. let run = removes.images l e in (run.log, run.is))
              (images_more W b.state x.state y.state (log b.shelf) (log x.shelf) (log y.shelf) stands.0 stands.1 stands.2 stands.3 k.images (Remove first.0.stamp) stands.2 (ap (λ (s : SpoolState). s.last) state) may.0 removes.known removes.stands removes.images) k;
        }
      where
        may_of : (x y : SpoolView D) → AgesBy W log faults home loans x y (Ok true) → Stands W (log x.shelf) x.state → MayAge x.state
        may_of x y a stands =
            (a.refused, dite (dec_lt x.state.limit (pair_count x.state)) (λ h. h) (λ h. absurd (let e : Ok true ≡ Ok false = (a.small a.refused).1 (omega arith) in cc)))
    age_turn x y held (Ok false) a stands = idle_turn x y held (a.same refl)
    age_turn x y held (Err age.DiskFault) a stands =
        let may : MayAge x.state = a.refused in
        let first = first_of (log x.shelf) x.state stands.0 stands.1 stands.2 stands.3 may in
        let fails = (a.aged stands.0 stands.1 stands.2 first.0 first.1 may stands.3 first.2).fails in
        let states = a.state may in
        let size : event_count y.state ≡ event_count x.state = ⊎_elim (λ e. ap event_count e) (λ e. ap event_count e) states in
        let halts : y.state.halts ≡ next_count x.state.halts = ⊎_elim (λ e. ap (λ (s : SpoolState). s.halts) e) (λ e. ap (λ (s : SpoolState). s.halts) e) states in
        let limit : y.state.limit ≡ x.state.limit = ⊎_elim (λ e. ap (λ (s : SpoolState). s.limit) e) (λ e. ap (λ (s : SpoolState). s.limit) e) states in
        let last : y.state.last ≡ x.state.last = ⊎_elim (λ e. ap (λ (s : SpoolState). s.last) e) (λ e. ap (λ (s : SpoolState). s.last) e) states in
        let same = told_stays (history_of log x) (history_of log y) (event_count x.state + 1) (event_count y.state + 1) (failed_stays W (log x.shelf) (log y.shelf) x.state y.state stands.0 stands.1 stands.2 (files_of first.0) stands.3 fails) (ap (λ n. n + 1) size) in
        record {
          history = inl same;
          holds = inl (a.rest.3, refl);
          later = a.cause.0;
          halts = halts;
          rose = λ e. a.cause.1 refl;
          one = λ e. first_stop x.state.halted x.state.doubt x.state.halts y.state.halts stands.3.no_doubt may.0 halts;
          keeps = λ b k. keeps_on b x y [] a.rest.0 limit a.cause.0 (same ∙ sym (append-nil (facts_of log faults home x).history)) fails.known (λ l e. let run = fails.images l e in (run.log, run.is))
              (images_fault W b.state x.state y.state (log b.shelf) (log x.shelf) (log y.shelf) stands.0 stands.1 stands.2 stands.3 k.images (files_of first.0) last may.0 fails) k;
        }
    age_turn x y held (Err (age.Halted since)) a stands = idle_turn x y held a.refused.1

    -- a publication
    pub publish_turn : {T F : Type 0} (bytes : F → Option (List ℕ)) (x y : SpoolView D) (held : List Span) (pair : SealedPair T F) (floor : ℕ) (result : Result ℕ (PublishErr T F)) → PublishesBy W log faults home loans x y bytes pair floor result → Stands W (log x.shelf) x.state
        → MayTurn (facts_of log faults home) (KeepsOf log faults home) x y held held (publish_stopped result)
    publish_turn bytes x y held pair floor (Ok s) a stands =
        let may : MayPublish x.state = a.refused in
        let done = a.published stands.0 stands.1 stands.2 may stands.3 in
        let state : y.state ≡ published x.state s = (a.state may).1 in
        let found = stands.3.found in
        let last : y.state.last ≡ max x.state.last s = ap (λ (s : SpoolState). s.last) state ∙ last_more x.state.last floor s (a.state may).0 in
        let long : length (published x.state s).stamps ≡ length x.state.stamps + 1 = length-append x.state.stamps (s ∷ []) in
        let size : event_count y.state ≡ event_count x.state + 1 = ap event_count state ∙ (let e : event_count (published x.state s) ≡ event_count x.state + 1 = omega arith in e) in
        let grows = told_goes_on (history_of log x) (history_of log y) (event_count x.state) (event_count y.state) (Publish (entry s (files (given (bytes pair.block)) (given (bytes pair.index))))) (published_goes_on W (log x.shelf) (log y.shelf) x.state y.state stands.0 stands.1 (entry s (files (given (bytes pair.block)) (given (bytes pair.index)))) stands.2 stands.2 stands.3 done) size in
        record {
          history = inr (grows.0, grows.1);
          holds = inl (a.rest.2, refl);
          later = a.cause.later;
          halts = ap (λ (s : SpoolState). s.halts) state;
          rose = λ (e : false ≡ true). absurd (cc);
          one = λ (e : false ≡ true). absurd (cc);
          keeps = λ b k. keeps_on b x y (grows.0 ∷ []) a.rest.0 (ap (λ (s : SpoolState). s.limit) state) a.cause.later grows.1 done.known (λ l e. let run = done.images l e in (run.log, run.is))
              (images_more W b.state x.state y.state (log b.shelf) (log x.shelf) (log y.shelf) stands.0 stands.1 stands.2 stands.3 k.images (Publish (entry s (files (given (bytes pair.block)) (given (bytes pair.index))))) stands.2 last may.0 done.known done.stands done.images) k;
        }
    publish_turn bytes x y held pair floor (Err publish.DiskFault) a stands =
        let may : MayPublish x.state = a.refused in
        let fails = a.published stands.0 stands.1 stands.2 may stands.3 in
        let states = (a.state may).1 in
        let size : event_count y.state ≡ event_count x.state = ⊎_elim (λ e. ap event_count e) (λ e. ap event_count e) states in
        let halts : y.state.halts ≡ next_count x.state.halts = ⊎_elim (λ e. ap (λ (s : SpoolState). s.halts) e) (λ e. ap (λ (s : SpoolState). s.halts) e) states in
        let limit : y.state.limit ≡ x.state.limit = ⊎_elim (λ e. ap (λ (s : SpoolState). s.limit) e) (λ e. ap (λ (s : SpoolState). s.limit) e) states in
        let last : y.state.last ≡ x.state.last = ⊎_elim (λ e. ap (λ (s : SpoolState). s.last) e) (λ e. ap (λ (s : SpoolState). s.last) e) states in
        let same = told_stays (history_of log x) (history_of log y) (event_count x.state + 1) (event_count y.state + 1) (failed_stays W (log x.shelf) (log y.shelf) x.state y.state stands.0 stands.1 stands.2 (files (given (bytes pair.block)) (given (bytes pair.index))) stands.3 fails) (ap (λ n. n + 1) size) in
        record {
          history = inl same;
          holds = inl (a.rest.2, refl);
          later = a.cause.later;
          halts = halts;
          rose = λ e. a.cause.failed refl;
          one = λ e. first_stop x.state.halted x.state.doubt x.state.halts y.state.halts stands.3.no_doubt may.0 halts;
          keeps = λ b k. keeps_on b x y [] a.rest.0 limit a.cause.later (same ∙ sym (append-nil (facts_of log faults home x).history)) fails.known (λ l e. let run = fails.images l e in (run.log, run.is))
              (images_fault W b.state x.state y.state (log b.shelf) (log x.shelf) (log y.shelf) stands.0 stands.1 stands.2 stands.3 k.images (files (given (bytes pair.block)) (given (bytes pair.index))) last may.0 fails) k;
        }
    publish_turn bytes x y held pair floor (Err (publish.Halted since back)) a stands = idle_turn x y held a.refused.1
    publish_turn bytes x y held pair floor (Err (publish.StampsSpent last back)) a stands = idle_turn x y held a.refused.3

    -- room that was made before a call
    pub spare_turn : (x r y : SpoolView D) (n : ℕ) (held next : List Span) (stopped : Bool) → r ≡ record x { spare = n } → MayTurn (facts_of log faults home) (KeepsOf log faults home) r y held next stopped
        → MayTurn (facts_of log faults home) (KeepsOf log faults home) x y held next stopped
    spare_turn x r y n held next stopped is m =
        let t : MayTurn (facts_of log faults home) (KeepsOf log faults home) (record x { spare = n }) y held next stopped = subst (λ (s : SpoolView D). MayTurn (facts_of log faults home) (KeepsOf log faults home) s y held next stopped) is m in
        record {
          history = t.history;
          holds = t.holds;
          later = t.later;
          halts = t.halts;
          rose = t.rose;
          one = t.one;
          keeps = λ b k. t.keeps b (record { shelf = k.shelf; limit = k.limit; later = k.later; history = k.history; known = k.known; still_known = k.still_known; images = k.images });
        }

    pub room_turn : (x r : SpoolView D) (n : ℕ) (held : List Span) → r ≡ record x { spare = n } → MayTurn (facts_of log faults home) (KeepsOf log faults home) x r held held false
    room_turn x r n held is = unmoved x r held held (ap (λ (s : SpoolView D). s.shelf) is) (ap (λ (s : SpoolView D). (facts_of log faults home s).history) is) (ap (λ (s : SpoolView D). s.state.limit) is) (ap (λ (s : SpoolView D). s.state.halts) is) (inl (ap (λ (s : SpoolView D). s.state.holds) is, refl))
        (λ b first now kept. subst (λ (s : SpoolState). KeepsImages b s first now) (sym (ap (λ (s : SpoolView D). s.state) is)) kept)

    pub room_stands : (x r : SpoolView D) (n : ℕ) → r ≡ record x { spare = n } → Stands W (log x.shelf) x.state → Stands W (log r.shelf) r.state
    room_stands x r n is stands = subst (λ (s : SpoolView D). Stands W (log s.shelf) s.state) (sym is) stands

    pub room_is_turn : (x r : SpoolView D) (n : ℕ) (y : SpoolView D) (p q : PassState (SpoolView D) Event Span) → r ≡ record x { spare = n } → IsTurn (facts_of log faults home) x y p q → IsTurn (facts_of log faults home) r y p q
    room_is_turn x r n y p q is t =
        subst (λ (s : SpoolView D). IsTurn (facts_of log faults home) s y p q) (sym is)
        (record { before = t.before; history = t.history; after = t.after; own = t.own; failed = t.failed; stops = t.stops; halts = t.halts; held = t.held; asks = t.asks; asked = t.asked; rest = t.rest })
