-- What a turn without an event makes of its pass.
use Rattle.std.proofs.Common.{◌≡◌, ◌≤◌, ◌+◌, ◌-◌, ◌^◌, ⊎_elim, ℕ, suc, List, [], ◌∷◌, ◌++◌, length, drop, get_or, min, Bool, true, false, cond, nat_le, nat_lt, Option, None, Some, Contains, refl, sym, ◌∙◌, ap, subst, arith, length-append, length-drop}
use Rattle.std.specs.Prelude.{option_map}
use Rattle.std.proofs.Math.Seq.{drop-cons}
use Rattle.std.proofs.lemmas.List.{length-take}
use Rattle.std.proofs.lemmas.List.Elements.{Contains-push}
use Rattle.st_base.specs.Faults.{Rose, next_count}
use Rattle.st_disk.specs.Disks.{Log}
use Rattle.st_disk.specs.Events.{Event}
use Rattle.st_disk.specs.Pairs.{Entry, Files, IsFileSet}
use Rattle.st_shelf.specs.Loans.{LoansView}
use Rattle.st_spool.specs.History.{entries_of, set_of, Legal}
use Rattle.st_spool.specs.Holding.{size_of}
use Rattle.st_spool.specs.Recalling.{history, event_count}
use Rattle.st_spool.specs.Standing.{StandsFor}
use Rattle.st_spool.specs.States.{SpoolView, held, IsWithin}
use Rattle.st_spool.specs.declared.state.Span.{Span}
use Rattle.st_answer.specs.Stores.{IsSetOfSize, OfEntry}
use Rattle.st_spool.proofs.Keeping.{by_test}
use Rattle.st_turn.specs.Calls.{IsTurn, has_more}
use Rattle.st_turn.specs.Parts.{PassState}
use Rattle.st_turn.specs.Passes.{PassView, IsSame}
use Rattle.st_turn.specs.SpoolCalls.{IsAtHome}
use Rattle.st_turn.specs.Spools.{facts_of, told_history}
use Rattle.st_turn.specs.Steps.{has_risen}
use Rattle.st_seated.specs.Seats.{pass_set, pass_faults, Remains, SeesHolds}
use Rattle.st_seated.proofs.Grown.{entries_more, held_on, set_drop, set_take}
use Rattle.st_seated.proofs.Seen.{SeesMore}

-- a list that isn't longer, and one that is
module _ {A : Type 0} where
  not_more : (xs ys : List A) → length ys ≤ length xs → has_more xs ys ≡ false
  not_more xs ys le = by_test (nat_lt (length xs) (length ys)) (λ b. b ≡ false) (λ e. absurd (grind arith)) (λ e. refl)

  more_by_one : (xs ys : List A) (x : A) → ys ≡ xs ++ x ∷ [] → has_more xs ys ≡ true
  more_by_one xs ys x is =
      let a = ap length is in
      let b = length-append xs (x ∷ []) in
      by_test (nat_lt (length xs) (length ys)) (λ b. b ≡ true) (λ e. refl) (λ e. absurd (grind arith))

-- a count of turns never falls, as far as a u64 counts, and rose with the shelf's
counts_later : (b : Bool) (n m : ℕ) → m ≡ cond b (next_count n) n → min n (2 ^ 64 - 1) ≤ min m (2 ^ 64 - 1)
counts_later true n m is = omega (arith, is)
counts_later false n m is = omega (arith, is)

counts_rise : (before now n m : ℕ) → m ≡ cond (has_risen before now) (next_count n) n → Rose before now → Rose (min n (2 ^ 64 - 1)) (min m (2 ^ 64 - 1))
counts_rise before now n m is rose =
    let risen : has_risen before now ≡ true = by_test (nat_le (next_count before) now) (λ b. b ≡ true) (λ e. refl) (λ e. absurd (grind arith)) in
    let next : m ≡ next_count n = is ∙ ap (λ (b : Bool). cond b (next_count n) n) risen in
    omega (arith, next)

module _ {D : Type 0} (W : List ℕ → List ℕ → Type 0) (log : D → Option Log) (faults home : D → ℕ) (loans : D → LoansView) (v w : SpoolView D) (p q : PassState (SpoolView D) Event Span)
    (turn : IsTurn (facts_of log faults home) v w p q) where
  -- the counts
  pub faults_later : pass_faults p ≤ pass_faults q
  faults_later = counts_later (has_risen (faults v.shelf) (faults w.shelf)) p.card.failed q.card.failed turn.failed

  pub faults_rise : Rose (faults v.shelf) (faults w.shelf) → Rose (pass_faults p) (pass_faults q)
  faults_rise rose = counts_rise (faults v.shelf) (faults w.shelf) p.card.failed q.card.failed turn.failed rose

  -- the holds of the spool didn't become more
  module _ (fewer : length w.state.holds ≤ length v.state.holds) where
    pub asks_same : q.asks ≡ p.asks
    asks_same = turn.asks ∙ ap (λ (b : Bool). cond b (next_count p.asks) p.asks) (not_more v.state.holds w.state.holds fewer)

    pub asked_same : q.asked ≡ p.asked
    asked_same = turn.asked ∙ ap (λ (b : Bool). cond b (facts_of log faults home v).history p.asked) (not_more v.state.holds w.state.holds fewer)

  -- there is one more
  module _ (one : Span) (more : w.state.holds ≡ v.state.holds ++ one ∷ []) where
    pub asks_more : q.asks ≡ next_count p.asks
    asks_more = turn.asks ∙ ap (λ (b : Bool). cond b (next_count p.asks) p.asks) (more_by_one v.state.holds w.state.holds one more)

    pub asked_all : q.asked ≡ (facts_of log faults home v).history
    asked_all = turn.asked ∙ ap (λ (b : Bool). cond b (facts_of log faults home v).history p.asked) (more_by_one v.state.holds w.state.holds one more)

  -- the history stayed
  module _ (base : SpoolView D) (at : IsAtHome W log faults home base v)
      (same : (facts_of log faults home w).history ≡ (facts_of log faults home v).history) where
    pub seen_is : q.card.seen ≡ (facts_of log faults home v).history
    seen_is = turn.after ∙ same

    -- the history at home, where it is known
    pub at_home : (l : Log) → log base.shelf ≡ Some l → (facts_of log faults home v).history ≡ at.stands.1
    at_home l is =
        let k = at.keeps.still_known l is in
        ap (λ (o : Option Log). told_history (option_map (history v.state) o) (event_count v.state + 1)) k.1
        ∙ (at.stands.3.disk k.0 k.1).recalls

    pub sees_more : SeesMore (log base.shelf) p q
    sees_more = record {
      more = turn.before.0;
      seen = seen_is ∙ turn.before.1;
      entries = λ l is.
          let legal = subst (λ (h : List Event). Legal v.state.limit h) (sym (at_home l is) ∙ turn.before.1) at.stands.3.legal in
          let r = entries_more v.state.limit p.card.seen turn.before.0 legal in
          (r.0, ap entries_of (seen_is ∙ turn.before.1) ∙ r.1);
    }

    own_same : q.card.own ≡ p.card.own
    own_same =
        let long = ap length same in
        turn.own
        ∙ ap (λ (b : Bool). cond b (p.card.own ++ length (facts_of log faults home v).history ∷ []) p.card.own)
        (not_more (facts_of log faults home v).history (facts_of log faults home w).history (omega (arith, long)))

    stops_same : w.state.halts ≡ v.state.halts → q.card.stops ≡ p.card.stops
    stops_same halts = ⊎_elim (λ a. a.1) (λ b. absurd (let up = b.2 in omega (arith, up, halts))) turn.stops

    pub remains : (a b : PassView (SpoolView D)) → a.state ≡ p → b.state ≡ q → IsSame a b → w.state.halts ≡ v.state.halts → Remains a b
    remains a b is_p is_q is halts = record {
      same = is;
      own = ap (λ (s : PassState (SpoolView D) Event Span). s.card.own) is_q ∙ own_same ∙ sym (ap (λ (s : PassState (SpoolView D) Event Span). s.card.own) is_p);
      stops = ap (λ (s : PassState (SpoolView D) Event Span). s.card.stops) is_q ∙ stops_same halts ∙ sym (ap (λ (s : PassState (SpoolView D) Event Span). s.card.stops) is_p);
    }

    -- what a hold of the pass has at home, where it is known
    held_home : (l : Log) → log base.shelf ≡ Some l → SeesHolds (log base.shelf) p → (k : Span) → Contains p.held k → held k at.stands.1 ≡ held k p.card.seen
    held_home l is sees k mine =
        let r = sees_more.entries l is in
        ap (held k) (sym (seen_is ∙ at_home l is)) ∙ held_on k p.card.seen q.card.seen r.0 r.1 (sees.held l is k mine)

    pub of_entry : SeesHolds (log base.shelf) p → (hold : Span) → Contains p.held hold → (i : ℕ) (P : Entry → Type 0)
        → ((l : Log) (earlier h : List Event) (f : Files) (e : Entry) (after : List Entry) → log v.shelf ≡ Some l → StandsFor W (log v.shelf) v.state earlier h f → drop i (held hold h) ≡ e ∷ after → P e)
        → OfEntry (pass_set (log base.shelf) p hold) i P
    of_entry sees hold mine i P each set d is below = by_log (log base.shelf) is (λ l k. l_known l k)
      where
        l_known : (l : Log) → log base.shelf ≡ Some l → held hold p.card.seen ≡ set → P (get_or set i d)
        l_known l known here =
            let k = at.keeps.still_known l known in
            each k.0 at.stands.0 at.stands.1 at.stands.2 (get_or set i d) (drop (suc i) set) k.1 at.stands.3
            (ap (drop i) (held_home l known sees hold mine ∙ here) ∙ drop-cons set i d below)

        by_log : (o : Option Log) → pass_set o p hold ≡ Some set → ((l : Log) → o ≡ Some l → held hold p.card.seen ≡ set → P (get_or set i d)) → P (get_or set i d)
        by_log None e go = absurd (cc)
        by_log (Some l) e go = go l refl (let here : held hold p.card.seen ≡ set = cc in here)

    pub set_of_size : SeesHolds (log base.shelf) p → (hold : Span) → Contains p.held hold → IsSetOfSize (pass_set (log base.shelf) p hold) (size_of hold)
    set_of_size sees hold mine set is = by_log (log base.shelf) is (λ l k here. (ap length (sym here) ∙ long l k, subst IsFileSet (held_home l k sees hold mine ∙ here) (rises l k)))
      where
        long : (l : Log) → log base.shelf ≡ Some l → length (held hold p.card.seen) ≡ size_of hold
        long l k =
            let within = sees.held l k hold mine in
            let a = length-take (hold.to - hold.from) (drop hold.from (entries_of p.card.seen)) in
            let b = length-drop hold.from (entries_of p.card.seen) in
            let low = within.0 in
            let high = within.1 in
            omega (arith, a, b, low, high)

        rises : (l : Log) → log base.shelf ≡ Some l → IsFileSet (held hold at.stands.1)
        rises l k = set_take (hold.to - hold.from) (drop hold.from (entries_of at.stands.1)) (set_drop hold.from (entries_of at.stands.1) at.stands.3.rises)

        by_log : (o : Option Log) → pass_set o p hold ≡ Some set → ((l : Log) → o ≡ Some l → held hold p.card.seen ≡ set → (length set ≡ size_of hold) × IsFileSet set) → (length set ≡ size_of hold) × IsFileSet set
        by_log None e go = absurd (cc)
        by_log (Some l) e go = go l refl (let here : held hold p.card.seen ≡ set = cc in here)

    -- this hold was taken of all that is at home
    pub whole_seen : (one : Span) → ((earlier h : List Event) (f : Files) → StandsFor W (log v.shelf) v.state earlier h f → held one h ≡ set_of h) → (l : Log) → log base.shelf ≡ Some l → held one q.card.seen ≡ set_of q.card.seen
    whole_seen one whole l is =
        let here = seen_is ∙ at_home l is in
        subst (λ (h : List Event). held one h ≡ set_of h) (sym here) (whole at.stands.0 at.stands.1 at.stands.2 at.stands.3)

    pub within_seen : (one : Span) → w.state.holds ≡ v.state.holds ++ one ∷ []
        → ((earlier h : List Event) (f : Files) → StandsFor W (log v.shelf) v.state earlier h f → StandsFor W (log w.shelf) w.state earlier h f) → (l : Log) → log base.shelf ≡ Some l → IsWithin (length (entries_of q.card.seen)) one
    within_seen one more stands l is =
        let here = seen_is ∙ at_home l is in
        let has : Contains w.state.holds one = subst (λ (hs : List Span). Contains hs one) (sym more) (Contains-push v.state.holds one) in
        subst (λ (h : List Event). IsWithin (length (entries_of h)) one) (sym here) ((stands at.stands.0 at.stands.1 at.stands.2 at.stands.3).holds one has)
