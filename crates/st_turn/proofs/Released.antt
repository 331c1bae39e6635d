-- What a pass and its turn have in common with the spool at home: its holds, and what was shared.
use Rattle.std.proofs.Common.{◌≡◌, ◌⊎◌, inl, inr, ℕ, zero, suc, ◌+◌, ◌<◌, ◌≤◌, List, [], ◌∷◌, ◌++◌, length, Option, Some, None, Result, Ok, Err, Bool, true, false, ⊎_elim, cond, nat_eq, refl, sym, ◌∙◌, ap, ap₂, subst, arith, append-nil, eq-eqb, eqb-true, length-append}
use Rattle.std.specs.Prelude.{Contains, MatchResult}
use Rattle.std.specs.List.{slice_index_or, remove}
use Rattle.std.proofs.lemmas.List.{append_cancel_left}
use Rattle.std.proofs.lemmas.List.Edits.{length-remove}
use mathlib.Core.Logic.{dite}
use native.Mathlib.Decide.{dec_lt}
use Rattle.st_disk.specs.Disks.{Log}
use Rattle.st_shelf.specs.Loans.{LoansView}
use Rattle.st_shelf.specs.declared.shelves.SealedPair.{SealedPair}
use Rattle.st_spool.specs.declared.state.Span.{Span}
use Rattle.st_spool.specs.Holding.{IsWithout, whole_set, with_hold}
use Rattle.st_spool.specs.Recalling.{event_count}
use Rattle.st_spool.specs.Standing.{Stands}
use Rattle.st_spool.specs.States.{SpoolView}
use Rattle.st_spool.proofs.Keeping.{by_test}
use Rattle.st_turn.specs.declared.book.Line.{Line}
use Rattle.st_turn.specs.declared.refusals.SharedPublishErr.{SharedPublishErr}
use Rattle.st_turn.specs.Parts.{Facts, Booked, PassState, total}
use Rattle.st_turn.specs.Telling.{Learns}
use Rattle.st_turn.specs.Calls.{MayTurn, HeldAfter, Without}
use Rattle.st_turn.specs.SpoolCalls.{Releases, SharedPublishes}
use Rattle.st_turn.specs.Spools.{facts_of, KeepsOf}
use Rattle.st_turn.proofs.Imaged.{images_still}
use Rattle.st_turn.proofs.Spooled.{stays_by, keeps_on}
use Rattle.st_turn.proofs.Taken.{total_removed}

-- a hold counts for 1 as itself, and for 0 as any other
abbrev weight : Span → Span → ℕ
weight h s = cond (nat_eq h.from s.from) (cond (nat_eq h.to s.to) 1 0) 0

weight_is : (h s : Span) → 1 ≤ weight h s → s ≡ h
weight_is h s le =
    by_test (nat_eq h.from s.from) (λ b. 1 ≤ cond b (cond (nat_eq h.to s.to) 1 0) 0 → s ≡ h)
    (λ e. by_test (nat_eq h.to s.to) (λ b. 1 ≤ cond b 1 0 → s ≡ h)
    (λ f l. ap₂ (λ (a b : ℕ). let k : Span = record { from = a; to = b } in k) (sym (eqb-true h.from s.from e)) (sym (eqb-true h.to s.to f)))
    (λ f l. absurd (omega arith)))
    (λ e l. absurd (omega arith)) le

weight_self : (h : Span) → weight h h ≡ 1
weight_self h = ap₂ (λ (a b : Bool). cond a (cond b 1 0) 0) (eq-eqb h.from h.from refl) (eq-eqb h.to h.to refl)

found_at : (h : Span) (xs : List Span) → 1 ≤ total (weight h) xs → Contains xs h
found_at h [] le = absurd (omega arith)
found_at h (x ∷ xs) le = dite (dec_lt 0 (weight h x)) (λ lt. (0, omega arith, weight_is h x lt)) (λ nlt. let r = found_at h xs (omega arith) in (suc r.0, omega arith, r.2))

there : (h : Span) (xs : List Span) (k : ℕ) → k < length xs → slice_index_or xs k h ≡ h → 1 ≤ total (weight h) xs
there h [] k lt e = absurd (omega arith)
there h (x ∷ xs) zero lt e = let a : weight h x ≡ 1 = ap (weight h) e ∙ weight_self h in omega arith
there h (x ∷ xs) (suc k) lt e = let r = there h xs k (omega arith) e in omega arith

-- a hold is one of a pass's, so it is one of the spool's
held_is_held : (h : Span) (mine all : List Span) → ((f : Span → ℕ) → total f mine ≤ total f all) → Contains mine h → Contains all h
held_is_held h mine all le c = found_at h all (let a = there h mine c.0 c.1 c.2 in let b = le (weight h) in omega arith)

module _ {H : Type 0} where
  -- no hold came or went
  pub held_stays : (before now held next : List H) → HeldAfter before now held next → now ≡ before → next ≡ held
  held_stays before now held next after is =
      let same : length now ≡ length before = ap length is in
      ⊎_elim
      (λ (a : (now ≡ before) × (next ≡ held)). a.1)
      (λ (b : ((h : H) × (now ≡ before ++ h ∷ []) × (next ≡ held ++ h ∷ [])) ⊎ ((h : H) × Without h before now × Without h held next)). ⊎_elim
      (λ (m : (h : H) × (now ≡ before ++ h ∷ []) × (next ≡ held ++ h ∷ [])). absurd (let e : length now ≡ length before + 1 = ap length m.1 ∙ length-append before (m.0 ∷ []) in omega arith))
      (λ (l : (h : H) × Without h before now × Without h held next). absurd (let e = length-remove before l.1.0 l.1.1 in let f : length now ≡ length (remove before l.1.0) = ap length l.1.3 in omega arith)) b)
      after

  -- this hold came
  pub held_more : (before now held next : List H) (k : H) → HeldAfter before now held next → now ≡ before ++ k ∷ [] → next ≡ held ++ k ∷ []
  held_more before now held next k after is =
      let more : length now ≡ length before + 1 = ap length is ∙ length-append before (k ∷ []) in
      ⊎_elim
      (λ (a : (now ≡ before) × (next ≡ held)). absurd (let e : length now ≡ length before = ap length a.0 in omega arith))
      (λ (b : ((h : H) × (now ≡ before ++ h ∷ []) × (next ≡ held ++ h ∷ [])) ⊎ ((h : H) × Without h before now × Without h held next)). ⊎_elim
      (λ (m : (h : H) × (now ≡ before ++ h ∷ []) × (next ≡ held ++ h ∷ [])). m.2 ∙ ap (λ (t : List H). held ++ t) (append_cancel_left before (m.0 ∷ []) (k ∷ []) (sym m.1 ∙ is)))
      (λ (l : (h : H) × Without h before now × Without h held next). absurd (let e = length-remove before l.1.0 l.1.1 in let f : length now ≡ length (remove before l.1.0) = ap length l.1.3 in omega arith)) b)
      after

-- this hold went
pub held_less : (before now held next : List Span) (k : Span) → HeldAfter before now held next → IsWithout k before now → Without k held next
held_less before now held next k after without =
    let less = length-remove before without.0 without.1 in
    let fewer : length now ≡ length (remove before without.0) = ap length without.3 in
    ⊎_elim
    (λ (a : (now ≡ before) × (next ≡ held)). absurd (let e : length now ≡ length before = ap length a.0 in omega arith))
    (λ (b : ((h : Span) × (now ≡ before ++ h ∷ []) × (next ≡ held ++ h ∷ [])) ⊎ ((h : Span) × Without h before now × Without h held next)). ⊎_elim
    (λ (m : (h : Span) × (now ≡ before ++ h ∷ []) × (next ≡ held ++ h ∷ [])). absurd (let e : length now ≡ length before + 1 = ap length m.1 ∙ length-append before (m.0 ∷ []) in omega arith))
    (λ (l : (h : Span) × Without h before now × Without h held next).
    let one = weight_self l.0 in
    let f : Span → ℕ = weight l.0 in
    let a = total_removed f before l.1.0 l.0 l.1.1 l.1.2 in
    let b = total_removed f before without.0 k without.1 without.2 in
    let c : total f now ≡ total f (remove before l.1.0) = ap (total f) l.1.3 in
    let d : total f now ≡ total f (remove before without.0) = ap (total f) without.3 in
    let same : k ≡ l.0 = weight_is l.0 k (omega arith) in
    subst (λ (h : Span). Without h held next) (sym same) l.2) b)
    after

abbrev some_or : {A : Type 0} → A → Option A → A
some_or d None = d
some_or d (Some x) = x

module _ {S E : Type 0} (facts : S → Facts E Span) (Keeps : S → S → Type 0) where
  -- a hold of the pass is one of the spool that was taken
  pub held_at_home : (x : Booked S) (v : S) (lines : List Line) (p state : PassState S E Span) (h : Span) → record { spool = v; lines = lines } ≡ x → Learns facts Keeps x p → p ≡ state → Contains state.held h → (Contains p.held h) × (Contains (facts v).holds h)
  held_at_home x v lines p state h view learns same mine =
      let own : Contains p.held h = subst (λ (q : PassState S E Span). Contains q.held h) (sym same) mine in
      (own, subst (λ (s : S). Contains (facts s).holds h) (sym (ap (λ (b : Booked S). b.spool) view)) (held_is_held h p.held (facts x.spool).holds learns.held own))

  -- what was taken keeps what was shared
  pub kept_home : (x : Booked S) (v base : S) (lines : List Line) (p state : PassState S E Span) → record { spool = v; lines = lines } ≡ x → Learns facts Keeps x p → p ≡ state → state.base ≡ Some base → Keeps base v
  kept_home x v base lines p state view learns same is =
      let start : learns.start ≡ base = ap (some_or base) (sym learns.base ∙ ap (λ (q : PassState S E Span). q.base) same ∙ is) in
      subst (λ (s : S). Keeps base s) (sym (ap (λ (b : Booked S). b.spool) view)) (subst (λ (b : S). Keeps b x.spool) start learns.keeps)

module _ {D : Type 0} (log : D → Option Log) (faults home : D → ℕ) (W : List ℕ → List ℕ → Type 0) (loans : D → LoansView) where
  -- the end of a hold, which is one of the pass's
  pub release_turn : (x y : SpoolView D) (held : List Span) (hold : Span) → Releases W log faults home loans x y hold → Stands W (log x.shelf) x.state → Contains held hold
      → (next : List Span) × MayTurn (facts_of log faults home) (KeepsOf log faults home) x y held next false
  release_turn x y held hold r stands mine =
      let both = stays_by log faults home W loans x y r.keeps stands (ap (λ (s : SpoolView D). event_count s.state) r.state) in (
        remove held mine.0,
        record {
          history = inl both.0;
          holds = inr (inr (hold, r.without, (mine.0, mine.1, mine.2, refl)));
          later = r.cause;
          halts = ap (λ (s : SpoolView D). s.state.halts) r.state;
          rose = λ (e : false ≡ true). absurd (cc);
          one = λ (e : false ≡ true). absurd (cc);
          keeps = λ b k. keeps_on log faults home b x y [] r.rest.0 (ap (λ (s : SpoolView D). s.state.limit) r.state) r.cause (both.0 ∙ sym (append-nil (facts_of log faults home x).history)) both.1 both.2
              (images_still W b.state x.state y.state (log b.shelf) (log x.shelf) (log y.shelf) stands.0 stands.1 stands.2 stands.3 k.images (ap (λ (s : SpoolView D). s.state.last) r.state) (r.keeps stands.0 stands.1 stands.2 stands.3)) k;
        },
      )

  pub hold_held : {F : Type 0} (x y : SpoolView D) (held next : List Span) (result : Result Span F) → MatchResult result (λ k. (k ≡ whole_set x.state) × (y ≡ record x { state = with_hold x.state })) (λ e. y ≡ x)
      → HeldAfter x.state.holds y.state.holds held next → MatchResult result (λ k. next ≡ held ++ k ∷ []) (λ e. next ≡ held)
  hold_held x y held next (Ok k) state after = held_more x.state.holds y.state.holds held next k after (ap (λ (s : SpoolView D). s.state.holds) state.1 ∙ ap (λ (h : Span). x.state.holds ++ h ∷ []) (sym state.0))
  hold_held x y held next (Err e) state after = held_stays x.state.holds y.state.holds held next after (ap (λ (s : SpoolView D). s.state.holds) state)

  pub publish_holds : {T S : Type 0} (bytes : S → Option (List ℕ)) (x y : SpoolView D) (pair : SealedPair T S) (floor : ℕ) (result : Result ℕ (SharedPublishErr T S)) → SharedPublishes W log faults home loans x y bytes pair floor result → y.state.holds ≡ x.state.holds
  publish_holds bytes x y pair floor result by = ⊎_elim (λ a. a.2.rest.2) (λ b. ap (λ (s : SpoolView D). s.state.holds) b.1) by
