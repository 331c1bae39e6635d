-- What a call of the spool makes of its pass is a turn that keeps the rule.
use Rattle.std.proofs.Common.{◌≡◌, ◌⊎◌, inl, inr, ⊎_elim, ℕ, zero, suc, ◌+◌, ◌<◌, ◌≤◌, List, [], ◌∷◌, ◌++◌, length, set, get_or, Some, Bool, true, false, cond, refl, sym, ◌∙◌, ap, ap₂, arith, append-nil, length-append}
use Rattle.std.specs.List.{remove, slice_index_or}
use Rattle.st_base.specs.Faults.{next_count}
use Rattle.st_spool.proofs.Keeping.{by_test}
use Rattle.st_turn.specs.declared.book.Line.{Line}
use Rattle.st_turn.specs.Parts.{Facts, Booked, PassState, total, line_of}
use Rattle.st_turn.specs.Steps.{failed_after, has_risen, Moves}
use Rattle.st_turn.specs.Telling.{Learns}
use Rattle.st_turn.specs.Calls.{has_more, own_after, HeldAfter, IsTurn, MayTurn, line_after}
use Rattle.st_turn.proofs.Totals.{total_append}

pub line_read : (ls : List Line) (n : ℕ) (d : Line) → n < length ls → get_or ls n d ≡ line_of ls n
line_read [] n d lt = absurd (omega arith)
line_read (l ∷ ls) zero d lt = refl
line_read (l ∷ ls) (suc n) d lt = line_read ls n d (omega arith)

module _ {H : Type 0} where
  pub total_removed : (f : H → ℕ) (old : List H) (k : ℕ) (h : H) → k < length old → slice_index_or old k h ≡ h → total f old ≡ f h + total f (remove old k)
  total_removed f [] k h lt e = absurd (omega arith)
  total_removed f (x ∷ xs) zero h lt e = ap (λ (z : H). f z + total f xs) e
  total_removed f (x ∷ xs) (suc k) h lt e = let r = total_removed f xs k h (omega arith) e in omega arith

  held_sums : (before now held next : List H) (f : H → ℕ) → HeldAfter before now held next → total f next + total f before ≡ total f held + total f now
  held_sums before now held next f (inl e) = let a = ap (total f) e.0 in let b = ap (total f) e.1 in omega arith
  held_sums before now held next f (inr (inl e)) =
      let a = ap (total f) e.1 ∙ total_append f before (e.0 ∷ []) in
      let b = ap (total f) e.2 ∙ total_append f held (e.0 ∷ []) in omega arith
  held_sums before now held next f (inr (inr e)) =
      let a = total_removed f before e.1.0 e.0 e.1.1 e.1.2 in
      let b = total_removed f held e.2.0 e.0 e.2.1 e.2.2 in
      let c = ap (total f) e.1.3 in
      let d = ap (total f) e.2.3 in omega arith

module _ {S E H : Type 0} (facts : S → Facts E H) (Keeps : S → S → Type 0) where
  -- a pass after a turn
  abbrev turned : S → S → PassState S E H → List H → Bool → PassState S E H
  turned v w p next stopped =
      record p {
        card = record p.card {
          seen = (facts w).history;
          own = own_after (facts v).history (facts w).history p.card.own;
          failed = failed_after (facts v).faults (facts w).faults p.card.failed;
          stops = cond stopped (next_count p.card.stops) p.card.stops;
          halts = (facts w).halts;
        };
        held = next;
        asks = cond (has_more (facts v).holds (facts w).holds) (next_count p.asks) p.asks;
        asked = cond (has_more (facts v).holds (facts w).holds) (facts v).history p.asked;
      }

  more_of : (v w : S) (held next : List H) (stopped : Bool) → MayTurn facts Keeps v w held next stopped → (more : List E) × ((facts w).history ≡ (facts v).history ++ more)
  more_of v w held next stopped m =
      ⊎_elim
      (λ (e : (facts w).history ≡ (facts v).history). ([], e ∙ sym (append-nil (facts v).history)))
      (λ (e : (x : E) × ((facts w).history ≡ (facts v).history ++ x ∷ [])). (e.0 ∷ [], e.1))
      m.history

  own_cases : (hv hw more : List E) (own : List ℕ) → hw ≡ hv ++ more → (own_after hv hw own ≡ own) ⊎ ((1 ≤ length more) × (own_after hv hw own ≡ own ++ length hv ∷ []))
  own_cases hv hw more own e =
      let len : length hw ≡ length hv + length more = ap length e ∙ length-append hv more in
      by_test (has_more hv hw) (λ b. (cond b (own ++ length hv ∷ []) own ≡ own) ⊎ ((1 ≤ length more) × (cond b (own ++ length hv ∷ []) own ≡ own ++ length hv ∷ [])))
      (λ t. inr (grind arith, refl))
      (λ f. inl refl)

  either_one : {A : Type 0} (b : Bool) (x y : A) → (cond b x y ≡ y) ⊎ (cond b x y ≡ x)
  either_one true x y = inr refl
  either_one false x y = inl refl

  failed_up : (vf wf pf : ℕ) → next_count vf ≤ wf → failed_after vf wf pf ≡ next_count pf
  failed_up vf wf pf le = by_test (has_risen vf wf) (λ b. cond b (next_count pf) pf ≡ next_count pf) (λ t. refl) (λ f. absurd (grind arith))

  stops_cases : (stopped : Bool) (vh wh vf wf ps pf : ℕ) → wh ≡ cond stopped (next_count vh) vh → (stopped ≡ true → next_count vf ≤ wf)
      → ((wh ≡ vh) × (cond stopped (next_count ps) ps ≡ ps)) ⊎ ((wh ≡ next_count vh) × (cond stopped (next_count ps) ps ≡ next_count ps) × (failed_after vf wf pf ≡ next_count pf))
  stops_cases true vh wh vf wf ps pf e rose = inr (e, refl, failed_up vf wf pf (rose refl))
  stops_cases false vh wh vf wf ps pf e rose = inl (e, refl)

  turn_stops : (stopped : Bool) (vh wh ps : ℕ) → wh ≡ cond stopped (next_count vh) vh → (stopped ≡ true → vh < wh)
      → ((wh ≡ vh) × (cond stopped (next_count ps) ps ≡ ps)) ⊎ ((wh ≡ next_count vh) × (cond stopped (next_count ps) ps ≡ next_count ps) × (vh < wh))
  turn_stops true vh wh ps e one = inr (e, refl, one refl)
  turn_stops false vh wh ps e one = inl (e, refl)

  pub moves_by : (x : Booked S) (w : S) (p : PassState S E H) (next : List H) (stopped : Bool) (n : ℕ) (lines : List Line) → Learns facts Keeps x p → MayTurn facts Keeps x.spool w p.held next stopped → p.card.number ≡ Some n
      → lines ≡ set x.lines n (line_after (line_of x.lines n) (has_risen (facts x.spool).faults (facts w).faults) stopped)
      → Moves facts Keeps x (record { spool = w; lines = lines }) p (turned x.spool w p next stopped) × IsTurn facts x.spool w p (turned x.spool w p next stopped)
  moves_by x w p next stopped n lines l m has e =
      let v = x.spool in
      let more = more_of v w p.held next stopped m in
      let old = l.own.card.line n has in
      let stops = stops_cases stopped (facts v).halts (facts w).halts (facts v).faults (facts w).faults p.card.stops p.card.failed m.halts m.rose in
      let line : line_after (line_of x.lines n) (has_risen (facts v).faults (facts w).faults) stopped ≡ record { failed = failed_after (facts v).faults (facts w).faults p.card.failed; stops = cond stopped (next_count p.card.stops) p.card.stops } =
      ap₂ (λ (a b : ℕ). line_after (record { failed = a; stops = b }) (has_risen (facts v).faults (facts w).faults) stopped) (sym old.0) (sym old.1) in (
        record {
          more = more.0;
          history = more.1;
          seen = refl;
          own = own_cases (facts v).history (facts w).history more.0 p.card.own more.1;
          held = λ f. held_sums (facts v).holds (facts w).holds p.held next f m.holds;
          asked = either_one (has_more (facts v).holds (facts w).holds) (facts v).history p.asked;
          later = m.later;
          failed = refl;
          stops = stops;
          halts = refl;
          number = n;
          is_number = has;
          lines = e ∙ ap (λ (k : Line). set x.lines n k) line;
          base = refl;
          same = (refl, refl, refl, refl);
          keeps = m.keeps;
        },
        record {
          before = l.own.card.seen;
          history = m.history;
          after = refl;
          own = refl;
          failed = refl;
          stops = turn_stops stopped (facts v).halts (facts w).halts p.card.stops m.halts m.one;
          halts = (l.own.card.halts, refl);
          held = m.holds;
          asks = refl;
          asked = refl;
          rest = (refl, refl, refl, refl);
        },
      )
