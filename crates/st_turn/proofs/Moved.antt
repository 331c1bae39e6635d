-- A turn keeps the rule.
use Rattle.std.proofs.Common.{◌≡◌, ◌≢◌, ◌⊎◌, inl, inr, ⊎_elim, ℕ, ◌+◌, ◌-◌, ◌^◌, ◌<◌, ◌≤◌, List, [], ◌∷◌, ◌++◌, length, set, min, Option, Some, None, cond, refl, sym, ◌∙◌, ap, ap₂, subst, arith, length-append, length-set}
use mathlib.Core.Option.{some}
use mathlib.Core.Logic.{dite}
use native.Mathlib.Decide.{ℕ_discrete, dec_lt}
use lib.ListN.{get_elem?}
use Rattle.atomic_table.proofs.Lists.{at_set}
use Rattle.st_base.specs.Faults.{next_count}
use Rattle.st_spool.proofs.Keeping.{by_test}
use Rattle.st_turn.specs.declared.book.Line.{Line}
use Rattle.st_turn.specs.Parts.{Facts, Booked, Card, PassState, total, IsPrefix, Each, Rises, is_same, is_number, line_of, numbered, owned, IsCard, IsPass, Parts}
use Rattle.st_turn.specs.Steps.{failed_after, has_risen, Moves}
use Rattle.st_turn.proofs.Totals.{total_append, total_set, total_at, total_two, total_none, each_append, each_on, each_where, each_none, begins_same, begins_on, begins_then, begins_length, same_self, same_other, number_other, number_self, below_none, rises_more, line_here, line_else, line_total, line_within}

-- a count of turns stays or goes up by one, and only if the count that it looks at rose
counts_on : (xf yf n : ℕ) → (failed_after xf yf n ≡ n) ⊎ ((failed_after xf yf n ≡ next_count n) × (next_count xf ≤ yf))
counts_on xf yf n =
    by_test (has_risen xf yf) (λ b. (cond b (next_count n) n ≡ n) ⊎ ((cond b (next_count n) n ≡ next_count n) × (next_count xf ≤ yf)))
    (λ e. inr (refl, grind arith))
    (λ e. inl refl)

-- the bound of the shelf's count, and that of the publications and ageings that failed
bound_on : (base t t' old new xf yf : ℕ) → min (base + t) (2 ^ 64 - 1) ≤ xf → xf ≤ yf → t' + old ≡ t + new → (new ≡ old) ⊎ ((new ≡ next_count old) × (next_count xf ≤ yf)) → min (base + t') (2 ^ 64 - 1) ≤ yf
bound_on base t t' old new xf yf h le e (inl same) = omega arith
bound_on base t t' old new xf yf h le e (inr p) = let a = p.0 in let b = p.1 in omega arith

halts_on : (base t t' old new xh yh : ℕ) → xh ≤ base + t → t' + old ≡ t + new → new ≤ t' → ((yh ≡ xh) × (new ≡ old)) ⊎ ((yh ≡ next_count xh) × (new ≡ next_count old)) → yh ≤ base + t'
halts_on base t t' old new xh yh h e le (inl p) = let a = p.0 in let b = p.1 in omega arith
halts_on base t t' old new xh yh h e le (inr p) = let a = p.0 in let b = p.1 in omega arith

module _ {E H : Type 0} where
  -- a card of another number stays one
  card_stays : (x y : Facts E H) (lx ly : List Line) (m : ℕ) (l : Line) (more : List E) → y.history ≡ x.history ++ more → x.halts ≤ y.halts → ly ≡ set lx m l
      → (c : Card E) → is_number m c.number ≡ 0 → IsCard x lx c → IsCard y ly c
  card_stays x y lx ly m l more h le e c z k =
      record {
        seen = begins_on c.seen x.history y.history more k.seen h;
        below = k.below;
        rises = k.rises;
        halts = let a = k.halts in omega arith;
        stops = k.stops;
        fits = k.fits;
        line = λ n at.
            let ne : n ≢ m = number_other m n c.number z at in
            let same : line_of ly n ≡ line_of lx n = ap (λ (ls : List Line). line_of ls n) e ∙ line_else lx m n l ne in
            ((k.line n at).0 ∙ ap (λ (j : Line). j.failed) (sym same), (k.line n at).1 ∙ ap (λ (j : Line). j.stops) (sym same));
        unnumbered = k.unnumbered;
      }

  -- no card owns a place at the end of the history
  card_owns : (h : Facts E H) (lines : List Line) (c : Card E) → IsCard h lines c → total (is_same (length h.history)) c.own ≡ 0
  card_owns h lines c k = below_none (length h.history) (length c.seen) c.own k.below (begins_length c.seen h.history k.seen)

module _ {S E H : Type 0} where
  pass_stays : (base : S) (x y : Facts E H) (lx ly : List Line) (m : ℕ) (l : Line) (more : List E) → y.history ≡ x.history ++ more → x.halts ≤ y.halts → ly ≡ set lx m l
      → (p : PassState S E H) → numbered m p ≡ 0 → IsPass base x lx p → IsPass base y ly p
  pass_stays base x y lx ly m l more h le e p z k =
      record {
        card = card_stays x y lx ly m l more h le e p.card (omega arith) k.card;
        notes = each_where (IsCard x lx) (IsCard y ly) (λ c. is_number m c.number) p.notes (card_stays x y lx ly m l more h le e) (omega arith) k.notes;
        base = k.base;
        passes = λ n. k.passes n ∙ sym (ap (λ (ls : List Line). length ls) e ∙ length-set lx m l);
        asked = k.asked;
        unnumbered = k.unnumbered;
      }

  -- nor does a pass
  pass_owns : (base : S) (h : Facts E H) (lines : List Line) (p : PassState S E H) → IsPass base h lines p → owned (length h.history) p ≡ 0
  pass_owns base h lines p k =
      let a = card_owns h lines p.card k.card in
      let b = each_none (IsCard h lines) (λ c. total (is_same (length h.history)) c.own) p.notes (card_owns h lines) k.notes in omega arith

  module _ (facts : S → Facts E H) (Keeps : S → S → Type 0) where
    -- what a turn makes of the pass itself
    pass_moves : (base : S) (x y : Booked S) (p q : PassState S E H) → (m : Moves facts Keeps x y p q) → m.number < length x.lines → numbered m.number p ≤ 1 → (facts x.spool).halts < 2 ^ 64
        → IsPass base (facts x.spool) x.lines p → IsPass base (facts y.spool) y.lines q
    pass_moves base x y p q m lt one fits k =
        let hx = facts x.spool in
        let hy = facts y.spool in
        let n = m.number in
        let line : Line = record { failed = q.card.failed; stops = q.card.stops } in
        let len : length hy.history ≡ length hx.history + length m.more = ap length m.history ∙ length-append hx.history m.more in
        let size : length q.card.seen ≡ length hy.history = ap length m.seen in
        let ps : length p.card.seen ≤ length hx.history = begins_length p.card.seen hx.history k.card.seen in
        let up : hx.halts ≤ hy.halts = ⊎_elim (λ e. let a = e.0 in omega arith) (λ e. let a = e.0 in omega arith) m.stops in
        let own_one : numbered n p ≡ is_number n p.card.number + total (λ c. is_number n c.number) p.notes = refl in
        let self : is_number n p.card.number ≡ 1 = number_self n p.card.number m.is_number in
        let seen : IsPrefix p.card.seen q.card.seen = begins_on p.card.seen hx.history q.card.seen m.more k.card.seen (m.seen ∙ m.history) in
        record {
          card = record {
            seen = begins_same q.card.seen hy.history m.seen;
            below =
                ⊎_elim
                (λ (e : q.card.own ≡ p.card.own). subst (Each (λ k. k < length q.card.seen)) (sym e) (each_on (λ k. k < length p.card.seen) (λ k. k < length q.card.seen) p.card.own (λ j lt. omega arith) k.card.below))
                (λ (e : (1 ≤ length m.more) × (q.card.own ≡ p.card.own ++ length hx.history ∷ [])). let a = e.0 in
                subst (Each (λ k. k < length q.card.seen)) (sym e.1) (each_append (λ k. k < length q.card.seen) p.card.own (length hx.history ∷ []) (each_on (λ k. k < length p.card.seen) (λ k. k < length q.card.seen) p.card.own (λ j lt. omega arith) k.card.below) (omega arith, tt)))
                m.own;
            rises =
                ⊎_elim
                (λ (e : q.card.own ≡ p.card.own). subst Rises (sym e) k.card.rises)
                (λ (e : (1 ≤ length m.more) × (q.card.own ≡ p.card.own ++ length hx.history ∷ [])). subst Rises (sym e.1) (rises_more (length hx.history) p.card.own k.card.rises (each_on (λ k. k < length p.card.seen) (λ k. k < length hx.history) p.card.own (λ j lt. omega arith) k.card.below)))
                m.own;
            halts = let a = m.halts in omega arith;
            stops = stops_below hx.faults hy.faults p.card.stops q.card.stops p.card.failed q.card.failed k.card.stops k.card.fits m.failed (⊎_elim (λ e. inl e.1) (λ e. inr (e.1, e.2)) m.stops);
            fits = let e = m.failed in let f = k.card.fits in ⊎_elim (λ h. omega arith) (λ h. let a = h.0 in omega arith) (counts_on hx.faults hy.faults p.card.failed);
            line = λ j at.
                let same : j ≡ n = some_same j n (sym at ∙ m.same.0 ∙ m.is_number) in
                let e : line_of y.lines j ≡ line = ap₂ line_of m.lines same ∙ line_here x.lines n line lt in
                (sym (ap (λ (l : Line). l.failed) e), sym (ap (λ (l : Line). l.stops) e));
            unnumbered = λ e. absurd (let h : Some n ≡ None = sym m.is_number ∙ sym m.same.0 ∙ e in cc);
          };
          notes = subst (Each (IsCard hy y.lines)) (sym m.same.3) (each_where (IsCard hx x.lines) (IsCard hy y.lines) (λ c. is_number n c.number) p.notes (card_stays hx hy x.lines y.lines n line m.more m.history up m.lines) (omega arith) k.notes);
          base = λ h. m.base ∙ k.base (n, m.is_number);
          passes = λ h. m.same.1 ∙ k.passes (n, m.is_number) ∙ sym (ap (λ (ls : List Line). length ls) m.lines ∙ length-set x.lines n line);
          asked =
              ⊎_elim
              (λ (e : q.asked ≡ p.asked). subst (λ (a : List E). IsPrefix a q.card.seen) (sym e) (begins_then p.asked p.card.seen q.card.seen k.asked seen))
              (λ (e : q.asked ≡ hx.history). subst (λ (a : List E). IsPrefix a q.card.seen) (sym e) (m.more, m.seen ∙ m.history))
              m.asked;
          unnumbered = λ e. absurd (let h : Some n ≡ None = sym m.is_number ∙ sym m.same.0 ∙ e in cc);
        }
      where
        some_same : (j n : ℕ) → Some j ≡ Some n → j ≡ n
        some_same j n e = cc

        stops_below : (xf yf ps qs pf qf : ℕ) → ps ≤ pf → pf < 2 ^ 64 → qf ≡ failed_after xf yf pf → (qs ≡ ps) ⊎ ((qs ≡ next_count ps) × (qf ≡ next_count pf)) → qs ≤ qf
        stops_below xf yf ps qs pf qf le fits e (inl s) = ⊎_elim (λ h. omega arith) (λ h. let a = h.0 in omega arith) (counts_on xf yf pf)
        stops_below xf yf ps qs pf qf le fits e (inr s) = let a = s.0 in let b = s.1 in omega arith

    one_at : (x : Booked S) (key : Booked S) (ps : List (PassState S E H)) (id : ℕ) (p : PassState S E H) (n : ℕ) → (k : Parts facts Keeps key x ps) → get_elem? ps id ≡ some p → p.card.number ≡ Some n
        → (n < length x.lines) × (numbered n p ≡ 1)
    one_at x key ps id p n k at e =
        let has = number_self n p.card.number e in
        let here = total_at (numbered n) ps id p at in
        let lt : n < k.made = dite (dec_lt n k.made) (λ h. h) (λ h. absurd (let z = k.not_given n (omega arith) in omega arith)) in
        let g = k.given n lt in
        let few = k.few in
        (omega arith, omega arith)

    pub moves_keeps : (key x y : Booked S) (id : ℕ) (p q : PassState S E H) → Moves facts Keeps x y p q → (ps : List (PassState S E H)) → Parts facts Keeps key x ps → get_elem? ps id ≡ some p → Parts facts Keeps key y (set ps id q)
    moves_keeps key x y id p q m ps k at =
        let n = m.number in
        let line : Line = record { failed = q.card.failed; stops = q.card.stops } in
        let one = one_at x key ps id p n k at m.is_number in
        let lt = one.0 in
        let hx = facts x.spool in
        let hy = facts y.spool in
        let len : length y.lines ≡ length x.lines = ap (λ (ls : List Line). length ls) m.lines ∙ length-set x.lines n line in
        let up : hx.halts ≤ hy.halts = let f = k.fits in ⊎_elim (λ e. let a = e.0 in omega arith) (λ e. let a = e.0 in omega arith) m.stops in
        let same_numbers : (j : ℕ) → numbered j q ≡ numbered j p = λ j. ap₂ (λ (o : Option ℕ) (cs : List (Card E)). is_number j o + total (λ c. is_number j c.number) cs) m.same.0 m.same.3 in
        let numbers : (j : ℕ) → total (numbered j) (set ps id q) ≡ total (numbered j) ps = λ j. let a = total_set (numbered j) ps id p q at in let b = same_numbers j in omega arith in
        let old_line : (p.card.failed ≡ (line_of x.lines n).failed) × (p.card.stops ≡ (line_of x.lines n).stops) = (k.each id p at).card.line n m.is_number in
        let failed_sum : total (λ (l : Line). l.failed) y.lines + p.card.failed ≡ total (λ (l : Line). l.failed) x.lines + q.card.failed =
        let a = line_total (λ (l : Line). l.failed) x.lines n line lt in let b = ap (λ (ls : List Line). total (λ (l : Line). l.failed) ls) m.lines in let c = old_line.0 in omega arith in
        let stops_sum : total (λ (l : Line). l.stops) y.lines + p.card.stops ≡ total (λ (l : Line). l.stops) x.lines + q.card.stops =
        let a = line_total (λ (l : Line). l.stops) x.lines n line lt in let b = ap (λ (ls : List Line). total (λ (l : Line). l.stops) ls) m.lines in let c = old_line.1 in omega arith in
        let here : line_of y.lines n ≡ line = ap (λ (ls : List Line). line_of ls n) m.lines ∙ line_here x.lines n line lt in
        let stops_within : q.card.stops ≤ total (λ (l : Line). l.stops) y.lines = let a = line_within (λ (l : Line). l.stops) y.lines n (omega arith) in let b = ap (λ (l : Line). l.stops) here in omega arith in
        record {
          made = k.made;
          few = let a = k.few in omega arith;
          given = λ j h. numbers j ∙ k.given j h;
          not_given = λ j h. numbers j ∙ k.not_given j h;
          lead = let a = total_set (λ r. is_number 0 r.card.number) ps id p q at in let b = ap (is_number 0) m.same.0 in let c = k.lead in omega arith;
          first = λ i r there zero_is.
              ⊎_elim
              (λ (e : (i ≡ id) × (q ≡ r)). ap (λ (z : PassState S E H). z.made) (sym e.1) ∙ m.same.2 ∙ k.first id p at (sym m.same.0 ∙ ap (λ (z : PassState S E H). z.card.number) e.1 ∙ zero_is))
              (λ (e : (i ≢ id) × (get_elem? ps i ≡ some r)). k.first i r e.1 zero_is)
              (at_set ps id i q r there);
          each = λ i r there.
              ⊎_elim
              (λ (e : (i ≡ id) × (q ≡ r)). subst (IsPass key.spool hy y.lines) e.1 (pass_moves key.spool x y p q m lt (omega (arith, one.1)) k.fits (k.each id p at)))
              (λ (e : (i ≢ id) × (get_elem? ps i ≡ some r)).
              let two = total_two (numbered n) ps i id r p e.0 e.1 at in
              let g = given_of x key ps n k (omega (arith, one.1, total_at (numbered n) ps id p at)) in
              pass_stays key.spool hx hy x.lines y.lines n line m.more m.history up m.lines r (omega (arith, one.1)) (k.each i r e.1))
              (at_set ps id i q r there);
          places = λ j. places_on j;
          held = λ f. let a = total_set (λ r. total f r.held) ps id p q at in let b = m.held f in let c = k.held f in omega arith;
          wide = len ∙ k.wide;
          unmade = λ j h.
              let ne : j ≢ n = λ e. (let a = k.not_given n (omega arith) in let b = total_at (numbered n) ps id p at in let c = one.1 in omega arith) in
              ap (λ (ls : List Line). line_of ls j) m.lines ∙ line_else x.lines n j line ne ∙ k.unmade j h;
          faults =
              bound_on (facts key.spool).faults (total (λ l. l.failed) x.lines) (total (λ l. l.failed) y.lines) p.card.failed q.card.failed hx.faults hy.faults k.faults m.later failed_sum
              (⊎_elim (λ e. inl (m.failed ∙ e)) (λ e. inr (m.failed ∙ e.0, e.1)) (counts_on hx.faults hy.faults p.card.failed));
          fits = let f = k.fits in ⊎_elim (λ e. let a = e.0 in omega arith) (λ e. let a = e.0 in omega arith) m.stops;
          halts =
              halts_on (facts key.spool).halts (total (λ l. l.stops) x.lines) (total (λ l. l.stops) y.lines) p.card.stops q.card.stops hx.halts hy.halts k.halts stops_sum stops_within
              (⊎_elim (λ e. inl (e.0, e.1)) (λ e. inr (e.0, e.1)) m.stops);
          keeps = m.keeps key.spool k.keeps;
        }
      where
        given_of : (x : Booked S) (key : Booked S) (ps : List (PassState S E H)) (n : ℕ) → (k : Parts facts Keeps key x ps) → 1 ≤ total (numbered n) ps → total (numbered n) ps ≡ 1
        given_of x key ps n k h = dite (dec_lt n k.made) (λ l. k.given n l) (λ l. absurd (let z = k.not_given n (omega arith) in omega arith))

        places_on : (j : ℕ) → total (owned j) (set ps id q) ≤ 1
        places_on j =
            let hx = facts x.spool in
            let size = length hx.history in
            let sum = total_set (owned j) ps id p q at in
            let limit = k.places j in
            let notes : total (λ c. total (is_same j) c.own) q.notes ≡ total (λ c. total (is_same j) c.own) p.notes = ap (λ (cs : List (Card E)). total (λ c. total (is_same j) c.own) cs) m.same.3 in
            ⊎_elim
            (λ (e : q.card.own ≡ p.card.own). let a = ap (λ (ns : List ℕ). total (is_same j) ns) e in omega arith)
            (λ (e : (1 ≤ length m.more) × (q.card.own ≡ p.card.own ++ size ∷ [])).
            let a = ap (λ (ns : List ℕ). total (is_same j) ns) e.1 in
            let b = total_append (is_same j) p.card.own (size ∷ []) in
            dite (ℕ_discrete j size)
            (λ (h : j ≡ size).
            let none_own : total (owned j) ps ≡ 0 = total_none (owned j) ps (λ i r there. ap (λ (n : ℕ). owned n r) h ∙ pass_owns key.spool hx x.lines r (k.each i r there)) in
            let c = same_self j in
            let d = ap (is_same j) (sym h) in
            let z = total_at (owned j) ps id p at in
            omega arith)
            (λ (ne : j ≢ size). let c = same_other j size ne in omega arith))
            m.own
