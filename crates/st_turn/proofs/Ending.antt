-- The rule as a spool is shared, and what it says of all passes at the end.
use Rattle.std.proofs.Common.{◌≡◌, ℕ, zero, suc, ◌+◌, ◌^◌, ◌<◌, ◌≤◌, List, [], ◌∷◌, ◌++◌, length, replicate, Option, Some, None, refl, sym, ◌∙◌, ap, subst, arith, append_assoc, length-append}
use mathlib.Core.Option.{some, some-injective, some-ne-none}
use mathlib.Core.Logic.{dite}
use native.Mathlib.Decide.{ℕ_discrete, dec_lt}
use lib.ListN.{get_elem?}
use Rattle.st_turn.specs.declared.book.Line.{Line}
use Rattle.st_turn.specs.Parts.{Facts, Booked, Card, PassState, total, IsPrefix, Each, is_same, is_number, line_of, blank, numbered, owned, HasNumber, IsCard, IsPass, Parts}
use Rattle.st_turn.specs.Steps.{starts}
use Rattle.st_turn.specs.Ends.{gathered, AreNumbered, Ended}
use Rattle.st_turn.proofs.Totals.{total_append, total_at, total_two, total_none, begins_self, same_other, number_self}

blank_line : (n k : ℕ) → line_of (replicate n blank) k ≡ blank
blank_line zero k = refl
blank_line (suc n) zero = refl
blank_line (suc n) (suc k) = blank_line n k

blank_total : (f : Line → ℕ) (n : ℕ) → f blank ≡ 0 → total f (replicate n blank) ≡ 0
blank_total f zero z = refl
blank_total f (suc n) z = let h = blank_total f n z in omega arith

none_left : {A : Type 0} (xs : List A) → total (λ x. 1) xs ≡ 0 → xs ≡ []
none_left [] e = refl
none_left (x ∷ xs) e = absurd (omega arith)

module _ {E H : Type 0} where
  -- what is so of a card whose history grew since
  pub record IsOldCard (h : Facts E H) (lines : List Line) (c : Card E) : Type 0 where
    pub seen : IsPrefix c.seen h.history
    pub halts : c.halts ≤ h.halts
    pub line : (n : ℕ) → c.number ≡ Some n → (c.failed ≡ (line_of lines n).failed) × (c.stops ≡ (line_of lines n).stops)

  old_card : (h : Facts E H) (lines : List Line) (c : Card E) → IsCard h lines c → IsOldCard h lines c
  old_card h lines c k = record { seen = k.seen; halts = k.halts; line = k.line }

module _ {S E H : Type 0} where
  only_one : (p : PassState S E H) (i : ℕ) (q : PassState S E H) → get_elem? (p ∷ []) i ≡ some q → p ≡ q
  only_one p zero q e = some-injective p q e
  only_one p (suc i) q e = absurd (some-ne-none q (sym e))

  -- of all that a pass took in
  pub gathered_cards : (h : Facts E H) (lines : List Line) (p : PassState S E H) (os : List (PassState S E H)) → IsOldCard h lines (gathered p os).card → Each (IsCard h lines) (gathered p os).notes
      → IsOldCard h lines p.card × Each (λ o. IsOldCard h lines o.card) os
  gathered_cards h lines p [] card notes = (card, tt)
  gathered_cards h lines p (o ∷ os) card notes =
      let before : IsOldCard h lines (gathered p os).card = record { seen = notes.0.seen; halts = card.halts; line = card.line } in
      let its : Each (IsCard h lines) ((gathered p os).notes ++ o.notes) = notes.1.1 in
      let more = gathered_cards h lines p os before (first_part (gathered p os).notes o.notes its) in
      (more.0, (old_card h lines o.card notes.1.0, more.1))
    where
      first_part : (xs ys : List (Card E)) → Each (IsCard h lines) (xs ++ ys) → Each (IsCard h lines) xs
      first_part [] ys e = tt
      first_part (x ∷ xs) ys e = (e.0, first_part xs ys e.1)

  pub gathered_numbers : (n : ℕ) (p : PassState S E H) (os : List (PassState S E H)) → numbered n (gathered p os) ≡ numbered n p + total (numbered n) os
  gathered_numbers n p [] = omega arith
  gathered_numbers n p (o ∷ os) =
      let a = gathered_numbers n p os in
      let b = total_append (λ (c : Card E). is_number n c.number) (gathered p os).notes o.notes in omega arith

  pub gathered_owned : (k : ℕ) (p : PassState S E H) (os : List (PassState S E H)) → owned k (gathered p os) ≡ owned k p + total (owned k) os
  gathered_owned k p [] = omega arith
  gathered_owned k p (o ∷ os) =
      let a = gathered_owned k p os in
      let b = total_append (λ (c : Card E). total (is_same k) c.own) (gathered p os).notes o.notes in omega arith

  pub gathered_number : (p : PassState S E H) (os : List (PassState S E H)) → (gathered p os).card.number ≡ p.card.number
  gathered_number p [] = refl
  gathered_number p (o ∷ os) = gathered_number p os

  pub gathered_base : (p : PassState S E H) (os : List (PassState S E H)) → ((gathered p os).base ≡ p.base) × ((gathered p os).passes ≡ p.passes)
  gathered_base p [] = (refl, refl)
  gathered_base p (o ∷ os) = gathered_base p os

  pub gathered_held : (f : H → ℕ) (n : ℕ) (p : PassState S E H) (os : List (PassState S E H)) → p.held ≡ [] → AreNumbered n os → total f (gathered p os).held ≡ 0
  gathered_held f n p [] none_held numbers = ap (λ (hs : List H). total f hs) none_held
  gathered_held f n p (o ∷ os) none_held numbers =
      let a = gathered_held f (n + 1) p os none_held numbers.2 in
      let b = ap (λ (hs : List H). total f hs) numbers.1 in
      let c = total_append f (gathered p os).held o.held in omega arith

  -- each number from this one on is that of one of them
  all_numbers : (n m : ℕ) (ps : List (PassState S E H)) → AreNumbered n ps → n ≤ m → m < n + length ps → 1 ≤ total (numbered m) ps
  all_numbers n m [] numbers le lt = absurd (omega arith)
  all_numbers n m (p ∷ ps) numbers le lt =
      dite (ℕ_discrete n m)
      (λ e. let a = number_self m p.card.number (numbers.0 ∙ ap (λ (k : ℕ). Some k) e) in omega arith)
      (λ ne. let a = all_numbers (n + 1) m ps numbers.2 (omega arith) (omega arith) in omega arith)

  -- the passes' counts are those of the book, of which these are the lines from number n on
  line_sums : (f : Line → ℕ) (g : Card E → ℕ) (n : ℕ) (front ls : List Line) (ps : List (PassState S E H)) → length front ≡ n → length ls ≡ length ps → AreNumbered n ps
      → Each (λ p. (k : ℕ) → p.card.number ≡ Some k → g p.card ≡ f (line_of (front ++ ls) k)) ps → total (λ p. g p.card) ps ≡ total f ls
  line_sums f g n front [] [] e len numbers same = refl
  line_sums f g n front (l ∷ ls) [] e len numbers same = absurd (omega arith)
  line_sums f g n front [] (p ∷ ps) e len numbers same = absurd (omega arith)
  line_sums f g n front (l ∷ ls) (p ∷ ps) e len numbers same =
      let here : g p.card ≡ f l = same.0 n numbers.0 ∙ ap f (line_at front l ls n e) in
      let longer_front : length (front ++ l ∷ []) ≡ n + 1 = omega (arith, length-append front (l ∷ [])) in
      let rest = line_sums f g (n + 1) (front ++ l ∷ []) ls ps longer_front (omega arith) numbers.2
      (subst (λ (all : List Line). Each (λ q. (k : ℕ) → q.card.number ≡ Some k → g q.card ≡ f (line_of all k)) ps) (sym (append_assoc front (l ∷ []) ls)) same.1) in
      omega arith
    where
      line_at : (front : List Line) (l : Line) (ls : List Line) (n : ℕ) → length front ≡ n → line_of (front ++ l ∷ ls) n ≡ l
      line_at [] l ls zero e = refl
      line_at [] l ls (suc n) e = absurd (omega arith)
      line_at (k ∷ ks) l ls zero e = absurd (omega arith)
      line_at (k ∷ ks) l ls (suc n) e = line_at ks l ls n (omega arith)

  -- what is so of each has a weaker form that is so of each
  each_card : (P Q : PassState S E H → Type 0) (ps : List (PassState S E H)) → ((p : PassState S E H) → P p → Q p) → Each P ps → Each Q ps
  each_card P Q [] on e = tt
  each_card P Q (p ∷ ps) on e = (on p e.0, each_card P Q ps on e.1)

  own_within : (k : ℕ) (ps : List (PassState S E H)) → total (λ p. total (is_same k) p.card.own) ps ≤ total (owned k) ps
  own_within k [] = omega arith
  own_within k (p ∷ ps) = let h = own_within k ps in omega arith

  module _ (facts : S → Facts E H) (Keeps : S → S → Type 0) where
    -- the rule as a spool is shared, with one pass
    pub starts_keeps : (key : Booked S) (n : ℕ) → key.lines ≡ replicate n blank → length key.lines ≡ n → 1 ≤ n → (facts key.spool).holds ≡ [] → (facts key.spool).halts < 2 ^ 64 → Keeps key.spool key.spool
        → Parts facts Keeps key key (starts key.spool (facts key.spool) 0 n 1 ∷ [])
    starts_keeps key n lines len some_lines no_holds fits same =
        let h = facts key.spool in
        let p : PassState S E H = starts key.spool h 0 n 1 in
        let lines_blank : (k : ℕ) → line_of key.lines k ≡ blank = λ k. ap (λ (ls : List Line). line_of ls k) lines ∙ blank_line n k in
        record {
          made = 1;
          few = omega arith;
          given = λ k below. let e : k ≡ 0 = omega arith in ap (λ (j : ℕ). is_same j 0 + 0 + 0) e;
          not_given = λ k above. let a = other_than k above in omega arith;
          lead = refl;
          first = λ i q there is. ap (λ (z : PassState S E H). z.made) (sym (only_one p i q there));
          each = λ i q there. subst (IsPass key.spool h key.lines) (only_one p i q there) (record {
            card = record {
              seen = begins_self h.history;
              below = tt;
              rises = tt;
              halts = omega arith;
              stops = omega arith;
              fits = omega arith;
              line = λ k e. (sym (ap (λ (l : Line). l.failed) (lines_blank k)), sym (ap (λ (l : Line). l.stops) (lines_blank k)));
              unnumbered = λ e. absurd (let z : Some 0 ≡ None = e in cc);
            };
            notes = tt;
            base = λ z. refl;
            passes = λ z. sym len;
            asked = begins_self h.history;
            unnumbered = λ e. refl;
          });
          places = λ k. omega arith;
          held = λ f. ap (λ (hs : List H). total f hs) (sym no_holds);
          wide = refl;
          unmade = λ k above. lines_blank k;
          faults = let a = ap (λ (ls : List Line). total (λ l. l.failed) ls) lines ∙ blank_total (λ l. l.failed) n refl in omega arith;
          fits = fits;
          halts = omega arith;
          keeps = same;
        }
      where
        other_than : (k : ℕ) → 1 ≤ k → is_same k 0 ≡ 0
        other_than k le = same_other k 0 (λ e. omega arith)

    -- a pass that took in all others is the only one that may have the turn
    pub alone : (key : Booked S) (p : PassState S E H) (os : List (PassState S E H)) → AreNumbered 0 (p ∷ os) → length (p ∷ os) ≡ length key.lines
        → (x : Booked S) (ps : List (PassState S E H)) (id i : ℕ) (q : PassState S E H) → Parts facts Keeps key x ps → get_elem? ps id ≡ some (gathered p os) → get_elem? ps i ≡ some q → HasNumber q → i ≡ id
    alone key p os numbers len x ps id i q k at there has =
        dite (ℕ_discrete i id) (λ e. e) (λ ne. absurd (
        let n = has.0 in
        let its = number_self n q.card.number has.1 in
        let one = total_at (numbered n) ps i q there in
        let below : n < k.made = dite (dec_lt n k.made) (λ h. h) (λ h. absurd (let z = k.not_given n (omega arith) in omega arith)) in
        let few = k.few in
        let wide = k.wide in
        let all = all_numbers 0 n (p ∷ os) numbers (omega arith) (omega arith) in
        let mine = gathered_numbers n p os in
        let two = total_two (numbered n) ps i id q (gathered p os) ne there at in
        let g = k.given n below in omega arith))

    pub ended : (key : Booked S) (p : PassState S E H) (os : List (PassState S E H)) → AreNumbered 0 (p ∷ os) → length (p ∷ os) ≡ length key.lines
        → (x : Booked S) (ps : List (PassState S E H)) (id : ℕ) → Parts facts Keeps key x ps → get_elem? ps id ≡ some (gathered p os)
        → Ended (facts key.spool) (facts x.spool) (p ∷ os) × Keeps key.spool x.spool
    ended key p os numbers len x ps id k at =
        let h = facts x.spool in
        let mine = k.each id (gathered p os) at in
        let cards : Each (λ o. IsOldCard h x.lines o.card) (p ∷ os) = gathered_cards h x.lines p os (old_card h x.lines (gathered p os).card mine.card) mine.notes in
        let sums : length x.lines ≡ length (p ∷ os) = k.wide ∙ sym len in
        let failed = line_sums (λ l. l.failed) (λ c. c.failed) 0 [] x.lines (p ∷ os) refl sums numbers (each_card (λ o. IsOldCard h x.lines o.card) (λ o. (j : ℕ) → o.card.number ≡ Some j → o.card.failed ≡ (line_of x.lines j).failed) (p ∷ os) (λ o c j e. (c.line j e).0) cards) in
        let stops = line_sums (λ l. l.stops) (λ c. c.stops) 0 [] x.lines (p ∷ os) refl sums numbers (each_card (λ o. IsOldCard h x.lines o.card) (λ o. (j : ℕ) → o.card.number ≡ Some j → o.card.stops ≡ (line_of x.lines j).stops) (p ∷ os) (λ o c j e. (c.line j e).1) cards) in (
          record {
            seen = each_card (λ o. IsOldCard h x.lines o.card) (λ o. IsPrefix o.card.seen h.history) (p ∷ os) (λ o c. c.seen) cards;
            own = λ j.
                let a = own_within j (p ∷ os) in
                let b = gathered_owned j p os in
                let c = total_at (owned j) ps id (gathered p os) at in
                let d = k.places j in omega arith;
            holds =
                let one : H → ℕ = λ z. 1 in
                let own_none = gathered_held one 1 p os numbers.1 numbers.2 in
                let all_none : total (λ r. total one r.held) ps ≡ 0 = total_none (λ r. total one r.held) ps (λ i r there. held_none i r there) in
                none_left h.holds (sym (k.held one) ∙ all_none);
            failed = let a = k.faults in omega (arith, failed);
            stops = let a = k.halts in omega (arith, stops);
            halts = each_card (λ o. IsOldCard h x.lines o.card) (λ o. o.card.halts ≤ h.halts) (p ∷ os) (λ o c. c.halts) cards;
          },
          k.keeps,
        )
      where
        held_none : (i : ℕ) (r : PassState S E H) → get_elem? ps i ≡ some r → total (λ (z : H). 1) r.held ≡ 0
        held_none i r there =
            dite (ℕ_discrete i id)
            (λ e.
            let same : gathered p os ≡ r = some-injective (gathered p os) r (sym at ∙ ap (λ (n : ℕ). get_elem? ps n) (sym e) ∙ there) in
            ap (λ (z : PassState S E H). total (λ (h : H). 1) z.held) (sym same) ∙ gathered_held (λ (z : H). 1) 1 p os numbers.1 numbers.2)
            (λ ne. by_number r (k.each i r there) (λ has. ne (alone key p os numbers len x ps id i r k at there has)))
          where
            by_number : (r : PassState S E H) → IsPass key.spool (facts x.spool) x.lines r → ¬ (HasNumber r) → total (λ (z : H). 1) r.held ≡ 0
            by_number r own none_has = numbered_or r.card.number refl
              where
                numbered_or : (o : Option ℕ) → r.card.number ≡ o → total (λ (z : H). 1) r.held ≡ 0
                numbered_or None e = ap (λ (hs : List H). total (λ (z : H). 1) hs) (own.unnumbered e)
                numbered_or (Some n) e = absurd (none_has (n, e))
