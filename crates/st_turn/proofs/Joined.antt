-- A number that is given out, a pass cut in two and a pass that takes in another one keep the rule.
use Rattle.std.proofs.Common.{◌≡◌, ◌≢◌, ◌⊎◌, inl, inr, ⊎_elim, ℕ, ◌+◌, ◌<◌, ◌≤◌, List, [], ◌∷◌, ◌++◌, length, set, Some, None, cond, nat_lt, refl, sym, ◌∙◌, ap, subst, arith}
use mathlib.Core.Option.{some}
use mathlib.Core.Logic.{dite}
use native.Mathlib.Decide.{ℕ_discrete, dec_lt}
use lib.ListN.{get_elem?}
use Rattle.atomic_table.proofs.Lists.{at_set, at_snoc, set_else}
use Rattle.st_spool.proofs.Keeping.{by_test}
use Rattle.st_turn.specs.declared.book.Line.{Line}
use Rattle.st_turn.specs.Parts.{Facts, Booked, Card, PassState, total, IsPrefix, Each, is_same, is_number, line_of, blank, numbered, owned, HasNumber, IsCard, IsPass, Parts}
use Rattle.st_turn.specs.Steps.{seen_only, visitor, gave_out, next_pass, longer, joined}
use Rattle.st_turn.proofs.Totals.{total_append, total_set, total_at, total_two, each_append, begins_self, begins_same, begins_then, begins_nil, begins_length, begins_both, same_self, same_other, number_self}

module _ {E H : Type 0} where
  -- a card that only saw something
  seen_card : (h : Facts E H) (lines : List Line) (seen : List E) → IsPrefix seen h.history → IsCard h lines (seen_only seen)
  seen_card h lines seen p =
      record {
        seen = p;
        below = tt;
        rises = tt;
        halts = omega arith;
        stops = omega arith;
        fits = omega arith;
        line = λ n e. absurd (let z : None ≡ Some n = e in cc);
        unnumbered = λ e. (refl, refl, refl, refl);
      }

module _ {E : Type 0} where
  longer_cases : (xs ys : List E) → ((longer xs ys ≡ xs) × (length ys ≤ length xs)) ⊎ ((longer xs ys ≡ ys) × (length xs ≤ length ys))
  longer_cases xs ys =
      by_test (nat_lt (length xs) (length ys)) (λ b. ((cond b ys xs ≡ xs) × (length ys ≤ length xs)) ⊎ ((cond b ys xs ≡ ys) × (length xs ≤ length ys)))
      (λ e. inr (refl, grind arith))
      (λ e. inl (refl, grind arith))

  -- of two beginnings of one list the longer one has both as beginnings
  pub longer_is : (xs ys zs : List E) → IsPrefix xs zs → IsPrefix ys zs → IsPrefix (longer xs ys) zs × IsPrefix xs (longer xs ys) × IsPrefix ys (longer xs ys)
  longer_is xs ys zs p q =
      ⊎_elim
      (λ (e : (longer xs ys ≡ xs) × (length ys ≤ length xs)). (
        subst (λ (k : List E). IsPrefix k zs) (sym e.0) p,
        begins_same xs (longer xs ys) (sym e.0),
        subst (λ (k : List E). IsPrefix ys k) (sym e.0) (begins_both ys xs zs q p e.1),
      ))
      (λ (e : (longer xs ys ≡ ys) × (length xs ≤ length ys)). (
        subst (λ (k : List E). IsPrefix k zs) (sym e.0) q,
        subst (λ (k : List E). IsPrefix xs k) (sym e.0) (begins_both xs ys zs p q e.1),
        begins_same ys (longer xs ys) (sym e.0),
      ))
      (longer_cases xs ys)

module _ {S E H : Type 0} where
  -- a pass without a number
  visitor_pass : (start : S) (h : Facts E H) (lines : List Line) (seen : List E) → IsPrefix seen h.history → IsPass start h lines (visitor seen)
  visitor_pass start h lines seen p =
      record {
        card = seen_card h lines seen p;
        notes = tt;
        base = λ n. absurd (let z : None ≡ Some n.0 = n.1 in cc);
        passes = λ n. absurd (let z : None ≡ Some n.0 = n.1 in cc);
        asked = begins_nil seen;
        unnumbered = λ e. refl;
      }

  -- the sums over a list with a member changed and one more
  snoc_total : (f : PassState S E H → ℕ) (ps : List (PassState S E H)) (id : ℕ) (p q r : PassState S E H) → get_elem? ps id ≡ some p → total f (set ps id q ++ r ∷ []) + f p ≡ total f ps + f q + f r
  snoc_total f ps id p q r at = let a = total_append f (set ps id q) (r ∷ []) in let b = total_set f ps id p q at in omega arith

  -- and with two changed
  two_total : (f : PassState S E H → ℕ) (ps : List (PassState S E H)) (id other : ℕ) (p o q r : PassState S E H) → get_elem? ps id ≡ some p → get_elem? (set ps id q) other ≡ some o → total f (set (set ps id q) other r) + f p + f o ≡ total f ps + f q + f r
  two_total f ps id other p o q r at there = let a = total_set f (set ps id q) other o r there in let b = total_set f ps id p q at in omega arith

  module _ (facts : S → Facts E H) (Keeps : S → S → Type 0) where
    -- a number that a pass has is given out
    is_given : (key x : Booked S) (ps : List (PassState S E H)) (i : ℕ) (p : PassState S E H) (n : ℕ) → (k : Parts facts Keeps key x ps) → get_elem? ps i ≡ some p → p.card.number ≡ Some n → n < k.made
    is_given key x ps i p n k at e =
        let a = number_self n p.card.number e in
        let b = total_at (numbered n) ps i p at in
        dite (dec_lt n k.made) (λ h. h) (λ h. absurd (let z = k.not_given n (omega arith) in omega arith))

    pub number_keeps : (key x : Booked S) (id : ℕ) (p : PassState S E H) → p.card.number ≡ Some 0 → p.made < length key.lines → (ps : List (PassState S E H)) → Parts facts Keeps key x ps → get_elem? ps id ≡ some p → Parts facts Keeps key x (set ps id (gave_out p) ++ next_pass p ∷ [])
    number_keeps key x id p zero_is lt ps k at =
        let q : PassState S E H = gave_out p in
        let r : PassState S E H = next_pass p in
        let h = facts x.spool in
        let own = k.each id p at in
        let known : p.made ≡ k.made = k.first id p at zero_is in
        let wide = k.wide in
        let one = is_given key x ps id p 0 k at zero_is in
        let lead_self = number_self 0 p.card.number zero_is in
        record {
          made = p.made + 1;
          few = omega arith;
          given = λ n below.
              let s = snoc_total (numbered n) ps id p q r at in
              dite (ℕ_discrete n p.made)
              (λ e. let a = k.not_given n (omega arith) in let b = ap (is_same n) (sym e) in let c = same_self n in omega arith)
              (λ ne. let a = k.given n (omega arith) in let b = same_other n p.made ne in omega arith);
          not_given = λ n above.
              let s = snoc_total (numbered n) ps id p q r at in
              let a = k.not_given n (omega arith) in let b = same_other n p.made (λ e. omega arith) in omega arith;
          lead =
              let s = snoc_total (λ z. is_number 0 z.card.number) ps id p q r at in
              let a = k.lead in let b = same_other 0 p.made (λ e. omega arith) in omega arith;
          first = λ i z there is.
              ⊎_elim
              (λ (in_set : get_elem? (set ps id q) i ≡ some z).
              ⊎_elim
              (λ (e : (i ≡ id) × (q ≡ z)). ap (λ (w : PassState S E H). w.made) (sym e.1))
              (λ (e : (i ≢ id) × (get_elem? ps i ≡ some z)). absurd (
              let t = total_two (λ (w : PassState S E H). is_number 0 w.card.number) ps i id z p e.0 e.1 at in
              let a = number_self 0 z.card.number is in let b = k.lead in omega arith))
              (at_set ps id i q z in_set))
              (λ (e : r ≡ z). absurd (
              let a : Some p.made ≡ Some 0 = ap (λ (w : PassState S E H). w.card.number) e ∙ is in
              let b : p.made ≡ 0 = cc in omega arith))
              (at_snoc (set ps id q) r z i there);
          each = λ i z there.
              ⊎_elim
              (λ (in_set : get_elem? (set ps id q) i ≡ some z).
              ⊎_elim
              (λ (e : (i ≡ id) × (q ≡ z)). subst (IsPass key.spool h x.lines) e.1 (record {
                card = own.card;
                notes = own.notes;
                base = own.base;
                passes = own.passes;
                asked = own.asked;
                unnumbered = own.unnumbered;
              }))
              (λ (e : (i ≢ id) × (get_elem? ps i ≡ some z)). k.each i z e.1)
              (at_set ps id i q z in_set))
              (λ (e : r ≡ z). subst (IsPass key.spool h x.lines) e (record {
                card = record {
                  seen = own.card.seen;
                  below = tt;
                  rises = tt;
                  halts = own.card.halts;
                  stops = omega arith;
                  fits = omega arith;
                  line = λ n has.
                      let same : p.made ≡ n = (let s : Some p.made ≡ Some n = has in cc) in
                      let empty : line_of x.lines n ≡ blank = k.unmade n (omega arith) in
                      (sym (ap (λ (l : Line). l.failed) empty), sym (ap (λ (l : Line). l.stops) empty));
                  unnumbered = λ z_is. absurd (let s : Some p.made ≡ None = z_is in cc);
                };
                notes = tt;
                base = λ n. own.base (0, zero_is);
                passes = λ n. own.passes (0, zero_is);
                asked = begins_self p.card.seen;
                unnumbered = λ z_is. refl;
              }))
              (at_snoc (set ps id q) r z i there);
          places = λ j. let s = snoc_total (owned j) ps id p q r at in let a = k.places j in omega arith;
          held = λ f. let s = snoc_total (λ z. total f z.held) ps id p q r at in let a = k.held f in omega arith;
          wide = k.wide;
          unmade = λ n above. k.unmade n (omega arith);
          faults = k.faults;
          fits = k.fits;
          halts = k.halts;
          keeps = k.keeps;
        }

    pub visit_keeps : (key x : Booked S) (id : ℕ) (p : PassState S E H) → (ps : List (PassState S E H)) → Parts facts Keeps key x ps → get_elem? ps id ≡ some p → Parts facts Keeps key x (set ps id p ++ visitor p.card.seen ∷ [])
    visit_keeps key x id p ps k at =
        let r : PassState S E H = visitor p.card.seen in
        record {
          made = k.made;
          few = k.few;
          given = λ n below. let s = snoc_total (numbered n) ps id p p r at in let a = k.given n below in omega arith;
          not_given = λ n above. let s = snoc_total (numbered n) ps id p p r at in let a = k.not_given n above in omega arith;
          lead = let s = snoc_total (λ z. is_number 0 z.card.number) ps id p p r at in let a = k.lead in omega arith;
          first = λ i z there is.
              ⊎_elim
              (λ (in_set : get_elem? (set ps id p) i ≡ some z). k.first i z (back ps id p at i z in_set) is)
              (λ (e : r ≡ z). absurd (let a : None ≡ Some 0 = ap (λ (w : PassState S E H). w.card.number) e ∙ is in cc))
              (at_snoc (set ps id p) r z i there);
          each = λ i z there.
              ⊎_elim
              (λ (in_set : get_elem? (set ps id p) i ≡ some z). k.each i z (back ps id p at i z in_set))
              (λ (e : r ≡ z). subst (IsPass key.spool (facts x.spool) x.lines) e (visitor_pass key.spool (facts x.spool) x.lines p.card.seen (k.each id p at).card.seen))
              (at_snoc (set ps id p) r z i there);
          places = λ j. let s = snoc_total (owned j) ps id p p r at in let a = k.places j in omega arith;
          held = λ f. let s = snoc_total (λ z. total f z.held) ps id p p r at in let a = k.held f in omega arith;
          wide = k.wide;
          unmade = k.unmade;
          faults = k.faults;
          fits = k.fits;
          halts = k.halts;
          keeps = k.keeps;
        }
      where
        back : (ps : List (PassState S E H)) (id : ℕ) (p : PassState S E H) → get_elem? ps id ≡ some p → (i : ℕ) (z : PassState S E H) → get_elem? (set ps id p) i ≡ some z → get_elem? ps i ≡ some z
        back ps id p at i z e =
            ⊎_elim
            (λ (s : (i ≡ id) × (p ≡ z)). subst (λ (n : ℕ). get_elem? ps n ≡ some z) (sym s.0) (at ∙ ap some s.1))
            (λ (s : (i ≢ id) × (get_elem? ps i ≡ some z)). s.1)
            (at_set ps id i p z e)

    pub join_keeps : (key x : Booked S) (id other : ℕ) (p o : PassState S E H) → HasNumber p → is_number 0 o.card.number ≡ 0 → (ps : List (PassState S E H)) → Parts facts Keeps key x ps → get_elem? ps id ≡ some p → other ≢ id → get_elem? (set ps id (joined p o)) other ≡ some o → Parts facts Keeps key x (set (set ps id (joined p o)) other (visitor []))
    join_keeps key x id other p o has not_lead ps k at apart there =
        let q : PassState S E H = joined p o in
        let r : PassState S E H = visitor [] in
        let h = facts x.spool in
        let lines = x.lines in
        let mine = k.each id p at in
        let its = k.each other o (sym (set_else ps id other q apart) ∙ there) in
        let long = longer_is p.card.seen o.card.seen h.history mine.card.seen its.card.seen in
        let size = begins_length p.card.seen q.card.seen long.1 in
        let numbers : (n : ℕ) → total (numbered n) (set (set ps id q) other r) ≡ total (numbered n) ps = λ n.
        let s = two_total (numbered n) ps id other p o q r at there in
        let a = total_append (λ (c : Card E). is_number n c.number) p.notes o.notes in omega arith in
        let whole : IsPass key.spool h lines q = record {
          card = record {
            seen = long.0;
            below = each_longer p.card.own (length p.card.seen) (length q.card.seen) size mine.card.below;
            rises = mine.card.rises;
            halts = mine.card.halts;
            stops = mine.card.stops;
            fits = mine.card.fits;
            line = mine.card.line;
            unnumbered = mine.card.unnumbered;
          };
          notes = (seen_card h lines p.card.seen mine.card.seen, (its.card, each_append (IsCard h lines) p.notes o.notes mine.notes its.notes));
          base = mine.base;
          passes = mine.passes;
          asked = begins_then p.asked p.card.seen q.card.seen mine.asked long.1;
          unnumbered = λ e. absurd (let z : Some has.0 ≡ None = sym has.1 ∙ e in cc);
        } in
        record {
          made = k.made;
          few = k.few;
          given = λ n below. numbers n ∙ k.given n below;
          not_given = λ n above. numbers n ∙ k.not_given n above;
          lead = let s = two_total (λ z. is_number 0 z.card.number) ps id other p o q r at there in let a = k.lead in omega arith;
          first = λ i z in_all is.
              ⊎_elim
              (λ (e : (i ≡ other) × (r ≡ z)). absurd (let a : None ≡ Some 0 = ap (λ (w : PassState S E H). w.card.number) e.1 ∙ is in cc))
              (λ (e : (i ≢ other) × (get_elem? (set ps id q) i ≡ some z)).
              ⊎_elim
              (λ (d : (i ≡ id) × (q ≡ z)). ap (λ (w : PassState S E H). w.made) (sym d.1) ∙ k.first id p at (ap (λ (w : PassState S E H). w.card.number) d.1 ∙ is))
              (λ (d : (i ≢ id) × (get_elem? ps i ≡ some z)). k.first i z d.1 is)
              (at_set ps id i q z e.1))
              (at_set (set ps id q) other i r z in_all);
          each = λ i z in_all.
              ⊎_elim
              (λ (e : (i ≡ other) × (r ≡ z)). subst (IsPass key.spool h lines) e.1 (visitor_pass key.spool h lines [] (begins_nil h.history)))
              (λ (e : (i ≢ other) × (get_elem? (set ps id q) i ≡ some z)).
              ⊎_elim
              (λ (d : (i ≡ id) × (q ≡ z)). subst (IsPass key.spool h lines) d.1 whole)
              (λ (d : (i ≢ id) × (get_elem? ps i ≡ some z)). k.each i z d.1)
              (at_set ps id i q z e.1))
              (at_set (set ps id q) other i r z in_all);
          places = λ j.
              let s = two_total (owned j) ps id other p o q r at there in
              let a = total_append (λ (c : Card E). total (is_same j) c.own) p.notes o.notes in
              let b = k.places j in omega arith;
          held = λ f.
              let s = two_total (λ z. total f z.held) ps id other p o q r at there in
              let a = total_append f p.held o.held in
              let b = k.held f in omega arith;
          wide = k.wide;
          unmade = k.unmade;
          faults = k.faults;
          fits = k.fits;
          halts = k.halts;
          keeps = k.keeps;
        }
      where
        each_longer : (own : List ℕ) (m n : ℕ) → m ≤ n → Each (λ j. j < m) own → Each (λ j. j < n) own
        each_longer [] m n le e = tt
        each_longer (j ∷ js) m n le e = (let a = e.0 in omega arith, each_longer js m n le e.1)
