-- What two passes know after they met, and what one knows that takes in all others.
use Rattle.std.proofs.Common.{◌≡◌, ◌⊎◌, ⊎_elim, inl, inr, ℕ, ◌+◌, ◌<◌, ◌≤◌, List, [], ◌∷◌, ◌++◌, length, map, cond, nat_lt, refl, sym, ◌∙◌, ap, subst, arith, append_assoc, append-nil, length-append}
use Rattle.atomic_table.specs.Seated.{TableId}
use Rattle.st_disk.specs.Events.{Event}
use Rattle.st_spool.specs.declared.state.Span.{Span}
use Rattle.st_spool.proofs.Keeping.{by_test}
use Rattle.st_turn.specs.Parts.{PassState, IsPrefix, is_number}
use Rattle.st_turn.specs.Steps.{visitor, longer, joined}
use Rattle.st_turn.specs.Telling.{Saw}
use Rattle.st_turn.specs.Passes.{PassView, state_of, Met, AreOf}
use Rattle.st_turn.specs.Ends.{gathered, AreNumbered}
use Rattle.st_turn.proofs.Totals.{begins_both, same_other}
use Rattle.st_turn.proofs.Joined.{longer_is}

module _ {E : Type 0} where
  is_longer : (xs ys : List E) → ((length xs < length ys) × (longer xs ys ≡ ys)) ⊎ ((length ys ≤ length xs) × (longer xs ys ≡ xs))
  is_longer xs ys =
      by_test (nat_lt (length xs) (length ys)) (λ b. ((length xs < length ys) × (cond b ys xs ≡ ys)) ⊎ ((length ys ≤ length xs) × (cond b ys xs ≡ xs)))
      (λ e. inl (grind arith, refl))
      (λ e. inr (grind arith, refl))

  longer_self : (xs : List E) → longer xs xs ≡ xs
  longer_self xs = by_test (nat_lt (length xs) (length xs)) (λ b. cond b xs xs ≡ xs) (λ e. refl) (λ e. refl)

  longer_twice : (xs ys : List E) → longer xs (longer ys xs) ≡ longer xs ys
  longer_twice xs ys =
      ⊎_elim
      (λ (e : (length ys < length xs) × (longer ys xs ≡ xs)).
      ap (longer xs) e.1 ∙ longer_self xs ∙ ⊎_elim (λ (d : (length xs < length ys) × (longer xs ys ≡ ys)). absurd (let a = d.0 in let b = e.0 in omega arith)) (λ (d : (length ys ≤ length xs) × (longer xs ys ≡ xs)). sym d.1) (is_longer xs ys))
      (λ (e : (length xs ≤ length ys) × (longer ys xs ≡ ys)). ap (longer xs) e.1)
      (is_longer ys xs)

  one_length : (xs ys zs : List E) → IsPrefix xs zs → IsPrefix ys zs → length xs ≡ length ys → xs ≡ ys
  one_length xs ys zs p q e =
      let b = begins_both xs ys zs p q (omega arith) in
      let l : length ys ≡ length xs + length b.0 = ap length b.1 ∙ length-append xs b.0 in
      sym (b.1 ∙ ap (λ (k : List E). xs ++ k) (empty b.0 (omega arith)) ∙ append-nil xs)
    where
      empty : (ks : List E) → length ks ≡ 0 → ks ≡ []
      empty [] z = refl
      empty (k ∷ ks) z = absurd (omega arith)

  longer_swap : (xs ys zs : List E) → IsPrefix xs zs → IsPrefix ys zs → longer xs ys ≡ longer ys xs
  longer_swap xs ys zs p q =
      ⊎_elim
      (λ (e : (length xs < length ys) × (longer xs ys ≡ ys)). ⊎_elim
      (λ (d : (length ys < length xs) × (longer ys xs ≡ xs)). absurd (let a = d.0 in let b = e.0 in omega arith))
      (λ (d : (length xs ≤ length ys) × (longer ys xs ≡ ys)). e.1 ∙ sym d.1) (is_longer ys xs))
      (λ (e : (length ys ≤ length xs) × (longer xs ys ≡ xs)). ⊎_elim
      (λ (d : (length ys < length xs) × (longer ys xs ≡ xs)). e.1 ∙ sym d.1)
      (λ (d : (length xs ≤ length ys) × (longer ys xs ≡ ys)). e.1 ∙ one_length xs ys zs p q (let a = d.0 in let b = e.0 in omega arith) ∙ sym d.1) (is_longer ys xs))
      (is_longer xs ys)

module _ {S : Type 0} where
  -- a pass that took in a visitor with a history that is comparable with its own
  met_one : (p o q : PassView S) (seen : List Event) → q.loans ≡ p.loans → q.table ≡ p.table → q.id ≡ p.id → q.state ≡ joined p.state (visitor seen) → longer p.state.card.seen seen ≡ longer p.state.card.seen o.state.card.seen
      → IsPrefix p.state.card.seen (longer p.state.card.seen o.state.card.seen) → IsPrefix o.state.card.seen (longer p.state.card.seen o.state.card.seen) → Met p o q
  met_one p o q seen loans table id state same own its =
      let seen_is : q.state.card.seen ≡ longer p.state.card.seen o.state.card.seen = ap (λ (s : PassState S Event Span). s.card.seen) state ∙ same in
      record {
        loans = loans;
        table = table;
        id = id;
        seen = seen_is;
        own = subst (λ (k : List Event). IsPrefix p.state.card.seen k) (sym seen_is) own;
        its = subst (λ (k : List Event). IsPrefix o.state.card.seen k) (sym seen_is) its;
        same = (
          subst (λ (s : PassState S Event Span). s.card ≡ record p.state.card { seen = s.card.seen }) (sym state) refl,
          ap (λ (s : PassState S Event Span). s.base) state,
          ap (λ (s : PassState S Event Span). s.passes) state,
          ap (λ (s : PassState S Event Span). s.made) state,
          ap (λ (s : PassState S Event Span). s.held) state ∙ append-nil p.state.held,
          ap (λ (s : PassState S Event Span). s.asks) state,
          ap (λ (s : PassState S Event Span). s.asked) state,
        );
      }

  pub met_both : (p o a b : PassView S) → a.loans ≡ p.loans → b.loans ≡ o.loans → b.table ≡ o.table → b.id ≡ o.id → b.state ≡ joined o.state (visitor p.state.card.seen) → Saw b.state → a.table ≡ p.table → a.id ≡ p.id → a.state ≡ joined p.state (visitor b.state.card.seen)
      → Met p o a × Met o p b × (a.state.card.seen ≡ b.state.card.seen)
  met_both p o a b al bl bt bi bs saw at ai as_is =
      let s : Saw (joined o.state (visitor p.state.card.seen)) = subst (λ (z : PassState S Event Span). Saw z) bs saw in
      let ps : IsPrefix p.state.card.seen s.history = s.notes.1.0 in
      let os : IsPrefix o.state.card.seen s.history = s.notes.0 in
      let po = longer_is p.state.card.seen o.state.card.seen s.history ps os in
      let op = longer_is o.state.card.seen p.state.card.seen s.history os ps in
      let b_seen : b.state.card.seen ≡ longer o.state.card.seen p.state.card.seen = ap (λ (z : PassState S Event Span). z.card.seen) bs in
      let twice : longer p.state.card.seen b.state.card.seen ≡ longer p.state.card.seen o.state.card.seen = ap (longer p.state.card.seen) b_seen ∙ longer_twice p.state.card.seen o.state.card.seen in (
        met_one p o a b.state.card.seen al at ai as_is twice po.1 po.2,
        met_one o p b p.state.card.seen bl bt bi bs refl op.1 op.2,
        ap (λ (z : PassState S Event Span). z.card.seen) as_is ∙ twice ∙ longer_swap p.state.card.seen o.state.card.seen s.history ps os ∙ sym b_seen,
      )

  -- the first pass as it takes in the others, the last one first
  pub record Gathers (table : TableId) (all now : List (PassView S)) (lead : PassView S) : Type 0 where
    pub first : PassView S
    pub back : List (PassView S)
    pub all_is : all ≡ first ∷ (now ++ back)
    pub here : lead.table ≡ table
    pub of : AreOf table now
    pub numbers : AreNumbered 0 (map state_of all)
    pub state : lead.state ≡ gathered first.state (map state_of back)

  of_last : (table : TableId) (xs : List (PassView S)) (o : PassView S) → AreOf table (xs ++ o ∷ []) → AreOf table xs × (o.table ≡ table)
  of_last table [] o of = (tt, of.0)
  of_last table (x ∷ xs) o of = let r = of_last table xs o of.1 in ((of.0, r.0), r.1)

  later_number : (n : ℕ) (xs ys : List (PassView S)) (o : PassView S) → 1 ≤ n → AreNumbered n (map state_of (xs ++ o ∷ ys)) → is_number 0 o.state.card.number ≡ 0
  later_number n [] ys o le numbers = ap (is_number 0) numbers.0 ∙ same_other 0 n (λ e. omega arith)
  later_number n (x ∷ xs) ys o le numbers = later_number (n + 1) xs ys o (omega arith) numbers.2

  pub gathers_from : (table : TableId) (all now : List (PassView S)) (first : PassView S) → all ≡ first ∷ now → AreOf table all → AreNumbered 0 (map state_of all) → Gathers table all now first
  gathers_from table all now first e of numbers =
      let both : AreOf table (first ∷ now) = subst (AreOf table) e of in
      record {
        first = first;
        back = [];
        all_is = e ∙ ap (λ (k : List (PassView S)). first ∷ k) (sym (append-nil now));
        here = both.0;
        of = both.1;
        numbers = numbers;
        state = refl;
      }

  pub gathers_last : (table : TableId) (all xs now : List (PassView S)) (o lead : PassView S) → now ≡ xs ++ o ∷ [] → Gathers table all now lead → (o.table ≡ table) × (is_number 0 o.state.card.number ≡ 0)
      × ((next : PassView S) → next.table ≡ lead.table → next.state ≡ joined lead.state o.state → Gathers table all xs next)
  gathers_last table all xs now o lead e k =
      let ofs = of_last table xs o (subst (AreOf table) e k.of) in
      let split : all ≡ k.first ∷ (xs ++ (o ∷ k.back)) = k.all_is ∙ ap (λ (n : List (PassView S)). k.first ∷ (n ++ k.back)) e ∙ ap (λ (n : List (PassView S)). k.first ∷ n) (append_assoc xs (o ∷ []) k.back) in
      let numbers : AreNumbered 0 (map state_of (k.first ∷ (xs ++ (o ∷ k.back)))) = subst (λ (n : List (PassView S)). AreNumbered 0 (map state_of n)) split k.numbers in (
        ofs.1,
        later_number 1 xs k.back o (omega arith) numbers.2,
        λ next t s. record {
          first = k.first;
          back = o ∷ k.back;
          all_is = split;
          here = t ∙ k.here;
          of = ofs.0;
          numbers = k.numbers;
          state = s ∙ ap (λ (z : PassState S Event Span). joined z o.state) k.state;
        },
      )
