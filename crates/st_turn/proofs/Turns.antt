-- Each kind of step on the table keeps the rule of turns, once for all calls.
use Rattle.std.proofs.Common.{◌≡◌, ◌≢◌, ◌⊎◌, inl, inr, ⊎_elim, ℕ, zero, suc, ◌<◌, List, [], ◌∷◌, ◌++◌, map, length, set, slice_index, eqb, Option, Some, None, refl, sym, ◌∙◌, ap, ap₂, subst, subst₂, arith}
use mathlib.Core.Option.{Option as Here, some, none, some-injective, some-ne-none}
use mathlib.Core.Logic.{dite}
use native.Mathlib.Decide.{ℕ_discrete}
use prog.Atomic.{either}
use lib.ListN.{get_elem?}
use lib.Seq.{map-set}
use Rattle.atomic_table.specs.Table.{State, Act, Valid, stepped, carried_after, step, keeps, takes, gives, Allows, Splits, Joins, Final, Seen, opening}
use Rattle.atomic_table.proofs.Lists.{at_set, set_here, set_else, set_again, at_snoc, at_longer, at_map}
use Rattle.st_turn.specs.Turn.{Caller, idle, turning, pass_of, Free, Busy, Turning, Takes, Gives, Looks}

module _ {A : Type 0} where
  -- what is found by an index is below the length
  pub at_length : (l : List A) (i : ℕ) (a : A) → get_elem? l i ≡ some a → i < length l
  at_length [] i a e = absurd (some-ne-none a (sym e))
  at_length (x ∷ xs) zero a e = omega arith
  at_length (x ∷ xs) (suc i) a e = let h = at_length xs i a e in omega arith

  one_at : (l : List A) (i : ℕ) (a b : A) → get_elem? l i ≡ some a → get_elem? l i ≡ some b → a ≡ b
  one_at l i a b e f = some-injective a b (sym e ∙ f)

map_append : {A B : Type 0} (f : A → B) (l m : List A) → map f (l ++ m) ≡ map f l ++ map f m
map_append f [] m = refl
map_append f (x ∷ xs) m = ap (λ (zs : List _). f x ∷ zs) (map_append f xs m)

some_is : {X : Type 0} (x y : X) → Some x ≡ Some y → x ≡ y
some_is x y e = cc

abbrev slot_of : {X : Type 0} → X → List (ℕ × Option X) → Option X
slot_of x [] = Some x
slot_of x (s ∷ ss) = s.1

slot_is : {X : Type 0} (x y : X) → ◌≡◌ {A = List (ℕ × Option X)} ((0, Some x) ∷ []) ((0, Some y) ∷ []) → x ≡ y
slot_is {X = X} x y e = some_is x y (ap (slot_of x) e)

same_words : (ws : List ℕ) → set ws 0 (slice_index ws 0) ≡ ws
same_words [] = refl
same_words (w ∷ ws) = refl

module _ {X P : Type 0} where
  -- a fact of a state, from that of the state with its words and slots written out
  written : (F : State (Option X) (Caller X P) → Type 0) (s : State (Option X) (Caller X P)) (ws : List ℕ) (hs : List (Here (Option X))) → s.words ≡ ws → s.homes ≡ hs
      → F (record { words = ws; homes = hs; views = s.views }) → F s
  written F s ws hs e h f =
      subst (λ (a : List ℕ). F (record { words = a; homes = s.homes; views = s.views })) (sym e)
      (subst (λ (b : List (Here (Option X))). F (record { words = ws; homes = b; views = s.views })) (sym h) f)

  -- a set that leaves the pass leaves the list of passes
  same_passes : (ds : List (Caller X P)) (i : ℕ) (d e : Caller X P) → get_elem? ds i ≡ some d → e.pass ≡ d.pass → map pass_of (set ds i e) ≡ map pass_of ds
  same_passes ds i d e at p =
      map-set pass_of ds i e ∙ set_again (map pass_of ds) i e.pass (at_map pass_of ds i d at ∙ ap some (sym p))

  turn_idle : (vs : List (Caller X P)) (i : ℕ) (d : Caller X P) (x : X) (p : P) → get_elem? vs i ≡ some d → d.taken ≡ None → get_elem? vs i ≡ some (turning x p) → ⊥
  turn_idle vs i d x p at dn e =
      let same : d ≡ turning x p = one_at vs i d (turning x p) at e in
      let h : Some x ≡ None = sym (ap (λ (c : Caller X P). c.taken) same) ∙ dn in
      cc

  -- whoever has the turn keeps it where another caller changes
  turn_set : (able : P → Type 0) (ws : List ℕ) (hs : List (Here (Option X))) (vs : List (Caller X P)) (i : ℕ) (d e : Caller X P) (x : X) → get_elem? vs i ≡ some d → d.taken ≡ None → e.taken ≡ None
      → Free (record { words = ws; homes = hs; views = vs }) x ⊎ Busy able (record { words = ws; homes = hs; views = vs }) x
      → Free (record { words = ws; homes = hs; views = set vs i e }) x ⊎ Busy able (record { words = ws; homes = hs; views = set vs i e }) x
  turn_set able ws hs vs i d e x at dn en turn =
      ⊎_elim
      (λ (f : Free (record { words = ws; homes = hs; views = vs }) x). inl (record {
        words = f.words;
        homes = f.homes;
        none_turns = λ j c h. ⊎_elim (λ s. ap (λ (k : Caller X P). k.taken) (sym s.1) ∙ en) (λ s. f.none_turns j c s.1) (at_set vs i j e c h);
      }))
      (λ (b : Busy able (record { words = ws; homes = hs; views = vs }) x). inr (record {
        words = b.words;
        homes = b.homes;
        by = b.by;
        pass = b.pass;
        turns =
            dite (ℕ_discrete b.by i)
            (λ s. absurd (turn_idle vs i d x b.pass at dn (subst (λ (k : ℕ). get_elem? vs k ≡ some (turning x b.pass)) s b.turns)))
            (λ n. set_else vs i b.by e n ∙ b.turns);
        is_able = b.is_able;
        others = λ j c h n. ⊎_elim (λ s. ap (λ (k : Caller X P). k.taken) (sym s.1) ∙ en) (λ s. b.others j c s.1 n) (at_set vs i j e c h);
      }))
      turn

  -- and where one comes without the turn
  turn_more : (able : P → Type 0) (ws : List ℕ) (hs : List (Here (Option X))) (vs : List (Caller X P)) (e : Caller X P) (x : X) → e.taken ≡ None
      → Free (record { words = ws; homes = hs; views = vs }) x ⊎ Busy able (record { words = ws; homes = hs; views = vs }) x
      → Free (record { words = ws; homes = hs; views = vs ++ e ∷ [] }) x ⊎ Busy able (record { words = ws; homes = hs; views = vs ++ e ∷ [] }) x
  turn_more able ws hs vs e x en turn =
      ⊎_elim
      (λ (f : Free (record { words = ws; homes = hs; views = vs }) x). inl (record {
        words = f.words;
        homes = f.homes;
        none_turns = λ j c h. ⊎_elim (λ s. f.none_turns j c s) (λ s. ap (λ (k : Caller X P). k.taken) (sym s) ∙ en) (at_snoc vs e c j h);
      }))
      (λ (b : Busy able (record { words = ws; homes = hs; views = vs }) x). inr (record {
        words = b.words;
        homes = b.homes;
        by = b.by;
        pass = b.pass;
        turns = at_longer vs (e ∷ []) b.by (turning x b.pass) b.turns;
        is_able = b.is_able;
        others = λ j c h n. ⊎_elim (λ s. b.others j c s n) (λ s. ap (λ (k : Caller X P). k.taken) (sym s) ∙ en) (at_snoc vs e c j h);
      }))
      turn

  only : (d : Caller X P) (i : ℕ) (c : Caller X P) → get_elem? (d ∷ []) i ≡ some c → d ≡ c
  only d zero c e = some-injective d c e
  only d (suc i) c e = absurd (some-ne-none c (sym e))

  look_turn : (able : P → Type 0) (s : State (Option X) (Caller X P)) (i : ℕ) (d : Caller X P) (x : X) → get_elem? s.views i ≡ some d → Free s x ⊎ Busy able s x
      → Free (record { words = set s.words 0 (slice_index s.words 0); homes = s.homes; views = set s.views i d }) x ⊎ Busy able (record { words = set s.words 0 (slice_index s.words 0); homes = s.homes; views = set s.views i d }) x
  look_turn able s i d x at turn =
      subst (λ (t : State (Option X) (Caller X P)). Free t x ⊎ Busy able t x)
      (ap₂ (λ (ws : List ℕ) (vs : List (Caller X P)). record { words = ws; homes = s.homes; views = vs }) (sym (same_words s.words)) (sym (set_again s.views i d at)))
      turn

  module _ (able : P → Type 0) (parts : X → List P → Type 0) where
    -- a try for the turn: it is had where 0 is found, and else nothing changes
    pub try_takes : (slots id : ℕ) (p : P) (tells : X → P → Type 0) → able p → ((x : X) (ps : List P) → parts x ps → get_elem? ps id ≡ some p → tells x p)
        → Allows (Turning able parts) slots id (idle p, []) 0 (λ n. either (eqb n 0) 1 n) (Takes tells (step slots 0 0 1 none) (idle p, []))
    try_takes slots id p tells is_able told s holds size at small =
        ⊎_elim
        (λ (f : Free s holds.now).
        written
        (λ (t : State (Option X) (Caller X P)).
        (w : Caller X P) × (a : Act (Option X)) × Valid t.homes [] a × Turning able parts (stepped t 0 (either (eqb (slice_index t.words 0) 0) 1 (slice_index t.words 0)) id [] w a)
        × Takes tells (step slots 0 0 1 none) (idle p, []) (slice_index t.words 0) (w, carried_after [] a))
        s (0 ∷ []) (some (Some holds.now) ∷ []) f.words f.homes (
          turning holds.now p,
          takes 0 (Some holds.now),
          refl,
          record {
            now = holds.now;
            turn = inr (record {
              words = refl;
              homes = refl;
              by = id;
              pass = p;
              turns = set_here s.views id (turning holds.now p) (at_length s.views id (idle p) at);
              is_able = is_able;
              others = λ j c h n. ⊎_elim (λ e. absurd (n e.0)) (λ e. f.none_turns j c e.1) (at_set s.views id j (turning holds.now p) c h);
            });
            kept = subst (λ (ps : List P). parts holds.now ps) (sym (same_passes s.views id (idle p) (turning holds.now p) at refl)) holds.kept;
          },
          record {
            hit = λ z. (holds.now, refl, told holds.now (map pass_of s.views) holds.kept (at_map pass_of s.views id (idle p) at));
            miss = λ n. absurd (n refl);
          },
        ))
        (λ (b : Busy able s holds.now).
        written
        (λ (t : State (Option X) (Caller X P)).
        (w : Caller X P) × (a : Act (Option X)) × Valid t.homes [] a × Turning able parts (stepped t 0 (either (eqb (slice_index t.words 0) 0) 1 (slice_index t.words 0)) id [] w a)
        × Takes tells (step slots 0 0 1 none) (idle p, []) (slice_index t.words 0) (w, carried_after [] a))
        s (1 ∷ []) (none ∷ []) b.words b.homes (
          idle p,
          keeps,
          tt,
          record {
            now = holds.now;
            turn = turn_set able (1 ∷ []) (none ∷ []) s.views id (idle p) (idle p) holds.now at refl refl (inr (record { words = refl; homes = refl; by = b.by; pass = b.pass; turns = b.turns; is_able = b.is_able; others = b.others }));
            kept = subst (λ (ps : List P). parts holds.now ps) (sym (same_passes s.views id (idle p) (idle p) at refl)) holds.kept;
          },
          record { hit = λ (z : 1 ≡ 0). absurd (omega arith); miss = λ n. refl },
        ))
        holds.turn

    -- the turn is given back with another value and another pass
    pub gives_back : (slots id : ℕ) (x y : X) (p q : P) (moves : X → X → P → P → Type 0) → ((ps : List P) → parts x ps → get_elem? ps id ≡ some p → parts y (set ps id q)) → moves x y p q
        → Allows (Turning able parts) slots id (turning x p, (0, Some y) ∷ []) 0 (λ _. 0) (λ _. Gives moves (step slots 0 0 0 none) (turning x p, (0, Some y) ∷ []) 0)
    gives_back slots id x y p q moves keep moved s holds size at small =
        ⊎_elim
        (λ (f : Free s holds.now). absurd (let h : Some x ≡ None = f.none_turns id (turning x p) at in cc))
        (λ (b : Busy able s holds.now).
        let by : id ≡ b.by = dite (ℕ_discrete id b.by) (λ e. e) (λ n. absurd (let h : Some x ≡ None = b.others id (turning x p) at n in cc)) in
        let same : turning holds.now b.pass ≡ turning x p = one_at s.views id (turning holds.now b.pass) (turning x p) (subst (λ (k : ℕ). get_elem? s.views k ≡ some (turning holds.now b.pass)) (sym by) b.turns) at in
        let now : holds.now ≡ x = some_is holds.now x (ap (λ (c : Caller X P). c.taken) same) in
        let kept : parts x (map pass_of s.views) = subst (λ (z : X). parts z (map pass_of s.views)) now holds.kept in
        written
        (λ (t : State (Option X) (Caller X P)).
        (w : Caller X P) × (a : Act (Option X)) × Valid t.homes ((0, Some y) ∷ []) a × Turning able parts (stepped t 0 0 id ((0, Some y) ∷ []) w a)
        × Gives moves (step slots 0 0 0 none) (turning x p, (0, Some y) ∷ []) 0 (w, carried_after ((0, Some y) ∷ []) a))
        s (1 ∷ []) (none ∷ []) b.words b.homes (
          idle q,
          gives,
          tt,
          record {
            now = y;
            turn = inl (record {
              words = refl;
              homes = refl;
              none_turns = λ j c h. ⊎_elim (λ e. ap (λ (k : Caller X P). k.taken) (sym e.1)) (λ e. b.others j c e.1 (λ z. e.0 (z ∙ sym by))) (at_set s.views id j (idle q) c h);
            });
            kept = subst (λ (ps : List P). parts y ps) (sym (map-set pass_of s.views id (idle q))) (keep (map pass_of s.views) kept (at_map pass_of s.views id (turning x p) at));
          },
          record {
            gives = λ a b e h.
                (refl, subst₂ (λ (k m : X). moves k m p q) (some_is x a e) (slot_is y b h) moved);
          },
        ))
        holds.turn

    -- a look changes nothing
    pub looks_on : (slots id : ℕ) (p : P) (tells : P → Type 0) → ((x : X) (ps : List P) → parts x ps → get_elem? ps id ≡ some p → tells p)
        → Allows (Turning able parts) slots id (idle p, []) 0 (λ n. n) (Looks tells (step slots 0 0 0 none) (idle p, []))
    looks_on slots id p tells told s holds size at small = (
      idle p,
      keeps,
      tt,
      record {
        now = holds.now;
        turn = look_turn able s id (idle p) holds.now at holds.turn;
        kept = subst (λ (ps : List P). parts holds.now ps) (sym (same_passes s.views id (idle p) (idle p) at refl)) holds.kept;
      },
      record { same = refl; told = told holds.now (map pass_of s.views) holds.kept (at_map pass_of s.views id (idle p) at) },
    )

    -- a caller without the turn is cut in two
    pub splits : (id : ℕ) (p q r : P) → ((x : X) (ps : List P) → parts x ps → get_elem? ps id ≡ some p → parts x (set ps id q ++ r ∷ []))
        → Splits (Turning able parts) id (idle p) (idle q) (idle r)
    splits id p q r keep s holds at =
        record {
          now = holds.now;
          turn = turn_more able s.words s.homes (set s.views id (idle q)) (idle r) holds.now refl (turn_set able s.words s.homes s.views id (idle p) (idle q) holds.now at refl refl holds.turn);
          kept =
              subst (λ (ps : List P). parts holds.now ps)
              (sym (map_append pass_of (set s.views id (idle q)) (idle r ∷ []) ∙ ap (λ (ps : List P). ps ++ r ∷ []) (map-set pass_of s.views id (idle q))))
              (keep holds.now (map pass_of s.views) holds.kept (at_map pass_of s.views id (idle p) at));
        }

    -- a caller without the turn takes in another one
    pub joins : (id other : ℕ) (p o q r : P) → ((x : X) (ps : List P) → parts x ps → get_elem? ps id ≡ some p → other ≢ id → get_elem? (set ps id q) other ≡ some o → parts x (set (set ps id q) other r))
        → Joins (Turning able parts) id (idle p) other (idle o) (idle q) (idle r)
    joins id other p o q r keep s holds at apart there =
        let both : map pass_of (set s.views id (idle q)) ≡ set (map pass_of s.views) id q = map-set pass_of s.views id (idle q) in
        record {
          now = holds.now;
          turn = turn_set able s.words s.homes (set s.views id (idle q)) other (idle o) (idle r) holds.now there refl refl (turn_set able s.words s.homes s.views id (idle p) (idle q) holds.now at refl refl holds.turn);
          kept =
              subst (λ (ps : List P). parts holds.now ps)
              (sym (map-set pass_of (set s.views id (idle q)) other (idle r) ∙ ap (λ (ps : List P). set ps other r) both))
              (keep holds.now (map pass_of s.views) holds.kept (at_map pass_of s.views id (idle p) at) apart
              (subst (λ (ps : List P). get_elem? ps other ≡ some o) both (at_map pass_of (set s.views id (idle q)) other (idle o) there)));
        }

    -- the table at the start: one caller, and the value at home
    pub opens : (x : X) (p : P) → parts x (p ∷ []) → Turning able parts (opening (0 ∷ []) (Some x ∷ []) (idle p))
    opens x p kept =
        record {
          now = x;
          turn = inl (record { words = refl; homes = refl; none_turns = λ j c h. ap (λ (k : Caller X P). k.taken) (sym (only (idle p) j c h)) });
          kept = kept;
        }

    -- The table at the end, if only this caller may have the turn, and hasn't: the value is at home.
    pub ends : (id : ℕ) (p : P) (ws : List ℕ) (xs : List (Option X)) → ((x : X) (ps : List P) (i : ℕ) (q : P) → parts x ps → get_elem? ps id ≡ some p → get_elem? ps i ≡ some q → able q → i ≡ id)
        → Final (Seen (Turning able parts) id (idle p)) ws xs
        → (x : X) × (ps : List P) × (get_elem? xs 0 ≡ some (Some x)) × parts x ps × (get_elem? ps id ≡ some p)
    ends id p ws xs alone final =
        let s = final.0 in
        let rule : Turning able parts s = final.1.0 in
        let at : get_elem? s.views id ≡ some (idle p) = final.1.1 in
        let here = at_map pass_of s.views id (idle p) at in (
          rule.now,
          map pass_of s.views,
          ⊎_elim
              (λ (f : Free s rule.now). final.4 0 (Some rule.now) (ap (λ (hs : List (Here (Option X))). get_elem? hs 0) f.homes))
              (λ (b : Busy able s rule.now).
              let by = alone rule.now (map pass_of s.views) b.by b.pass rule.kept here (at_map pass_of s.views b.by (turning rule.now b.pass) b.turns) b.is_able in
              absurd (turn_idle s.views id (idle p) rule.now b.pass at refl (subst (λ (k : ℕ). get_elem? s.views k ≡ some (turning rule.now b.pass)) by b.turns)))
              rule.turn,
          rule.kept,
          here,
        )
