-- A stable sort by time of the records that match is the answer.
use Rattle.std.proofs.Common.{◌≡◌, ℕ, zero, suc, ◌+◌, ◌<◌, List, [], ◌∷◌, ◌++◌, map, Bool, true, false, cond, refl, sym, ap, subst, ◌∙◌, inl, inr, ◌⊎◌, arith, All, Contains, Some, None}
use Rattle.std.specs.Prelude.{slice_get, ⊤}
use Rattle.std.specs.List.{filter}
use Rattle.std.specs.List.Sorted.{ties}
use Rattle.std.proofs.lemmas.List.{map-append}
use Rattle.std.proofs.lemmas.List.Elements.{filter-append, All-cons, All-head, All-tail, All-weaker, All-contains, All-contains_itself, Contains-append_cases, Contains-append_left, Contains-append_right}
use Rattle.st_base.specs.Records.{Rec}
use Rattle.st_base.specs.Ascending.{IsAscending}
use Rattle.st_query.specs.Answer.{Numbered, Precedes}
use Rattle.st_base.proofs.Ascending.{head_in, tail_in, none_in, in_cases}
use Rattle.steno.specs.Gathering.{Selects}
use Rattle.steno.proofs.TimeOrder.{earlier, Earlier, Same, tie_then, tie_from, no_tie}

abbrev pub packet : Numbered → Rec
packet p = p.packet

abbrev pub packets : List Numbered → List Rec
packets ps = map packet ps

-- the numbers rise
abbrev pub Climbs : List Numbered → Type 0
Climbs [] = ⊤
Climbs (p ∷ ps) = All (λ (q : Numbered). p.number < q.number) ps × Climbs ps

some_same : (a b : Rec) → Some a ≡ Some b → a ≡ b
some_same a b e = cc

numbered_same : (p q : Numbered) → p.number ≡ q.number → p.packet ≡ q.packet → p ≡ q
numbered_same p q e f = ap (λ n. record { number = n; packet = p.packet }) e ∙ ap (λ r. record { number = q.number; packet = r }) f

abbrev pub There : (Rec → Type 0) → ℕ → List Rec → List Numbered → Type 0
There M from rs ps = (p : Numbered) → Contains ps p → (k : ℕ) × (p.number ≡ from + k) × (slice_get rs k ≡ Some p.packet) × M p.packet

abbrev pub Back : (Rec → Type 0) → ℕ → List Rec → List Numbered → Type 0
Back M from rs ps = (p : Numbered) (k : ℕ) → p.number ≡ from + k → slice_get rs k ≡ Some p.packet → M p.packet → Contains ps p

later : (M : Rec → Type 0) (from : ℕ) (r : Rec) (rs : List Rec) (ps : List Numbered) → There M (suc from) rs ps → There M from (r ∷ rs) ps
later M from r rs ps t p c = let found = t p c in (suc found.0, omega (arith, found.1), found.2, found.3)

not_here : (M : Rec → Type 0) (from : ℕ) (r : Rec) (rs : List Rec) (ps : List Numbered) → (M r → ⊥) → Back M (suc from) rs ps → Back M from (r ∷ rs) ps
not_here M from r rs ps none b p zero at is m = let same : r ≡ p.packet = some_same r p.packet is in absurd (none (subst M (sym same) m))
not_here M from r rs ps none b p (suc k) at is m = b p k (omega (arith, at)) is m

above : (M : Rec → Type 0) (from : ℕ) (rs : List Rec) (ps : List Numbered) → There M (suc from) rs ps → All (λ (q : Numbered). from < q.number) ps
above M from rs ps t = All-weaker (Contains ps) (λ (q : Numbered). from < q.number) (λ q c. let found = t q c in omega (arith, found.1)) ps (All-contains_itself ps)

here_or_later : (M : Rec → Type 0) (from : ℕ) (r : Rec) (rs : List Rec) (ps : List Numbered) → M r → There M (suc from) rs ps
    → (p : Numbered) → (record { number = from; packet = r } ≡ p) ⊎ Contains ps p → (k : ℕ) × (p.number ≡ from + k) × (slice_get (r ∷ rs) k ≡ Some p.packet) × M p.packet
here_or_later M from r rs ps m t p (inl e) =
    let place : from ≡ p.number = ap (λ (q : Numbered). q.number) e in
    let same : r ≡ p.packet = ap (λ (q : Numbered). q.packet) e in
    (zero, omega (arith, place), ap Some same, subst M same m)
here_or_later M from r rs ps m t p (inr c) = later M from r rs ps t p c

found_here : (M : Rec → Type 0) (from : ℕ) (r : Rec) (rs : List Rec) (ps : List Numbered) → Back M (suc from) rs ps → Back M from (r ∷ rs) (record { number = from; packet = r } ∷ ps)
found_here M from r rs ps b p zero at is m =
    let first : Numbered = record { number = from; packet = r } in
    let same : r ≡ p.packet = some_same r p.packet is in
    let place : p.number ≡ from = omega (arith, at) in
    let here : first ≡ p = numbered_same first p (sym place) same in
    subst (Contains (first ∷ ps)) here (head_in first ps)
found_here M from r rs ps b p (suc k) at is m = tail_in (record { number = from; packet = r }) ps p (b p k (omega (arith, at)) is m)

-- The selected records with their numbers, of a list whose first number is `from`.
pub record Placement (M : Rec → Type 0) (from : ℕ) (rs xs : List Rec) : Type 0 where
  pub ps : List Numbered
  pub same : packets ps ≡ xs
  pub climbs : Climbs ps
  pub there : (p : Numbered) → Contains ps p → (k : ℕ) × (p.number ≡ from + k) × (slice_get rs k ≡ Some p.packet) × M p.packet
  pub back : (p : Numbered) (k : ℕ) → p.number ≡ from + k → slice_get rs k ≡ Some p.packet → M p.packet → Contains ps p

pub placement : (M : Rec → Type 0) (from : ℕ) (rs xs : List Rec) → Selects M rs xs → Placement M from rs xs
placement M from [] xs h = record {
  ps = [];
  same = sym h;
  climbs = tt;
  there = λ p c. absurd (none_in p c);
  back = λ p k at is m. let bad : None ≡ Some p.packet = is in cc;
}
placement M from (r ∷ rs) xs (inl h) =
    let rest = placement M (suc from) rs xs h.1 in
    record {
      ps = rest.ps;
      same = rest.same;
      climbs = rest.climbs;
      there = later M from r rs rest.ps rest.there;
      back = λ p k. not_here M from r rs rest.ps h.0 rest.back p k;
    }
placement M from (r ∷ rs) xs (inr h) =
    let rest = placement M (suc from) rs h.1.0 h.1.2 in
    let first : Numbered = record { number = from; packet = r } in
    record {
      ps = first ∷ rest.ps;
      same = ap (λ l. r ∷ l) rest.same ∙ sym h.1.1;
      climbs = (above M from rs rest.ps rest.there, rest.climbs);
      there = λ p c. here_or_later M from r rs rest.ps h.0 rest.there p (in_cases first rest.ps p c);
      back = λ p k at is m. found_here M from r rs rest.ps rest.back p k at is m;
    }

-- The numbered records, cut at the first that ties with a time.
pub record Cut (y : Rec) (ps : List Numbered) : Type 0 where
  pub before : List Numbered
  pub middle : Numbered
  pub after : List Numbered
  pub whole : ps ≡ before ++ middle ∷ after
  pub is : middle.packet ≡ y
  pub none : (q : Numbered) → Contains before q → ties earlier y q.packet ≡ false

cut_here : (y : Rec) (p : Numbered) (ps : List Numbered) → p.packet ≡ y → Cut y (p ∷ ps)
cut_here y p ps is = record { before = []; middle = p; after = ps; whole = refl; is = is; none = λ q c. absurd (none_in q c) }

cut_later : (y : Rec) (p : Numbered) (ps : List Numbered) → ties earlier y p.packet ≡ false → Cut y ps → Cut y (p ∷ ps)
cut_later y p ps e cut = record {
  before = p ∷ cut.before;
  middle = cut.middle;
  after = cut.after;
  whole = ap (λ l. p ∷ l) cut.whole;
  is = cut.is;
  none = λ q c. none_more y p cut.before e cut.none q (in_cases p cut.before q c);
} where
  none_more : (y : Rec) (p : Numbered) (before : List Numbered) → ties earlier y p.packet ≡ false
      → ((q : Numbered) → Contains before q → ties earlier y q.packet ≡ false) → (q : Numbered) → (p ≡ q) ⊎ Contains before q → ties earlier y q.packet ≡ false
  none_more y p before e none q (inl same) = subst (λ (x : Numbered). ties earlier y x.packet ≡ false) same e
  none_more y p before e none q (inr c) = none q c

heads_same : (a b : Rec) (xs ys : List Rec) → a ∷ xs ≡ b ∷ ys → a ≡ b
heads_same a b xs ys e = cc

tails_same : (a b : Rec) (xs ys : List Rec) → a ∷ xs ≡ b ∷ ys → xs ≡ ys
tails_same a b xs ys e = cc

-- where the first of the records that tie is y, the cut is there
pub cut_at : (y : Rec) (ps : List Numbered) (zs : List Rec) → y ∷ zs ≡ filter (ties earlier y) (packets ps) → Cut y ps
cut_at y [] zs e = absurd (let bad : y ∷ zs ≡ [] = e in cc)
cut_at y (p ∷ ps) zs e =
    elim (ties earlier y p.packet) as (λ b. ties earlier y p.packet ≡ b → y ∷ zs ≡ cond b (p.packet ∷ filter (ties earlier y) (packets ps)) (filter (ties earlier y) (packets ps)) → Cut y (p ∷ ps)) [
      | true ↦ λ t f. cut_here y p ps (sym (heads_same y p.packet zs (filter (ties earlier y) (packets ps)) f))
      | false ↦ λ t f. cut_later y p ps t (cut_at y ps zs f)
    ] refl e

-- what passes of a cut list
split_filter : (t : Rec → Bool) (before : List Numbered) (p : Numbered) (after : List Numbered)
    → filter t (packets (before ++ p ∷ after)) ≡ filter t (packets before) ++ filter t (packets (p ∷ after))
split_filter t before p after = ap (filter t) (map-append packet before (p ∷ after)) ∙ filter-append t (packets before) (packets (p ∷ after))

joined_filter : (t : Rec → Bool) (before after : List Numbered) → filter t (packets (before ++ after)) ≡ filter t (packets before) ++ filter t (packets after)
joined_filter t before after = ap (filter t) (map-append packet before after) ∙ filter-append t (packets before) (packets after)

none_passes : (t : Rec → Bool) (ps : List Numbered) → ((q : Numbered) → Contains ps q → t q.packet ≡ false) → filter t (packets ps) ≡ []
none_passes t [] h = refl
none_passes t (p ∷ ps) h = rw (h p (head_in p ps)) (none_passes t ps (λ q c. h q (tail_in p ps q c)))

-- what ties with x ties with all that x ties with
no_tie_on : (x y z : Rec) → ties earlier x y ≡ true → ties earlier y z ≡ false → ties earlier x z ≡ false
no_tie_on x y z e f =
    elim (ties earlier x z) as (λ b. ties earlier x z ≡ b → b ≡ false) [
      | true ↦ λ g. let a = tie_then x y e in let b = tie_then x z g in let bad : true ≡ false = sym (tie_from y z (sym a.0 ∙ b.0, sym a.1 ∙ b.1)) ∙ f in cc
      | false ↦ λ g. refl
    ] refl

abbrev pub Stable : List Rec → List Numbered → Type 0
Stable ys ps = (x : Rec) → filter (ties earlier x) ys ≡ filter (ties earlier x) (packets ps)

-- without the first of each the rest is still stable
stable_rest : (y : Rec) (ys : List Rec) (ps : List Numbered) (cut : Cut y ps) → Stable (y ∷ ys) ps → Stable ys (cut.before ++ cut.after)
stable_rest y ys ps cut h x =
    let t = ties earlier x in
    let whole : filter t (y ∷ ys) ≡ filter t (packets cut.before) ++ filter t (cut.middle.packet ∷ packets cut.after) =
    h x ∙ (ap (λ l. filter t (packets l)) cut.whole ∙ split_filter t cut.before cut.middle cut.after) in
    let at_y : filter t (y ∷ ys) ≡ filter t (packets cut.before) ++ filter t (y ∷ packets cut.after) =
    subst (λ r. filter t (y ∷ ys) ≡ filter t (packets cut.before) ++ filter t (r ∷ packets cut.after)) cut.is whole in
    let goal = joined_filter t cut.before cut.after in
    elim (t y) as (λ b. t y ≡ b → cond b (y ∷ filter t ys) (filter t ys) ≡ filter t (packets cut.before) ++ cond b (y ∷ filter t (packets cut.after)) (filter t (packets cut.after)) → filter t ys ≡ filter t (packets (cut.before ++ cut.after))) [
      | true ↦ λ e f.
          let gone : filter t (packets cut.before) ≡ [] = none_passes t cut.before (λ q c. no_tie_on x y q.packet e (cut.none q c)) in
          let only : y ∷ filter t ys ≡ y ∷ filter t (packets cut.after) = f ∙ ap (λ l. l ++ y ∷ filter t (packets cut.after)) gone in
          tails_same y y (filter t ys) (filter t (packets cut.after)) only ∙ sym (goal ∙ ap (λ l. l ++ filter t (packets cut.after)) gone)
      | false ↦ λ e f. f ∙ sym goal
    ] refl at_y

-- numbers rise over what is left of a cut list, and behind its middle lie higher ones
all_without : (P : Numbered → Type 0) (before : List Numbered) (p : Numbered) (after : List Numbered) → All P (before ++ p ∷ after) → All P (before ++ after)
all_without P [] p after h = All-tail P p after h
all_without P (b ∷ before) p after h =
    All-cons P b (before ++ after) (All-head P b (before ++ p ∷ after) h) (all_without P before p after (All-tail P b (before ++ p ∷ after) h))

climbs_without : (before : List Numbered) (p : Numbered) (after : List Numbered) → Climbs (before ++ p ∷ after) → Climbs (before ++ after)
climbs_without [] p after h = h.1
climbs_without (b ∷ before) p after h = (all_without (λ (q : Numbered). b.number < q.number) before p after h.0, climbs_without before p after h.1)

climbs_behind : (before : List Numbered) (p : Numbered) (after : List Numbered) → Climbs (before ++ p ∷ after) → All (λ (q : Numbered). p.number < q.number) after
climbs_behind [] p after h = h.0
climbs_behind (b ∷ before) p after h = climbs_behind before p after h.1

-- The numbered records in the order of the sorted ones.
pub record Ordered (ys : List Rec) (ps : List Numbered) : Type 0 where
  pub qs : List Numbered
  pub same : packets qs ≡ ys
  pub ascending : IsAscending Precedes qs
  pub there : (p : Numbered) → Contains qs p → Contains ps p
  pub back : (p : Numbered) → Contains ps p → Contains qs p

-- none of them is earlier than y
abbrev pub NoneEarlier : Rec → List Rec → Type 0
NoneEarlier y ys = All (λ (z : Rec). earlier z y ≡ false) ys

-- each is followed by none that is earlier
abbrev pub InOrder : List Rec → Type 0
InOrder [] = ⊤
InOrder (y ∷ ys) = NoneEarlier y ys × InOrder ys

all_of_packets : (P : Rec → Type 0) (qs : List Numbered) → All P (packets qs) → All (λ (q : Numbered). P q.packet) qs
all_of_packets P [] h = λ k d below. absurd (omega (arith, below))
all_of_packets P (q ∷ qs) h =
    All-cons (λ (x : Numbered). P x.packet) q qs (All-head P q.packet (packets qs) h) (all_of_packets P qs (All-tail P q.packet (packets qs) h))

by_time : (a b : Numbered) → Earlier a.packet b.packet → Precedes a b
by_time a b (inl e) = inl e
by_time a b (inr e) = inr (e.0, inl e.1)

comes_before : (y : Rec) (ps : List Numbered) (cut : Cut y ps) → Climbs ps → (q : Numbered) → earlier q.packet y ≡ false
    → Contains cut.before q ⊎ Contains cut.after q → Precedes cut.middle q
comes_before y ps cut climbs q later (inl c) =
    by_time cut.middle q (subst (λ r. Earlier r q.packet) (sym cut.is) (no_tie y q.packet (cut.none q c) later))
comes_before y ps cut climbs q later (inr c) =
    let higher : cut.middle.number < q.number = All-contains (λ (x : Numbered). cut.middle.number < x.number) cut.after q (climbs_behind cut.before cut.middle cut.after (subst Climbs cut.whole climbs)) c in
    elim (ties earlier y q.packet) as (λ b. ties earlier y q.packet ≡ b → Precedes cut.middle q) [
      | true ↦ λ e. let same = subst (λ r. Same r q.packet) (sym cut.is) (tie_then y q.packet e) in inr (same.0, inr (same.1, higher))
      | false ↦ λ e. by_time cut.middle q (subst (λ r. Earlier r q.packet) (sym cut.is) (no_tie y q.packet e later))
    ] refl

put_in : (before : List Numbered) (m : Numbered) (after qs : List Numbered) → ((p : Numbered) → Contains qs p → Contains (before ++ after) p)
    → (p : Numbered) → (m ≡ p) ⊎ Contains qs p → Contains (before ++ m ∷ after) p
put_in before m after qs there p (inl e) = subst (Contains (before ++ m ∷ after)) e (Contains-append_right before (m ∷ after) m (head_in m after))
put_in before m after qs there p (inr c) =
    elim (Contains-append_cases before after p (there p c))
    [ inl b ↦ Contains-append_left before (m ∷ after) p b | inr a ↦ Contains-append_right before (m ∷ after) p (tail_in m after p a) ]

take_out : (before : List Numbered) (m : Numbered) (after qs : List Numbered) → ((p : Numbered) → Contains (before ++ after) p → Contains qs p)
    → (p : Numbered) → Contains before p ⊎ Contains (m ∷ after) p → Contains (m ∷ qs) p
take_out before m after qs back p (inl b) = tail_in m qs p (back p (Contains-append_left before after p b))
take_out before m after qs back p (inr c) =
    elim (in_cases m after p c)
    [ inl e ↦ subst (Contains (m ∷ qs)) e (head_in m qs) | inr a ↦ tail_in m qs p (back p (Contains-append_right before after p a)) ]

pub ordered : (ys : List Rec) (ps : List Numbered) → InOrder ys → Climbs ps → Stable ys ps → Ordered ys ps
ordered [] [] o climbs h = record { qs = []; same = refl; ascending = tt; there = λ p c. c; back = λ p c. c }
ordered [] (p ∷ ps) o climbs h =
    let self : ties earlier p.packet p.packet ≡ true = tie_from p.packet p.packet (refl, refl) in
    let bad : [] ≡ p.packet ∷ filter (ties earlier p.packet) (packets ps) = h p.packet ∙ ap (λ b. cond b (p.packet ∷ filter (ties earlier p.packet) (packets ps)) (filter (ties earlier p.packet) (packets ps))) self in
    absurd (cc)
ordered (y ∷ ys) ps o climbs h =
    let self : ties earlier y y ≡ true = tie_from y y (refl, refl) in
    let first : y ∷ filter (ties earlier y) ys ≡ filter (ties earlier y) (packets ps) =
    sym (ap (λ b. cond b (y ∷ filter (ties earlier y) ys) (filter (ties earlier y) ys)) self) ∙ h y in
    let cut = cut_at y ps (filter (ties earlier y) ys) first in
    let rest = ordered ys (cut.before ++ cut.after) o.1 (climbs_without cut.before cut.middle cut.after (subst Climbs cut.whole climbs)) (stable_rest y ys ps cut h) in
    let not_earlier : All (λ (q : Numbered). earlier q.packet y ≡ false) rest.qs = all_of_packets (λ (z : Rec). earlier z y ≡ false) rest.qs (subst (NoneEarlier y) (sym rest.same) o.0) in
    let below : All (Precedes cut.middle) rest.qs =
    All-weaker (Contains rest.qs) (Precedes cut.middle)
    (λ q c. comes_before y ps cut climbs q (All-contains (λ (x : Numbered). earlier x.packet y ≡ false) rest.qs q not_earlier c) (Contains-append_cases cut.before cut.after q (rest.there q c)))
    rest.qs (All-contains_itself rest.qs) in
    record {
      qs = cut.middle ∷ rest.qs;
      same = ap (λ r. r ∷ packets rest.qs) cut.is ∙ ap (λ l. y ∷ l) rest.same;
      ascending = (below, rest.ascending);
      there = λ p c. subst (λ l. Contains l p) (sym cut.whole) (put_in cut.before cut.middle cut.after rest.qs rest.there p (in_cases cut.middle rest.qs p c));
      back = λ p c. take_out cut.before cut.middle cut.after rest.qs rest.back p (Contains-append_cases cut.before (cut.middle ∷ cut.after) p (subst (λ l. Contains l p) cut.whole c));
    }
