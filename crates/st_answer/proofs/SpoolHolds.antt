-- The holds of a spool: one more, one less, and the sets that are held.
use Rattle.std.proofs.Common.{◌≡◌, ◌<◌, ◌+◌, ℕ, List, [], ◌∷◌, ◌++◌, length, get_or, Option, None, Some, Bool, true, false, cond, nat_eq, ◌&&◌, Contains, refl, sym, ◌∙◌, ap, subst, arith, inl, inr, ◌⊎◌}
use Rattle.std.specs.Prelude.{count_by, option_map}
use Rattle.std.specs.List.{remove, sum_by}
use Rattle.std.proofs.lemmas.Bool.Decides.{nat_tests}
use Rattle.std.proofs.lemmas.List.Sums.{sum_by-append, sum_by-cons, sum_by-remove}
use Rattle.std.proofs.lemmas.List.Elements.{Contains-append_left, Contains-append_right, Contains-push}
use Rattle.st_disk.specs.Events.{Event}
use Rattle.st_disk.specs.Pairs.{Entry}
use Rattle.st_spool.specs.Holding.{IsWithout, size_of}
use Rattle.st_spool.specs.States.{held}
use Rattle.st_spool.specs.declared.state.Span.{Span}
use Rattle.st_answer.specs.Sets.{AddsSet, DropsSet}
use Rattle.st_answer.specs.Spools.{same_span, times_in, sets_in, set_in}
use Rattle.st_answer.specs.Stores.{HoldsOneMore, HoldsOneLess, StayHeld}

both_true : (a b : Bool) → (a && b) ≡ true → (a ≡ true) × (b ≡ true)
both_true true b e = (refl, e)
both_true false b e = absurd (cc)

same_numbers : (a b c d : ℕ) → (nat_eq a b && nat_eq c d) ≡ true → (a ≡ b) × (c ≡ d)
same_numbers a b c d e =
    let both = both_true (nat_eq a b) (nat_eq c d) e in
    let one : nat_eq a b ≡ true = both.0 in
    let two : nat_eq c d ≡ true = both.1 in
    let x : a ≡ b = grind (arith, nat_tests) in
    let y : c ≡ d = grind (arith, nat_tests) in
    (x, y)

abbrev span : ℕ → ℕ → Span
span from to = record { from = from; to = to }

pub is_span : (a b : Span) → same_span a b ≡ true → a ≡ b
is_span a b e =
    let same = same_numbers a.from b.from a.to b.to e in
    ap (λ (n : ℕ). span n a.to) same.0 ∙ ap (span b.from) same.1

nat_self : (n : ℕ) → nat_eq n n ≡ true
nat_self n = grind (arith, nat_tests)

pub span_self : (a : Span) → same_span a a ≡ true
span_self a = ap (λ b. b && nat_eq a.to a.to) (nat_self a.from) ∙ nat_self a.to

abbrev once : Bool → ℕ
once b = cond b 1 0

-- one or none of a hold
pub by_span : (a b : Span) → (a ≡ b) ⊎ (once (same_span a b) ≡ 0)
by_span a b = go (same_span a b) refl
  where
    go : (r : Bool) → same_span a b ≡ r → (a ≡ b) ⊎ (once (same_span a b) ≡ 0)
    go true e = inl (is_span a b e)
    go false e = inr (ap once e)

-- a hold that is out is one of the holds
pub is_out : (hold : Span) (holds : List Span) → 0 < times_in holds hold → Contains holds hold
is_out hold [] out = absurd (omega (arith, out))
is_out hold (k ∷ holds) out =
    elim (by_span hold k) [
      | inl same ↦ subst (λ x. Contains (k ∷ holds) x) (sym same) (Contains-append_left (k ∷ []) holds k (Contains-push [] k))
      | inr none ↦
          let more = sum_by-cons (λ x. once (same_span hold x)) k holds in
          Contains-append_right (k ∷ []) holds hold (is_out hold holds (omega (arith, more, none, out)))
    ]

-- no hold is out
pub none_out : (holds : List Span) → ((hold : Span) → times_in holds hold ≡ 0) → holds ≡ []
none_out [] none = refl
none_out (k ∷ holds) none =
    let more = sum_by-cons (λ x. once (same_span k x)) k holds in
    let one : once (same_span k k) ≡ 1 = ap once (span_self k) in
    absurd (omega (arith, more, one, none k))

-- one hold more
pub times_more : (holds : List Span) (one hold : Span) → times_in (holds ++ one ∷ []) hold ≡ times_in holds hold + once (same_span hold one)
times_more holds one hold =
    let f = λ (x : Span). once (same_span hold x) in
    let a = sum_by-append f holds (one ∷ []) in
    let b = sum_by-cons f one [] in
    omega (arith, a, b)

pub holds_more : (holds : List Span) (one : Span) (seen : Option (List Event))
    → HoldsOneMore one (times_in holds) (times_in (holds ++ one ∷ [])) size_of size_of (set_in seen) (set_in seen)
holds_more holds one seen = record {
  more = times_more holds one one ∙ ap (λ r. times_in holds one + once r) (span_self one);
  others = λ hold. elim (by_span hold one) [
    | inl same ↦ inl same
    | inr none ↦ inr (let more = times_more holds one hold in omega (arith, more, none))
  ];
  size = λ hold out. refl;
  set = λ hold out. refl;
}

-- one hold less
pub times_less : (holds : List Span) (k : ℕ) (one hold : Span) → k < length holds → get_or holds k one ≡ one
    → times_in (remove holds k) hold + once (same_span hold one) ≡ times_in holds hold
times_less holds k one hold lt at =
    let f = λ (x : Span). once (same_span hold x) in
    let less = sum_by-remove f holds k one lt in
    let is = ap f at in
    omega (arith, less, is)

pub holds_less : (holds now : List Span) (one : Span) (seen : Option (List Event)) → IsWithout one holds now
    → HoldsOneLess one (times_in holds) (times_in now) size_of size_of (set_in seen) (set_in seen)
holds_less holds now one seen (k, lt, at, is) =
    let times : (hold : Span) → times_in now hold + once (same_span hold one) ≡ times_in holds hold = λ hold. ap (λ hs. times_in hs hold + once (same_span hold one)) is ∙ times_less holds k one hold lt at in
    record {
      less = sym (ap (λ r. times_in now one + once r) (span_self one)) ∙ times one;
      others = λ hold. elim (by_span hold one) [
        | inl same ↦ inl same
        | inr none ↦ inr (let t = times hold in omega (arith, t, none))
      ];
      size = λ hold out. refl;
      set = λ hold out. refl;
    }

pub stay_held : (holds now : List Span) (seen : Option (List Event)) → now ≡ holds → StayHeld (times_in holds) (times_in now) size_of size_of (set_in seen) (set_in seen)
stay_held holds now seen is = record {
  times = λ hold. ap (λ hs. times_in hs hold) is;
  size = λ hold out. refl;
  set = λ hold out. refl;
}

-- a test counts among the sets of holds what it counts among the holds
count_sets : (test : List Entry → Bool) (holds : List Span) (h : List Event) → count_by test (sets_in holds h) ≡ sum_by (λ k. once (test (held k h))) holds
count_sets test [] h = refl
count_sets test (k ∷ holds) h =
    let a = sum_by-cons (λ x. once (test x)) (held k h) (sets_in holds h) in
    let b = sum_by-cons (λ k. once (test (held k h))) k holds in
    let c = count_sets test holds h in
    omega (arith, a, b, c)

pub adds_set : (holds : List Span) (one : Span) (seen : Option (List Event)) → AddsSet (set_in seen one) (option_map (sets_in holds) seen) (option_map (sets_in (holds ++ one ∷ [])) seen)
adds_set holds one None sets known = absurd (cc)
adds_set holds one (Some h) sets known = (
  held one h,
  sets_in (holds ++ one ∷ []) h,
  refl,
  refl,
  λ test.
      let are : sets_in holds h ≡ sets = cc in
      let f = λ (k : Span). once (test (held k h)) in
      let a = count_sets test (holds ++ one ∷ []) h in
      let b = count_sets test holds h in
      let c = sum_by-append f holds (one ∷ []) in
      let d = sum_by-cons f one [] in
      let e = sum_by-cons (λ x. once (test x)) (held one h) sets in
      let s = ap (count_by test) are in
      omega (arith, a, b, c, d, e, s),
)

pub drops_set : (holds now : List Span) (one : Span) (seen : Option (List Event)) → IsWithout one holds now
    → DropsSet (set_in seen one) (option_map (sets_in holds) seen) (option_map (sets_in now) seen)
drops_set holds now one None without sets set known is = absurd (cc)
drops_set holds now one (Some h) (k, lt, at, is) sets set known set_is = (
  sets_in now h,
  refl,
  λ test.
      let are : sets_in holds h ≡ sets = cc in
      let one_is : held one h ≡ set = cc in
      let f = λ (k : Span). once (test (held k h)) in
      let a = count_sets test now h in
      let b = count_sets test holds h in
      let c = sum_by-remove f holds k one lt in
      let d = ap f at in
      let n = ap (sum_by f) is in
      let e = sum_by-cons (λ x. once (test x)) set (sets_in now h) in
      let s = ap (count_by test) are in
      let t = ap (λ x. once (test x)) one_is in
      omega (arith, a, b, c, d, n, e, s, t),
)
