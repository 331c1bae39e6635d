-- The order of time, as the sort tests it.
use Rattle.std.proofs.Common.{◌≡◌, ℕ, ◌<◌, Bool, true, false, refl, sym, ◌∙◌, inl, inr, ◌⊎◌, arith, Ordering}
use Rattle.std.specs.Ordering.{is_lt, ordering_then, nat_cmp}
use Rattle.std.specs.List.Sorted.{ties}
use Rattle.std.specs.Cmp.{IsStrictWeakOrder}
use Rattle.std.proofs.lemmas.Bool.Decides.{nat_tests}
use Rattle.st_base.specs.Records.{Rec, time}

-- two times, by the first part and then by the second
abbrev pub order : ℕ × ℕ → ℕ × ℕ → Ordering
order a b = ordering_then (nat_cmp a.0 b.0) (nat_cmp a.1 b.1)

abbrev pub earlier : Rec → Rec → Bool
earlier a b = is_lt (order (time a) (time b))

abbrev pub Earlier : Rec → Rec → Type 0
Earlier a b = (a.sec < b.sec) ⊎ ((a.sec ≡ b.sec) × (a.nsec < b.nsec))

abbrev pub Same : Rec → Rec → Type 0
Same a b = (a.sec ≡ b.sec) × (a.nsec ≡ b.nsec)

pub earlier_then : (a b : Rec) → earlier a b ≡ true → Earlier a b
earlier_then a b e = grind (arith, nat_tests, e)

pub earlier_from : (a b : Rec) → Earlier a b → earlier a b ≡ true
earlier_from a b (inl h) = grind (arith, nat_tests, h)
earlier_from a b (inr h) = grind (arith, nat_tests, h)

pub tie_then : (a b : Rec) → ties earlier a b ≡ true → Same a b
tie_then a b e = grind (arith, nat_tests, e)

pub tie_from : (a b : Rec) → Same a b → ties earlier a b ≡ true
tie_from a b h = grind (arith, nat_tests, h)

-- of two that don't tie, the one that is not later is earlier
pub no_tie : (a b : Rec) → ties earlier a b ≡ false → earlier b a ≡ false → Earlier a b
no_tie a b e f = grind (arith, nat_tests, e, f)

not_true : (b : Bool) → (b ≡ true → ⊥) → b ≡ false
not_true true h = absurd (h refl)
not_true false h = refl

not_false : (a b : Rec) → earlier a b ≡ false → Earlier a b → ⊥
not_false a b e h = let bad : true ≡ false = sym (earlier_from a b h) ∙ e in cc

-- time is an order
pub by_times : IsStrictWeakOrder earlier
by_times = record {
  one_way = λ x y e. let h = earlier_then x y e in not_true (earlier y x) (λ f. backwards x y h (earlier_then y x f));
  chain = λ x y z e f. not_true (earlier x z) (λ g. between x y z (not_false x y e) (not_false y z f) (earlier_then x z g));
} where
  backwards : (x y : Rec) → Earlier x y → Earlier y x → ⊥
  backwards x y h k = grind arith

  between : (x y z : Rec) → (Earlier x y → ⊥) → (Earlier y z → ⊥) → Earlier x z → ⊥
  between x y z h k g = grind arith
