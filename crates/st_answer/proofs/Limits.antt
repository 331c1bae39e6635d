-- The prefix that the limits allow.
use Rattle.std.proofs.Common.{◌≡◌, ℕ, ◌+◌, ◌<◌, ◌≤◌, List, zero, suc, length, take, get_or, map, refl, sym, ap, subst, ◌∙◌, arith, inl, inr, ◌⊎◌, length-take-le}
use Rattle.std.specs.Prelude.{sum_by, sum}
use Rattle.std.proofs.lemmas.List.Sums.{sum_by_more, sum_by-take-le, sum-map}
use Rattle.std.proofs.lemmas.List.{take-take, length-take, take-map, get_or-map, length-map}
use Rattle.std.proofs.lemmas.Grind.{common_steps}
use Rattle.st_base.specs.Records.{Rec}
use Rattle.st_base.specs.declared.limits.Limits.{Limits}
use Rattle.st_answer.specs.declared.picked.Picked.{Picked}
use Rattle.st_answer.specs.Order.{HaveLengths}
use Rattle.st_answer.specs.Limited.{captured, IsWithin, Limited}

-- two prefixes of one length are one
one_prefix : {X : Type 0} (m n : ℕ) (xs : List X) → length (take m xs) ≡ length (take n xs) → take m xs ≡ take n xs
one_prefix m n xs e = grind (arith, common_steps, length-take m xs, length-take n xs)

-- limits leave one list
pub one_limited : (limits : Limits) (rs xs ys : List Rec) → Limited limits rs xs → Limited limits rs ys → xs ≡ ys
one_limited limits rs xs ys mine yours =
    let a : length (take yours.count rs) ≤ length xs = mine.longest yours.count (subst (IsWithin limits) yours.prefix yours.within) in
    let b : length (take mine.count rs) ≤ length ys = yours.longest mine.count (subst (IsWithin limits) mine.prefix mine.within) in
    let p = ap length mine.prefix in
    let q = ap length yours.prefix in
    mine.prefix ∙ (one_prefix mine.count yours.count rs (omega (arith, a, b, p, q)) ∙ sym yours.prefix)

-- what a longer prefix captured is no less
captured-longer : (rs : List Rec) (m n : ℕ) → m ≤ n → captured (take m rs) ≤ captured (take n rs)
captured-longer rs m n le =
    let cut : take m (take n rs) ≡ take m rs = take-take m n rs le in
    subst (λ xs. captured xs ≤ captured (take n rs)) cut (sum_by-take-le (λ (r : Rec). length r.body) (take n rs) m)

either : (n i : ℕ) → (n ≤ i) ⊎ (i < n)
either zero i = inl (omega arith)
either (suc n) zero = inr (omega arith)
either (suc n) (suc i) = elim (either n i) [ inl le ↦ inl (omega arith) | inr lt ↦ inr (omega arith) ]

-- a longer prefix than one that is full is not within the limits
past : (limits : Limits) (room i n : ℕ) (rs : List Rec) (d : Rec) → i < length rs → captured (take i rs) + room ≡ limits.bytes
    → (limits.packets ≤ i) ⊎ (room < length (get_or rs i d).body) → i < n → IsWithin limits (take n rs) → ⊥
past limits room i n rs d below size (inl many) more fits =
    omega (arith, length-take n rs, fits.count, many, more, below)
past limits room i n rs d below size (inr large) more fits =
    let next = sum_by_more (λ (x : Rec). length x.body) rs i d below in
    let longer : captured (take (i + 1) rs) ≤ captured (take n rs) = captured-longer rs (i + 1) n (omega (arith, more)) in
    omega (arith, next, longer, fits.size, size, large)

-- the prefix stops at a record that would be one too many, or whose bytes would be
pub stops : (limits : Limits) (room i : ℕ) (rs : List Rec) (d : Rec) → i < length rs → i ≤ limits.packets → captured (take i rs) + room ≡ limits.bytes
    → (limits.packets ≤ i) ⊎ (room < length (get_or rs i d).body) → Limited limits rs (take i rs)
stops limits room i rs d below few size full =
    record {
      count = i;
      prefix = refl;
      within = record { count = omega (arith, length-take-le i rs (omega arith), few); size = omega (arith, size) };
      longest = λ n fits.
          elim (either n i) [
            | inl le ↦ omega (arith, length-take n rs, length-take i rs, le, below)
            | inr more ↦ absurd (past limits room i n rs d below size full more fits)
          ];
    }

-- all of them are within the limits
pub goes : (limits : Limits) (room i : ℕ) (rs : List Rec) → i ≡ length rs → i ≤ limits.packets → captured (take i rs) + room ≡ limits.bytes → Limited limits rs (take i rs)
goes limits room i rs all few size = record {
  count = i;
  prefix = refl;
  within = record { count = omega (arith, length-take-le i rs (omega (arith, all)), few); size = omega (arith, size) };
  longest = λ n fits. omega (arith, length-take n rs, length-take i rs, all);
}

-- picks and records of the same lengths
pub count_lengths : (ps : List Picked) (rs : List Rec) → HaveLengths ps rs → length rs ≡ length ps
count_lengths ps rs same = sym (length-map rs (λ (r : Rec). length r.body)) ∙ (sym (ap length same) ∙ length-map ps (λ (p : Picked). p.len))

pub captured_lengths : (ps : List Picked) (rs : List Rec) (i : ℕ) → HaveLengths ps rs → captured (take i rs) ≡ sum_by (λ (p : Picked). p.len) (take i ps)
captured_lengths ps rs i same =
    let f = λ (r : Rec). length r.body in
    let h = λ (p : Picked). p.len in
    let cut : map f (take i rs) ≡ map h (take i ps) = sym (take-map f i rs) ∙ (ap (take i) (sym same) ∙ take-map h i ps) in
    sym (sum-map f (take i rs)) ∙ (ap sum cut ∙ sum-map h (take i ps))

pub length_at : (ps : List Picked) (rs : List Rec) (i : ℕ) (p : Picked) (r : Rec) → i < length ps → HaveLengths ps rs → length (get_or rs i r).body ≡ (get_or ps i p).len
length_at ps rs i p r lt same =
    let count = count_lengths ps rs same in
    sym (get_or-map (λ (r : Rec). length r.body) rs i r 0 (omega (arith, lt, count))) ∙ (ap (λ (z : List ℕ). get_or z i 0) (sym same) ∙ get_or-map (λ (p : Picked). p.len) ps i p 0 lt)
