-- Keys by bytes: one is before another, or at most another.
use Rattle.std.proofs.Common.{◌≡◌, ℕ, Bool, true, false, List, refl, sym, ap, ◌∙◌}
use Rattle.std.specs.declared.cmp.Ordering.{Ordering}
use Rattle.std.specs.declared.cmp.Ordering.TheVariants.{Less, Equal, Greater}
use Rattle.std.specs.Ordering.{nat_cmp, is_lt, ordering_reverse}
use Rattle.std.specs.Cmp.Lexicographic.{slice_cmp, nat_list_cmp_total}
use Rattle.st_tblock.specs.Block.{is_before}

-- what a test says of an order
less : (o : Ordering) → is_lt o ≡ true → o ≡ Less
less Less e = refl
less Equal e = cc
less Greater e = cc

not_less : (o : Ordering) → o ≡ Less → is_lt (ordering_reverse o) ≡ false
not_less o e = ap (λ (p : Ordering). is_lt (ordering_reverse p)) e

turned : (o : Ordering) → is_lt (ordering_reverse o) ≡ false → is_lt o ≡ false → o ≡ Equal
turned Less h k = cc
turned Equal h k = refl
turned Greater h k = cc

-- a key before another isn't after it
pub not_behind : (a b : List ℕ) → is_before a b ≡ true → is_before b a ≡ false
not_behind a b h =
    ap is_lt (nat_list_cmp_total.antisymm b a) ∙ not_less (slice_cmp nat_cmp a b) (less (slice_cmp nat_cmp a b) h)

pub before_trans : (a b c : List ℕ) → is_before a b ≡ true → is_before b c ≡ true → is_before a c ≡ true
before_trans a b c h k =
    ap is_lt (nat_list_cmp_total.trans a b c (less (slice_cmp nat_cmp a b) h) (less (slice_cmp nat_cmp b c) k))

-- neither is before the other
ties : (a b : List ℕ) → is_before a b ≡ false → is_before b a ≡ false → slice_cmp nat_cmp a b ≡ Equal
ties a b h k =
    turned (slice_cmp nat_cmp a b) (ap is_lt (sym (nat_list_cmp_total.antisymm b a)) ∙ k) h

-- a key is at most another, which is before a third
pub at_most_before : (a b c : List ℕ) → is_before b a ≡ false → is_before b c ≡ true → is_before a c ≡ true
at_most_before a b c h k = either (is_before a b) refl
  where
    either : (x : Bool) → is_before a b ≡ x → is_before a c ≡ true
    either true e = before_trans a b c e k
    either false e = ap is_lt (nat_list_cmp_total.congr a b c (ties a b e h)) ∙ k

-- a key is before another, which is at most a third
pub before_at_most : (a b c : List ℕ) → is_before a b ≡ true → is_before c b ≡ false → is_before a c ≡ true
before_at_most a b c h k = either (is_before b c) refl
  where
    either : (x : Bool) → is_before b c ≡ x → is_before a c ≡ true
    either true e = before_trans a b c h e
    either false e =
        let same = nat_list_cmp_total.congr c b a (ties c b k e) in
        let back : slice_cmp nat_cmp a c ≡ slice_cmp nat_cmp a b =
        nat_list_cmp_total.antisymm a c ∙ ap ordering_reverse same ∙ sym (nat_list_cmp_total.antisymm a b) in
        ap is_lt back ∙ h

-- a key isn't before itself
pub not_itself : (a : List ℕ) → is_before a a ≡ false
not_itself a = either (is_before a a) refl
  where
    either : (x : Bool) → is_before a a ≡ x → is_before a a ≡ false
    either true e = not_behind a a e
    either false e = e

-- a key is at most another, which is at most a third
pub at_most_trans : (a b c : List ℕ) → is_before b a ≡ false → is_before c b ≡ false → is_before c a ≡ false
at_most_trans a b c h k = either (is_before c a) refl
  where
    either : (x : Bool) → is_before c a ≡ x → is_before c a ≡ false
    either true e = absurd (let no = at_most_before b c a k e in let both : true ≡ false = sym no ∙ h in cc)
    either false e = e
