-- The order of keys by bytes.
use Rattle.std.proofs.Common.{◌≡◌, ℕ, Bool, true, false, List, Option, Some, None, refl, sym, ap, ◌∙◌}
use Rattle.std.specs.Prelude.{not}
use Rattle.std.specs.declared.cmp.Ordering.{Ordering}
use Rattle.std.specs.declared.cmp.Ordering.TheVariants.{Less, Equal, Greater}
use Rattle.std.specs.Ordering.{nat_cmp, is_lt, is_gt, ordering_reverse}
use Rattle.std.specs.Cmp.Lexicographic.{slice_cmp}
use Rattle.std.proofs.lemmas.Cmp.{nat_list_cmp_total, tied_itself, upto}
use Rattle.st_tblock.specs.Block.{is_before, is_above}
use Rattle.st_table.specs.TableFile.{is_at_most}
use Rattle.st_table.specs.Builder.{Follows, later_key}

-- which answer says less
less : (o : Ordering) → is_lt o ≡ true → o ≡ Less
less Less e = refl
less Equal e = cc
less Greater e = cc

-- less is not greater
less_not : (o : Ordering) → is_lt o ≡ true → is_gt o ≡ false
less_not Less e = refl
less_not Equal e = cc
less_not Greater e = cc

-- turned round
turned : (o : Ordering) → is_gt (ordering_reverse o) ≡ is_lt o
turned Less = refl
turned Equal = refl
turned Greater = refl

turned_back : (o : Ordering) → is_lt (ordering_reverse o) ≡ is_gt o
turned_back Less = refl
turned_back Equal = refl
turned_back Greater = refl

-- a key before one that is before a third is before that
pub before_trans : (a b c : List ℕ) → is_before a b ≡ true → is_before b c ≡ true → is_before a c ≡ true
before_trans a b c p q =
    ap is_lt (nat_list_cmp_total.trans a b c (less (slice_cmp nat_cmp a b) p) (less (slice_cmp nat_cmp b c) q))

-- a key is not before itself
pub before_itself : (a : List ℕ) → is_before a a ≡ false
before_itself a = ap is_lt (tied_itself nat_list_cmp_total a)

-- a key is at most itself
pub at_most_itself : (a : List ℕ) → is_at_most a a ≡ true
at_most_itself a = ap not (before_itself a)

-- what a test that fails says
not_true : (b : Bool) → not b ≡ true → b ≡ false
not_true true e = cc
not_true false e = refl

-- at most is not above
not_above : (high key : List ℕ) → is_at_most high key ≡ true → is_gt (slice_cmp nat_cmp key high) ≡ false
not_above high key p =
    ap is_gt (nat_list_cmp_total.antisymm key high) ∙ turned (slice_cmp nat_cmp high key) ∙ not_true (is_before high key) p

-- a key before one that is at most a third is at most that
pub before_at_most : (a b high : List ℕ) → is_before a b ≡ true → is_at_most high b ≡ true → is_at_most high a ≡ true
before_at_most a b high p q =
    let up = upto nat_list_cmp_total a b high (less_not (slice_cmp nat_cmp a b) p) (not_above high b q) in
    ap not (ap is_lt (nat_list_cmp_total.antisymm high a) ∙ turned_back (slice_cmp nat_cmp a high) ∙ up)

-- a key at most one that is before a third is before that
pub at_most_before : (a high c : List ℕ) → is_at_most high a ≡ true → is_before high c ≡ true → is_before a c ≡ true
at_most_before a high c p q = by (slice_cmp nat_cmp a high) refl
  where
    by : (o : Ordering) → slice_cmp nat_cmp a high ≡ o → is_before a c ≡ true
    by Less e = before_trans a high c (ap is_lt e) q
    by Equal e = ap is_lt (nat_list_cmp_total.congr a high c e) ∙ q
    by Greater e = absurd (let one : true ≡ false = sym (ap is_gt e) ∙ not_above high a p in cc)

-- a key above the later of two keys is above the one before
pub above_both : (low last : Option (List ℕ)) (key : List ℕ) → Follows low last → is_above (later_key low last) key ≡ true → is_above low key ≡ true
above_both low None key f a = a
above_both None (Some b) key f a = refl
above_both (Some x) (Some b) key f a = before_trans x b key f a
