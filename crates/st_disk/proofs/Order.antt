-- The order of names.
use Rattle.std.proofs.Common.{◌≡◌, ◌<◌, ◌≤◌, ◌+◌, ◌-◌, ◌⊎◌, ℕ, zero, suc, List, [], ◌∷◌, length, get_or, true, false, refl, sym, ◌∙◌, ap, subst, inl, inr, ⊎_elim, arith, Contains}
use Rattle.std.proofs.lemmas.Bool.Decides.{nat_tests}
use Rattle.std.proofs.lemmas.List.Edits.{length-insert, get_or-insert_below, get_or-insert_at, get_or-insert_above}
use Rattle.std.specs.List.{insert}
use Rattle.st_disk.specs.declared.naming.Kind.TheVariants as kind
use Rattle.st_disk.specs.declared.naming.Name.{Name}
use Rattle.st_disk.specs.declared.naming.Name.TheVariants.{Block, Index, Parked, Draft}
use Rattle.st_disk.specs.Names.{same_name, number_of, rank_of, Before, AreSorted}

-- rank and number determine the name
pub one_name : (m n : Name) → rank_of m ≡ rank_of n → number_of m ≡ number_of n → m ≡ n
one_name (Block s) (Block t) e f = ap Block f
one_name (Index s) (Index t) e f = ap Index f
one_name (Parked s) (Parked t) e f = ap Parked f
one_name (Draft kind.Block s) (Draft kind.Block t) e f = ap (Draft kind.Block) f
one_name (Draft kind.Index s) (Draft kind.Index t) e f = ap (Draft kind.Index) f
one_name (Block s) (Index t) e f = absurd (omega arith)
one_name (Block s) (Parked t) e f = absurd (omega arith)
one_name (Block s) (Draft kind.Block t) e f = absurd (omega arith)
one_name (Block s) (Draft kind.Index t) e f = absurd (omega arith)
one_name (Index s) (Block t) e f = absurd (omega arith)
one_name (Index s) (Parked t) e f = absurd (omega arith)
one_name (Index s) (Draft kind.Block t) e f = absurd (omega arith)
one_name (Index s) (Draft kind.Index t) e f = absurd (omega arith)
one_name (Parked s) (Block t) e f = absurd (omega arith)
one_name (Parked s) (Index t) e f = absurd (omega arith)
one_name (Parked s) (Draft kind.Block t) e f = absurd (omega arith)
one_name (Parked s) (Draft kind.Index t) e f = absurd (omega arith)
one_name (Draft kind.Block s) (Block t) e f = absurd (omega arith)
one_name (Draft kind.Block s) (Index t) e f = absurd (omega arith)
one_name (Draft kind.Block s) (Parked t) e f = absurd (omega arith)
one_name (Draft kind.Block s) (Draft kind.Index t) e f = absurd (omega arith)
one_name (Draft kind.Index s) (Block t) e f = absurd (omega arith)
one_name (Draft kind.Index s) (Index t) e f = absurd (omega arith)
one_name (Draft kind.Index s) (Parked t) e f = absurd (omega arith)
one_name (Draft kind.Index s) (Draft kind.Block t) e f = absurd (omega arith)

pub same_is : (m n : Name) → same_name m n ≡ true → m ≡ n
same_is (Block s) (Block t) e = ap Block (grind (arith, nat_tests))
same_is (Index s) (Index t) e = ap Index (grind (arith, nat_tests))
same_is (Parked s) (Parked t) e = ap Parked (grind (arith, nat_tests))
same_is (Draft kind.Block s) (Draft kind.Block t) e = ap (Draft kind.Block) (grind (arith, nat_tests))
same_is (Draft kind.Index s) (Draft kind.Index t) e = ap (Draft kind.Index) (grind (arith, nat_tests))
same_is _ _ e = absurd (cc)

pub is_same : (n : Name) → same_name n n ≡ true
is_same (Block s) = grind (arith, nat_tests)
is_same (Index s) = grind (arith, nat_tests)
is_same (Parked s) = grind (arith, nat_tests)
is_same (Draft kind.Block s) = grind (arith, nat_tests)
is_same (Draft kind.Index s) = grind (arith, nat_tests)

before_by : (m n : Name) → same_name m n ≡ false → (Before m n → ⊥) → Before n m
before_by m n other not =
    let cases : (rank_of m < rank_of n) ⊎ ((rank_of m ≡ rank_of n) ⊎ (rank_of n < rank_of m)) = grind arith in
    let by_number : rank_of m ≡ rank_of n → (number_of m < number_of n) ⊎ ((number_of m ≡ number_of n) ⊎ (number_of n < number_of m)) = λ e. grind arith in
    let differ : m ≡ n → ⊥ = λ e. let t : same_name m n ≡ true = subst (λ (k : Name). same_name m k ≡ true) e (is_same m) in cc in
    ⊎_elim
    (λ lt. absurd (not (inl lt)))
    (λ rest. ⊎_elim
    (λ (e : rank_of m ≡ rank_of n). ⊎_elim (λ lt. absurd (not (inr (e, lt)))) (λ more. ⊎_elim (λ same. absurd (differ (one_name m n e same))) (λ gt. inr (sym e, gt)) more) (by_number e))
    (λ gt. inl gt)
    rest)
    cases

get_or_any : (xs : List Name) (k : ℕ) (d e : Name) → k < length xs → get_or xs k d ≡ get_or xs k e
get_or_any [] k d e lt = absurd (omega arith)
get_or_any (x ∷ xs) zero d e lt = refl
get_or_any (x ∷ xs) (suc k) d e lt = get_or_any xs k d e (omega arith)

before_trans : (l m n : Name) → Before l m → Before m n → Before l n
before_trans l m n a b =
    let number : (i j k x y z : ℕ) → ((i < j) ⊎ ((i ≡ j) × (x < y))) → ((j < k) ⊎ ((j ≡ k) × (y < z))) → (i < k) ⊎ ((i ≡ k) × (x < z)) = λ i j k x y z a b. grind arith in
    number (rank_of l) (rank_of m) (rank_of n) (number_of l) (number_of m) (number_of n) a b

module _ (xs : List Name) (i : ℕ) (n : Name) (le : i ≤ length xs) where
  -- at each index of the longer list
  at_below : (k : ℕ) (d : Name) → k < i → get_or (insert xs i n) k d ≡ get_or xs k d
  at_below k d lt = get_or-insert_below xs i n d k lt le

  at_above : (k : ℕ) (d : Name) → i < k → get_or (insert xs i n) k d ≡ get_or xs (k - 1) d
  at_above k d lt =
      let e : k - 1 + 1 ≡ k = omega arith in
      ap (λ (j : ℕ). get_or (insert xs i n) j d) (sym e) ∙ get_or-insert_above xs i n d (k - 1) (omega arith) le

  at_index : (k : ℕ) (d : Name) → k ≡ i → get_or (insert xs i n) k d ≡ n
  at_index k d e = ap (λ (j : ℕ). get_or (insert xs i n) j d) e ∙ get_or-insert_at xs i n d le

  pub has_insert : (m : Name) → Contains (insert xs i n) m → Contains xs m ⊎ (m ≡ n)
  has_insert m h =
      let long : length (insert xs i n) ≡ length xs + 1 = length-insert xs i n le in
      let k = h.0 in
      let lt : k < length (insert xs i n) = h.1 in
      let at : get_or (insert xs i n) k m ≡ m = h.2 in
      let cases : (k < i) ⊎ ((k ≡ i) ⊎ (i < k)) = grind arith in
      ⊎_elim
      (λ (below : k < i). inl (k, omega arith, sym (at_below k m below) ∙ at))
      (λ rest. ⊎_elim (λ (e : k ≡ i). inr (sym at ∙ at_index k m e)) (λ (above : i < k). inl (k - 1, omega arith, sym (at_above k m above) ∙ at)) rest)
      cases

  pub has_still : (m : Name) → Contains xs m → Contains (insert xs i n) m
  has_still m h =
      let long : length (insert xs i n) ≡ length xs + 1 = length-insert xs i n le in
      let k = h.0 in
      let lt : k < length xs = h.1 in
      let cases : (k < i) ⊎ (i ≤ k) = grind arith in
      ⊎_elim (λ (below : k < i). (k, omega arith, at_below k m below ∙ h.2)) (λ (above : i ≤ k). (k + 1, omega arith, get_or-insert_above xs i n m k above le ∙ h.2)) cases

  pub has_new : (m : Name) → m ≡ n → Contains (insert xs i n) m
  has_new m e =
      let long : length (insert xs i n) ≡ length xs + 1 = length-insert xs i n le in
      (i, omega arith, at_index i m refl ∙ sym e)

module _ (xs : List Name) (i : ℕ) (n : Name) (le : i ≤ length xs) (rises : AreSorted xs) (before : (k : ℕ) (d : Name) → k < i → Before (get_or xs k d) n)
    (not_same : (d : Name) → i < length xs → same_name (get_or xs i d) n ≡ false) (not_before : (d : Name) → i < length xs → Before (get_or xs i d) n → ⊥) where
  following : (k : ℕ) (d : Name) → i ≤ k → k < length xs → Before n (get_or xs k d)
  following k d ge lt =
      let at : Before n (get_or xs i d) = before_by (get_or xs i d) n (not_same d (omega arith)) (not_before d (omega arith)) in
      let cases : (i ≡ k) ⊎ (i < k) = grind arith in
      ⊎_elim (λ (e : i ≡ k). subst (λ (j : ℕ). Before n (get_or xs j d)) e at) (λ (more : i < k). before_trans n (get_or xs i d) (get_or xs k d) at (rises i k d more lt)) cases

  both : (p q : ℕ) (d : Name) (a b : Name) → get_or (insert xs i n) p d ≡ a → get_or (insert xs i n) q d ≡ b → Before a b → Before (get_or (insert xs i n) p d) (get_or (insert xs i n) q d)
  both p q d a b e f h = subst (λ (x : Name). Before x (get_or (insert xs i n) q d)) (sym e) (subst (λ (y : Name). Before a y) (sym f) h)

  pub rises_insert : AreSorted (insert xs i n)
  rises_insert p q d lt less =
      let long : length (insert xs i n) ≡ length xs + 1 = length-insert xs i n le in
      let end : q < length xs + 1 = omega arith in
      let where_q : (q < i) ⊎ ((q ≡ i) ⊎ (i < q)) = grind arith in
      let where_p : (p < i) ⊎ ((p ≡ i) ⊎ (i < p)) = grind arith in
      ⊎_elim
      (λ (q_below : q < i). both p q d (get_or xs p d) (get_or xs q d) (at_below xs i n le p d (omega arith)) (at_below xs i n le q d q_below) (rises p q d lt (omega arith)))
      (λ rest. ⊎_elim
      (λ (e : q ≡ i). both p q d (get_or xs p d) n (at_below xs i n le p d (omega arith)) (at_index xs i n le q d e) (before p d (omega arith)))
      (λ (q_above : i < q). ⊎_elim
      (λ (p_below : p < i). both p q d (get_or xs p d) (get_or xs (q - 1) d) (at_below xs i n le p d p_below) (at_above xs i n le q d q_above) (rises p (q - 1) d (omega arith) (omega arith)))
      (λ more. ⊎_elim
      (λ (e : p ≡ i). both p q d n (get_or xs (q - 1) d) (at_index xs i n le p d e) (at_above xs i n le q d q_above) (following (q - 1) d (omega arith) (omega arith)))
      (λ (p_above : i < p). both p q d (get_or xs (p - 1) d) (get_or xs (q - 1) d) (at_above xs i n le p d p_above) (at_above xs i n le q d q_above) (rises (p - 1) (q - 1) d (omega arith) (omega arith)))
      more)
      where_p)
      rest)
      where_q

-- what comes after the last of sorted names comes after all
pub after_all : (xs : List Name) (n e : Name) → Before (get_or xs (length xs - 1) e) n → AreSorted xs → (k : ℕ) (d : Name) → k < length xs → Before (get_or xs k d) n
after_all xs n e before rises k d lt =
    let last = length xs - 1 in
    let at : get_or xs last e ≡ get_or xs last d = get_or_any xs last e d (omega arith) in
    let cases : (k ≡ length xs - 1) ⊎ (k < length xs - 1) = grind arith in
    ⊎_elim
    (λ (same : k ≡ length xs - 1). subst (λ (m : Name). Before m n) (at ∙ sym (ap (λ (j : ℕ). get_or xs j d) same)) before)
    (λ (less : k < length xs - 1). before_trans (get_or xs k d) (get_or xs last d) n (rises k last d less (omega arith)) (subst (λ (m : Name). Before m n) at before))
    cases
