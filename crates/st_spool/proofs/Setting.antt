-- From rows to sets of pairs.
use Rattle.std.proofs.Common.{◌≡◌, ◌⊎◌, ℕ, List, Option, None, Some, false, cond, nat_eq, refl, sym, ◌∙◌, ap, subst, inl, inr, ⊎_elim}
use Rattle.st_disk.specs.declared.naming.Name.TheVariants.{Block, Index, Parked}
use Rattle.st_disk.specs.Folders.{Folder}
use Rattle.st_disk.specs.Pairs.{Entry, files_at, both, IsFileSet, PairsIn}
use Rattle.st_spool.specs.Rows.{Row, Free, Half, Coming, Pair, Going, Held, Past, Lone, Both, Fits, Has, set_row, pair_before, pair_after, AreSure, IsSetOf, Either}
use Rattle.st_spool.proofs.Keeping.{by_test, is_same, has_here, has_other}

none_index : (b : Option (List ℕ)) → both b None ≡ None
none_index None = refl
none_index (Some x) = refl

of_both : (b i x y : Option (List ℕ)) → b ≡ x → i ≡ y → both b i ≡ both x y
of_both b i x y e g = ap (λ (o : Option (List ℕ)). both o i) e ∙ ap (λ (o : Option (List ℕ)). both x o) g

-- a row has its pair as it was, or as it will be
pub one_of : (r : Row) (b i p : Option (List ℕ)) → Fits r b i p → (both b i ≡ pair_before r) ⊎ (both b i ≡ pair_after r)
one_of Free b i p h = inl (ap (λ (o : Option (List ℕ)). both o i) h.0)
one_of (Half f) b i p h = inl (ap (λ (o : Option (List ℕ)). both o i) h.0)
one_of (Coming f) b i p h =
    ⊎_elim (λ (e : b ≡ None). inl (ap (λ (o : Option (List ℕ)). both o i) e))
    (λ (e : b ≡ Some f.block). ⊎_elim (λ (g : i ≡ None). inl (of_both b i (Some f.block) None e g)) (λ (g : i ≡ Some f.index). inr (of_both b i (Some f.block) (Some f.index) e g)) h.1)
    h.0
one_of (Pair f) b i p h = inl (of_both b i (Some f.block) (Some f.index) h.0 h.1)
one_of (Going f) b i p h = ⊎_elim (λ (g : (i ≡ Some f.index) × (p ≡ None)). inl (of_both b i (Some f.block) (Some f.index) h.0 g.0)) (λ (g : (i ≡ None) × (p ≡ Some f.index)). inr (of_both b i (Some f.block) None h.0 g.0)) h.1
one_of (Held f) b i p h = inl (of_both b i (Some f.block) None h.0 h.1)
one_of Past b i p h = inl (ap (λ (o : Option (List ℕ)). both b o) h ∙ none_index b)
one_of Lone b i p h = inl (ap (λ (o : Option (List ℕ)). both o i) h)
one_of (Both f) b i p h = inl (of_both b i (Some f.block) (Some f.index) h.0 h.1)

sure_one : (r : Row) (b i p : Option (List ℕ)) → pair_after r ≡ pair_before r → Fits r b i p → both b i ≡ pair_before r
sure_one r b i p e h = ⊎_elim (λ (g : both b i ≡ pair_before r). g) (λ (g : both b i ≡ pair_after r). g ∙ e) (one_of r b i p h)

-- rows of which none is in doubt give their set
pub sure_set : (rows : ℕ → Row) (set : List Entry) (c : Folder) → AreSure rows → IsSetOf rows set → Has rows c → PairsIn c set
sure_set rows set c sure is h = record { rises = is.rises; each = λ s. is.each s ∙ sym (sure_one (rows s) (c (Block s)) (c (Index s)) (c (Parked s)) (sure s) (h s)) }

-- with one stamp in doubt, an image gives the set as it was, or as it will be
pub either_set : (rows : ℕ → Row) (t : ℕ) (r : Row) (set other : List Entry) (c : Folder) → AreSure rows → IsSetOf rows set → pair_before r ≡ pair_before (rows t) → IsFileSet other
    → ((s : ℕ) → files_at s other ≡ cond (nat_eq t s) (pair_after r) (files_at s set)) → Has (set_row rows t r) c → Either set other c
either_set rows t r set other c sure is old rises at h =
    let rest : (s : ℕ) → nat_eq t s ≡ false → files_at s set ≡ both (c (Block s)) (c (Index s)) = λ s e. is.each s ∙ sym (sure_one (rows s) (c (Block s)) (c (Index s)) (c (Parked s)) (sure s) (has_other rows t r c h s e)) in
    ⊎_elim
    (λ (e : both (c (Block t)) (c (Index t)) ≡ pair_before r). inl (record {
      rises = is.rises;
      each = λ s. by_test (nat_eq t s) (λ b. files_at s set ≡ both (c (Block s)) (c (Index s)))
          (λ g. subst (λ (q : ℕ). files_at q set ≡ both (c (Block q)) (c (Index q))) (is_same t s g) (is.each t ∙ sym old ∙ sym e)) (λ g. rest s g);
    }))
    (λ (e : both (c (Block t)) (c (Index t)) ≡ pair_after r). inr (record {
      rises = rises;
      each = λ s. at s ∙ by_test (nat_eq t s) (λ b. cond b (pair_after r) (files_at s set) ≡ both (c (Block s)) (c (Index s)))
          (λ g. sym (subst (λ (q : ℕ). both (c (Block q)) (c (Index q)) ≡ pair_after r) (is_same t s g) e)) (λ g. rest s g);
    }))
    (one_of r (c (Block t)) (c (Index t)) (c (Parked t)) (has_here rows t r c h))
