-- Stamps that are gathered from a list of names, one name after the other.
use Rattle.std.proofs.Common.{◌≡◌, ◌⊎◌, ◌<◌, ◌≤◌, ◌+◌, ℕ, max, List, [], ◌∷◌, ◌++◌, length, get_or, Contains, sym, ◌∙◌, ap, subst, inl, inr, ⊎_elim, arith}
use Rattle.std.specs.List.{AllPairs}
use Rattle.std.proofs.lemmas.List.{get_or_default}
use Rattle.std.proofs.lemmas.List.Elements.{Contains-get_or, Contains-push, Contains-push_cases, Contains-append_left}
use Rattle.std.proofs.lemmas.List.Quantifiers.{all_pairs_push}
use Rattle.st_disk.specs.declared.naming.Name.{Name}
use Rattle.st_disk.specs.declared.naming.Name.TheVariants.{Block, Index}
use Rattle.st_disk.specs.Names.{AreSorted, Before, number_of}
use Rattle.st_spool.specs.Entering.{IsStamped, ArePaired}

below_or_at : (k i : ℕ) → k < i + 1 → (k < i) ⊎ (k ≡ i)
below_or_at k i lt = grind arith

-- one index more
up_to : (i : ℕ) (P : ℕ → Type 0) → ((k : ℕ) → k < i → P k) → P i → (k : ℕ) → k < i + 1 → P k
up_to i P was here k lt = ⊎_elim (λ (b : k < i). was k b) (λ (e : k ≡ i). subst P (sym e) here) (below_or_at k i lt)

module _ (names : List Name) (i : ℕ) (lt : i < length names) where
  here : Name
  here = get_or names i (Block 0)

  at : (d : Name) → get_or names i d ≡ get_or names i (Block 0)
  at d = get_or_default names i d (Block 0) lt

  abbrev Above : ℕ → ℕ → Type 0
  Above n last = (k : ℕ) (d : Name) → k < n → IsStamped (get_or names k d) → number_of (get_or names k d) ≤ last

  abbrev Some_of : ℕ → Type 0
  Some_of last = (last ≡ 0) ⊎ ((n : Name) × IsStamped n × Contains names n × (number_of n ≡ last))

  pub above_more : (last stamp now : ℕ) → Above i last → number_of (get_or names i (Block 0)) ≡ stamp → now ≡ max stamp last → Above (i + 1) now
  above_more last stamp now was is most k d = up_to i (λ j. IsStamped (get_or names j d) → number_of (get_or names j d) ≤ now)
      (λ j b s. let le : number_of (get_or names j d) ≤ last = was j d b s in omega arith)
      (λ s. let e : number_of (get_or names i d) ≡ stamp = ap number_of (at d) ∙ is in omega arith) k

  max_is : (a b now : ℕ) → now ≡ max a b → (now ≡ a) ⊎ (now ≡ b)
  max_is a b now e = grind arith

  pub some_more : (last stamp now : ℕ) → Some_of last → IsStamped (get_or names i (Block 0)) → number_of (get_or names i (Block 0)) ≡ stamp → now ≡ max stamp last → Some_of now
  some_more last stamp now was stamped is most =
      ⊎_elim
      (λ (e : now ≡ stamp). inr (get_or names i (Block 0), stamped, Contains-get_or names i (Block 0) lt, is ∙ sym e))
      (λ (e : now ≡ last). ⊎_elim (λ z. inl (e ∙ z)) (λ s. inr (s.0, s.1, s.2, s.3 ∙ sym e)) was)
      (max_is stamp last now most)

  pub above_still : (last : ℕ) → Above i last → (IsStamped (get_or names i (Block 0)) → ⊥) → Above (i + 1) last
  above_still last was draft k d = up_to i (λ j. IsStamped (get_or names j d) → number_of (get_or names j d) ≤ last) (λ j b. was j d b) (λ s. absurd (draft (subst IsStamped (at d) s))) k

  abbrev Each_of : ℕ → List ℕ → Type 0
  Each_of n v = (s : ℕ) → Contains v s → (k : ℕ) × (k < n) × ((d : Name) → get_or names k d ≡ Block s) × Contains names (Index s)

  abbrev All_of : ℕ → List ℕ → Type 0
  All_of n v = (k s : ℕ) (d : Name) → k < n → get_or names k d ≡ Block s → Contains names (Index s) → Contains v s

  pub each_still : (v : List ℕ) → Each_of i v → Each_of (i + 1) v
  each_still v was s has = let r = was s has in let b : r.0 < i = r.1 in (r.0, omega arith, r.2, r.3)

  pub all_still : (v : List ℕ) → All_of i v → ((s : ℕ) → get_or names i (Block 0) ≡ Block s → Contains names (Index s) → ⊥) → All_of (i + 1) v
  all_still v was none k s d = up_to i (λ j. get_or names j d ≡ Block s → Contains names (Index s) → Contains v s) (λ j b. was j s d b) (λ e has. absurd (none s (sym (at d) ∙ e) has)) k

  module _ (v w : List ℕ) (stamp : ℕ) (pushed : w ≡ v ++ stamp ∷ []) (is : get_or names i (Block 0) ≡ Block stamp) (index : Contains names (Index stamp)) where
    pub each_more : Each_of i v → Each_of (i + 1) w
    each_more was s has =
        ⊎_elim (λ (h : Contains v s). each_still v was s h)
        (λ (e : stamp ≡ s). (i, omega arith, λ d. at d ∙ is ∙ ap Block e, subst (λ (n : ℕ). Contains names (Index n)) e index))
        (Contains-push_cases v stamp s (subst (λ (xs : List ℕ). Contains xs s) pushed has))

    kept : (s : ℕ) → Contains v s → Contains w s
    kept s has = subst (λ (xs : List ℕ). Contains xs s) (sym pushed) (Contains-append_left v (stamp ∷ []) s has)

    block_is : (s : ℕ) → Block stamp ≡ Block s → stamp ≡ s
    block_is s e = ap number_of e

    pub all_more : All_of i v → All_of (i + 1) w
    all_more was k s d = up_to i (λ j. get_or names j d ≡ Block s → Contains names (Index s) → Contains w s) (λ j b e has. kept s (was j s d b e has))
        (λ e has. subst (λ (n : ℕ). Contains w n) (block_is s (sym is ∙ sym (at d) ∙ e)) (subst (λ (xs : List ℕ). Contains xs stamp) (sym pushed) (Contains-push v stamp))) k

    less : (s : ℕ) → Before (Block s) (Block stamp) → s < stamp
    less s before = ⊎_elim (λ (h : 0 < 0). absurd (let no : 0 < 0 = h in omega arith)) (λ (h : (0 ≡ 0) × (s < stamp)). h.1) before

    pub rises_more : AreSorted names → Each_of i v → AllPairs (λ s t. s < t) v → AllPairs (λ s t. s < t) w
    rises_more sorted was rises =
        subst (AllPairs (λ s t. s < t)) (sym pushed)
        (all_pairs_push (λ s t. s < t) v stamp rises (λ j d b.
        let r = was (get_or v j d) (Contains-get_or v j d b) in
        less (get_or v j d) (subst (λ (n : Name). Before (Block (get_or v j d)) n) is (subst (λ (m : Name). Before m (get_or names i (Block 0))) (r.2 (Block 0)) (sorted r.0 i (Block 0) r.1 lt)))))

-- all names were looked at
pub all_paired : (names : List Name) (v : List ℕ) (n : ℕ) → length names ≤ n → AllPairs (λ s t. s < t) v → ((s : ℕ) → Contains v s → (k : ℕ) × (k < n) × ((d : Name) → get_or names k d ≡ Block s) × Contains names (Index s))
    → ((k s : ℕ) (d : Name) → k < n → get_or names k d ≡ Block s → Contains names (Index s) → Contains v s) → ((k : ℕ) → k < n → k < length names) → ArePaired (Contains names) v
all_paired names v n le rises each all within = record {
  rises = rises;
  each = λ s has. let r = each s has in ((r.0, within r.0 r.1, r.2 (Block s)), r.3);
  all = λ s block index. let lt : block.0 < length names = block.1 in all block.0 s (Block s) (omega arith) block.2 index;
}
