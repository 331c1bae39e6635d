-- The slots of addresses, with one more.
use Rattle.std.proofs.Common.{◌≡◌, ℕ, zero, suc, ◌<◌, List, [], ◌∷◌, ◌++◌, length, ◌⊎◌, inl, inr, refl, sym, ap, ◌∙◌, subst, arith, true, false, ⊎_elim, Option, Some, None, nat_cmp, cond, unwrap_or, option_map}
use Rattle.std.specs.Prelude.{slice_get}
use Rattle.std.specs.BTreeMap.{BTreeMap, get, is_at, Updates}
use Rattle.std.proofs.lemmas.Bool.{cases_Bool}
use Rattle.std.proofs.lemmas.Option.{none-some, same_Some, slice_get_cases}
use Rattle.st_index.specs.NumberedLists.{list_at}
use Rattle.st_index.specs.Slots.{in_slot, address_at, AreSlots}
use Rattle.st_index.specs.declared.addresses.AddressList.{AddressList}
use Rattle.st_index.proofs.Ties.{tied}

-- the slot of an address is there
there_is : (lists : List AddressList) (a s : ℕ) → address_at lists s ≡ Some a → s < length lists
there_is lists a s e = ⊎_elim (λ (x, less, f, g). less) (λ (past, f). absurd (none-some a (sym (ap (option_map (λ x. x.address)) f) ∙ e))) (slice_get_cases lists s).1

pub slot_within : (order : BTreeMap ℕ ℕ) (lists : List AddressList) (a s : ℕ) → AreSlots order lists → get nat_cmp order a ≡ Some s → s < length lists
slot_within order lists a s slots e = there_is lists a s ((slots a s).0 e)

-- ---- a list more

before_end : (lists : List AddressList) (x : AddressList) (s : ℕ) → s < length lists → slice_get (lists ++ x ∷ []) s ≡ slice_get lists s
before_end [] x s less = absurd (omega arith)
before_end (y ∷ lists) x zero less = refl
before_end (y ∷ lists) x (suc s) less = before_end lists x s (omega arith)

at_end : (lists : List AddressList) (x : AddressList) → slice_get (lists ++ x ∷ []) (length lists) ≡ Some x
at_end [] x = refl
at_end (y ∷ lists) x = at_end lists x

address_pushed : (lists : List AddressList) (x : AddressList) (a s : ℕ) → address_at (lists ++ x ∷ []) s ≡ Some a → (address_at lists s ≡ Some a) ⊎ ((s ≡ length lists) × (x.address ≡ a))
address_pushed [] x a zero e = inr (refl, same_Some x.address a e)
address_pushed [] x a (suc s) e = absurd (none-some a e)
address_pushed (y ∷ lists) x a zero e = inl e
address_pushed (y ∷ lists) x a (suc s) e = ⊎_elim (λ f. inl f) (λ (f, g). inr (ap suc f, g)) (address_pushed lists x a s e)

address_kept : (lists : List AddressList) (x : AddressList) (a s : ℕ) → address_at lists s ≡ Some a → address_at (lists ++ x ∷ []) s ≡ Some a
address_kept lists x a s e = ap (option_map (λ x. x.address)) (before_end lists x s (there_is lists a s e)) ∙ e

-- a new address gets the slot at the end
module _ (old new : BTreeMap ℕ ℕ) (lists : List AddressList) (x : AddressList) (none : get nat_cmp old x.address ≡ None) (u : Updates nat_cmp old new x.address (Some (length lists))) where
  other : (a : ℕ) → is_at (nat_cmp x.address) a ≡ false → get nat_cmp new a ≡ get nat_cmp old a
  other a n = u.0 a ∙ (ap (λ b. cond b (Some (length lists)) (get nat_cmp old a)) n)

  itself : (a : ℕ) → is_at (nat_cmp x.address) a ≡ true → get nat_cmp new a ≡ Some (length lists)
  itself a y = u.0 a ∙ (ap (λ b. cond b (Some (length lists)) (get nat_cmp old a)) y)

  slots_pushed : AreSlots old lists → AreSlots new (lists ++ x ∷ [])
  slots_pushed slots a s = (
    λ e. ⊎_elim
        (λ y. let last : length lists ≡ s = same_Some (length lists) s (sym (itself a y) ∙ e) in
        subst (λ n. address_at (lists ++ x ∷ []) n ≡ Some a) last (ap (option_map (λ x. x.address)) (at_end lists x) ∙ ap Some (tied x.address a y)))
        (λ n. address_kept lists x a s ((slots a s).0 (sym (other a n) ∙ e)))
        (cases_Bool (is_at (nat_cmp x.address) a)),
    λ e. ⊎_elim
        (λ f. let had = (slots a s).1 f in
        ⊎_elim
        (λ y. absurd (none-some s (sym none ∙ (ap (get nat_cmp old) (tied x.address a y) ∙ had))))
        (λ n. other a n ∙ had)
        (cases_Bool (is_at (nat_cmp x.address) a)))
        (λ (f, g). ap (get nat_cmp new) (sym g) ∙ (u.1 ∙ ap Some (sym f)))
        (address_pushed lists x a s e),
  )

  positions_kept : AreSlots old lists → x.positions.items ≡ [] → (a : ℕ) → list_at (in_slot (lists ++ x ∷ [])) nat_cmp new a ≡ list_at (in_slot lists) nat_cmp old a
  positions_kept slots empty a = ⊎_elim
      (λ y.
      ap (λ o. unwrap_or (option_map (in_slot (lists ++ x ∷ [])) o) []) (itself a y)
      ∙ (ap (λ o. unwrap_or (option_map (λ x. x.positions.items) o) []) (at_end lists x)
      ∙ (empty ∙ ap (λ o. unwrap_or (option_map (in_slot lists) o) []) (sym none ∙ ap (get nat_cmp old) (tied x.address a y)))))
      (λ n. ap (λ o. unwrap_or (option_map (in_slot (lists ++ x ∷ [])) o) []) (other a n)
      ∙ (elim (get nat_cmp old a) as (λ (o : Option ℕ). get nat_cmp old a ≡ o → unwrap_or (option_map (in_slot (lists ++ x ∷ [])) o) [] ≡ unwrap_or (option_map (in_slot lists) o) []) [
        | None ↦ λ e. refl
        | Some s ↦ λ e. ap (λ o. unwrap_or (option_map (λ x. x.positions.items) o) []) (before_end lists x s (slot_within old lists a s slots e))
      ] refl))
      (cases_Bool (is_at (nat_cmp x.address) a))

-- what a new address leaves: the slots, its own, and the positions of all
pub made : (old new : BTreeMap ℕ ℕ) (lists more : List AddressList) (x : AddressList) (s : ℕ) → more ≡ lists ++ x ∷ [] → s ≡ length lists → x.positions.items ≡ []
    → None ≡ get nat_cmp old x.address → Updates nat_cmp old new x.address (Some s) → AreSlots old lists
    → AreSlots new more × (address_at more s ≡ Some x.address) × ((a : ℕ) → list_at (in_slot more) nat_cmp new a ≡ list_at (in_slot lists) nat_cmp old a)
made old new lists more x s pushed last empty none u slots =
    let v : Updates nat_cmp old new x.address (Some (length lists)) = subst (λ n. Updates nat_cmp old new x.address (Some n)) last u in (
      subst (λ ls. AreSlots new ls) (sym pushed) (slots_pushed old new lists x (sym none) v slots),
      ap (λ ls. address_at ls s) pushed ∙ (ap (address_at (lists ++ x ∷ [])) last ∙ ap (option_map (λ x. x.address)) (at_end lists x)),
      λ a. ap (λ ls. list_at (in_slot ls) nat_cmp new a) pushed ∙ positions_kept old new lists x (sym none) v slots empty a,
    )
