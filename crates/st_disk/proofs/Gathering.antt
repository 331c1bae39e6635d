-- Every name that is there is the name of some update.
use Rattle.std.proofs.Common.{◌≡◌, ◌⊎◌, ℕ, List, [], ◌∷◌, Option, None, Some, Bool, true, false, cond, refl, sym, ap, subst, ◌<◌, ◌≤◌, ◌-◌, length, get_or, take, drop, arith, inl, inr, ⊎_elim, IsSome, OnOk, Result, Ok, Err, Contains, ◌↔◌, ◌∙◌}
use Rattle.std.proofs.lemmas.List.{take_all}
use Rattle.st_disk.specs.declared.naming.Kind.{Kind}
use Rattle.st_disk.specs.declared.naming.Kind.TheVariants as kind
use Rattle.st_disk.specs.declared.naming.Name.{Name}
use Rattle.st_disk.specs.declared.changes.Update.{Update}
use Rattle.st_disk.specs.declared.changes.Update.TheVariants.{Set, Move}
use Rattle.st_disk.specs.Names.{same_name, kind_of, AreSorted}
use Rattle.st_disk.specs.Folders.{Folder, with_file, update_on, updates_on, folder_of, bare}
use Rattle.st_disk.specs.Disks.{Log, reads}
use Rattle.st_disk.specs.Book.{IsKept}
use Rattle.st_disk.specs.Listing.{target, IsUpdated}
use Rattle.st_disk.proofs.Order.{same_is}
use Rattle.st_disk.proofs.Keeping.{read_block, read_index}

chosen : (b : Bool) (v w : Option (List ℕ)) → IsSome (cond b v w) → ((b ≡ true) × IsSome v) ⊎ IsSome w
chosen true v w h = inl (refl, h)
chosen false v w h = inr h

nothing : IsSome {T = List ℕ} None → ⊥
nothing h = cc

update_there : (f : Folder) (p : Update) (n : Name) → IsSome (update_on f p n) → (target p ≡ n) ⊎ IsSome (f n)
update_there f (Set m bytes) n h = ⊎_elim (λ here. inl (same_is m n here.0)) (λ was. inr was) (chosen (same_name m n) bytes (f n) h)
update_there f (Move a b bytes) n h =
    ⊎_elim
    (λ here. inl (same_is b n here.0))
    (λ was. ⊎_elim (λ gone. absurd (nothing gone.1)) (λ there. inr there) (chosen (same_name a n) None (f n) was))
    (chosen (same_name b n) (Some bytes) (with_file f a None n) h)

updates_there : (f : Folder) (ps : List Update) (n : Name) → IsSome (updates_on f ps n) → IsUpdated ps n ⊎ IsSome (f n)
updates_there f [] n h = inr h
updates_there f (p ∷ ps) n h =
    ⊎_elim (λ later. inl (inr later)) (λ now. ⊎_elim (λ here. inl (inl here)) (λ was. inr was) (update_there f p n now)) (updates_there (update_on f p) ps n h)

pub folder_there : (ps : List Update) (n : Name) → IsSome (folder_of ps n) → IsUpdated ps n
unfolding folder_of
folder_there ps n h = ⊎_elim (λ update. update) (λ none. absurd (nothing none)) (updates_there bare ps n h)

pub one_has : {E : Type 0} (r : Result (Unit {0}) E) (old new : List Name) (m t : Name) (f : Folder) → m ≡ t → IsSome (f m)
    → OnOk r ((n : Name) → Contains new n ↔ (Contains old n ⊎ (n ≡ m))) → OnOk r ((n : Name) → Contains new n ↔ (Contains old n ⊎ ((n ≡ t) × IsSome (f n))))
one_has {E = E} (Ok v) old new m t f same there has = λ n. (
  λ h. ⊎_elim (λ was. inl was) (λ (e : n ≡ m). inr (e ∙ same, subst (λ (k : Name). IsSome (f k)) (sym e) there)) ((has n).0 h),
  λ h. (has n).1 (⊎_elim (λ was. inl was) (λ now. inr (now.0 ∙ sym same)) h),
)
one_has {E = E} (Err e) old new m t f same there has = has

-- the first update, and those after it
pub is_updated_rest : (ps : List Update) (p : Update) (n : Name) → p ≡ get_or ps 0 p → 1 ≤ length ps → IsUpdated ps n → (n ≡ target p) ⊎ IsUpdated (take (length ps - 1) (drop 1 ps)) n
is_updated_rest [] p n e some h = absurd h
is_updated_rest (q ∷ qs) p n e some h =
    let more : length qs ≤ length (q ∷ qs) - 1 = omega arith in
    ⊎_elim (λ here. inl (sym here ∙ ap target (sym e))) (λ later. inr (subst (λ (xs : List Update). IsUpdated xs n) (sym (take_all (length (q ∷ qs) - 1) qs more)) later)) h

pub none_left : (ps : List Update) (n : Name) → length ps < 1 → IsUpdated ps n → ⊥
none_left [] n none h = h
none_left (q ∷ qs) n none h = omega arith

-- the names of both folders are all that are read
pub all_listed : (log : Log) (ps ns : List Update) (next : ℕ) (none one all : List Name) → none ≡ [] → IsKept log ps ns next
    → ((n : Name) → Contains one n → Contains none n ⊎ IsSome (reads log n)) → ((n : Name) → Contains none n ⊎ (IsSome (reads log n) × IsUpdated ps n) → Contains one n)
    → ((n : Name) → Contains all n → Contains one n ⊎ IsSome (reads log n)) → ((n : Name) → Contains one n ⊎ (IsSome (reads log n) × IsUpdated ns n) → Contains all n)
    → (n : Name) → Contains all n ↔ IsSome (reads log n)
all_listed log ps ns next none one all bare kept there_one all_one there_all all_all n = (
  λ h. ⊎_elim (λ in_one. ⊎_elim (λ in_none. absurd (empty n (subst (λ (xs : List Name). Contains xs n) bare in_none))) (λ there. there) (there_one n in_one)) (λ there. there) (there_all n h),
  λ there. by_kind_of (kind_of n) refl there,
) where
  empty : (n : Name) → Contains [] n → ⊥
  empty n h = let lt : h.0 < 0 = h.1 in omega arith

  by_kind_of : (k : Kind) → kind_of n ≡ k → IsSome (reads log n) → Contains all n
  by_kind_of kind.Block e there = all_all n (inl (all_one n (inr (there, folder_there ps n (subst (λ (o : Option (List ℕ)). IsSome o) (sym (read_block log ps ns next n e kept)) there)))))
  by_kind_of kind.Index e there = all_all n (inr (there, folder_there ns n (subst (λ (o : Option (List ℕ)). IsSome o) (sym (read_index log ps ns next n e kept)) there)))

pub rises_none : AreSorted []
rises_none i j d lt less = absurd (omega arith)
