-- How many positions keys have together, after one is put.
use Rattle.std.proofs.Common.{◌≡◌, ℕ, ◌+◌, ◌≤◌, true, false, if◌then◌else◌, List, [], ◌∷◌, ◌++◌, length, length-append, Contains, ◌⊎◌, refl, sym, ap, ◌∙◌, subst, arith, ⊎_elim}
use Rattle.st_walk.specs.declared.text.Key.{Key}
use Rattle.st_walk.specs.declared.header.Layer.TheVariants.{Ether}
use Rattle.st_walk.specs.Walk.{InOrder}
use Rattle.st_walk.specs.Listing.{frame_keys}
use Rattle.st_walk.proofs.Walks.{walk_order}
use Rattle.st_index.specs.NumberedLists.{ends_with, with_last}
use Rattle.st_index.specs.PositionLists.{positions_at, AreDistinct, count_in}
use Rattle.st_index.specs.declared.lists.PositionLists.{PositionLists}
use Rattle.st_index.proofs.Adding.{cases_key, there}

-- a position more at most
longer : (ps : List ℕ) (p : ℕ) → length (with_last ps p) ≤ length ps + 1
longer ps p = elim (ends_with ps p) as (λ b. length (if b then ps else ps ++ p ∷ []) ≤ length ps + 1) [
  | true ↦ omega arith
  | false ↦ let e = length-append ps (p ∷ []) in omega arith
]

-- where no key's positions changed
pub count_same : (old new : PositionLists) (ks : List Key) → ((k : Key) → Contains ks k → positions_at new k ≡ positions_at old k) → count_in new ks ≡ count_in old ks
count_same old new [] same = refl
count_same old new (k ∷ ks) same =
    let here : length (positions_at new k) ≡ length (positions_at old k) = ap length (same k (0, omega arith, refl)) in
    let rest = count_same old new ks (λ j c. same j (there k j ks c)) in
    omega (arith, here, rest)

-- where one position was put to one key
pub count_put : (old new : PositionLists) (key : Key) (p : ℕ) (ks : List Key) → AreDistinct ks
    → positions_at new key ≡ with_last (positions_at old key) p → ((k : Key) → (k ≡ key) ⊎ (positions_at new k ≡ positions_at old k))
    → count_in new ks ≤ count_in old ks + 1
count_put old new key p [] apart here others = omega arith
count_put old new key p (k ∷ ks) (first, apart) here others = ⊎_elim
    (λ same.
    let more : length (positions_at new k) ≤ length (positions_at old k) + 1 =
    subst (λ (j : Key). length (positions_at new j) ≤ length (positions_at old j) + 1) (sym same) (subst (λ (ps : List ℕ). length ps ≤ length (positions_at old key) + 1) (sym here) (longer (positions_at old key) p)) in
    let rest = count_same old new ks (λ j c. ⊎_elim (λ e. absurd (first j c (same ∙ sym e))) (λ e. e) (others j)) in
    omega (arith, more, rest))
    (λ other.
    let stays : length (positions_at new k) ≡ length (positions_at old k) = ⊎_elim (λ e. absurd (other e)) (λ e. ap length e) (others k) in
    let rest = count_put old new key p ks apart here others in
    omega (arith, stays, rest))
    (cases_key k key)

-- the keys that an iterator begins with are those of the frame
pub all_keys : (frame : List ℕ) (left : List Key) → ((ks : List Key) → (InOrder frame 0 Ether ks → ks ≡ left)) → left ≡ frame_keys frame
all_keys frame left order = sym (order (frame_keys frame) ((walk_order frame 0 Ether (frame_keys frame)).1 refl))

-- where no key has a position
pub count_none : (lists : PositionLists) (ks : List Key) → ((k : Key) → positions_at lists k ≡ []) → count_in lists ks ≡ 0
count_none lists [] none = refl
count_none lists (k ∷ ks) none =
    let here : length (positions_at lists k) ≡ 0 = ap length (none k) in
    let rest = count_none lists ks none in
    omega (arith, here, rest)
