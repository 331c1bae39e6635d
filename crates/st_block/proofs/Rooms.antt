-- Which records fit a block, and that records fill blocks in one way only.
use Rattle.std.proofs.Common.{◌≡◌, ℕ, zero, suc, ◌+◌, ◌-◌, ◌*◌, ◌/◌, ◌<◌, ◌≤◌, ◌^◌, true, false, cond, List, [], ◌∷◌, ◌++◌, length, length-append, refl, sym, ap, ◌∙◌, subst, arith, append_assoc, append-nil, pow-add, inl, inr}
use Rattle.std.specs.Prelude.{nat_le, All, ◌↔◌}
use Rattle.std.specs.List.{flat_map}
use Rattle.std.proofs.Math.Pow.{pow_mono}
use Rattle.std.proofs.lemmas.Bool.{cases_lt, le-leb, lt-leb}
use Rattle.st_base.specs.Records.{Rec}
use Rattle.st_block.specs.BlockText.{IsBlockSize, IsShort, room, used_bytes, blocks_from, blocks, NoRoom, AreFilled}

-- a block size is a multiple of 16
pub sixteens : (size : ℕ) → IsBlockSize size → (m : ℕ) × (size ≡ 16 * m)
sixteens size b = elim (cases_lt b.power 4) [
  | inl low ↦
      let small : 2 ^ b.power ≤ 2 ^ 3 = pow_mono (let l : b.power ≤ 3 = omega arith in l) in
      let most : 2 ^ b.power ≤ 8 = small in
      absurd (omega (arith, b.is, b.least, most))
  | inr high ↦
      let split : 2 ^ (4 + (b.power - 4)) ≡ 2 ^ 4 * 2 ^ (b.power - 4) = pow-add 2 4 (b.power - 4) in
      let whole : 4 + (b.power - 4) ≡ b.power = omega arith in
      (2 ^ (b.power - 4), b.is ∙ ap (λ k. 2 ^ k) (sym whole) ∙ split)
]

-- what is used of a block is a multiple of 16
pub used_sixteens : (rs : List Rec) → (m : ℕ) × (used_bytes rs ≡ 16 * m)
used_sixteens [] = (3, refl)
used_sixteens (r ∷ rs) =
    let more = used_sixteens rs in
    (3 + (length r.body + 15) / 16 + more.0, omega (arith, more.1))

-- so a record fits where its body fits without the zeros after it
pub room_fits : (size : ℕ) → IsBlockSize size → (here : List Rec) (r : Rec) → (used_bytes here + room r ≤ size) ↔ (used_bytes here + 48 + length r.body ≤ size)
room_fits size b here r =
    let s = sixteens size b in
    let u = used_sixteens here in
    (λ h. omega arith, λ h. omega (arith, s.1, u.1))

-- a block's head is used
pub used_least : (rs : List Rec) → 48 ≤ used_bytes rs
used_least [] = omega arith
used_least (r ∷ rs) = let e = used_least rs in omega (arith, e)

-- what holds of each record holds of the first, and of each other
pub all_first : (P : Rec → Type 0) (r : Rec) (rs : List Rec) → All P (r ∷ rs) → P r
all_first P r rs all = all zero r (omega arith)

pub all_more : (P : Rec → Type 0) (r : Rec) (rs : List Rec) → All P (r ∷ rs) → All P rs
all_more P r rs all k d l = all (suc k) d (omega arith)

-- what is used after some records that others join
pub used-append : (xs ys : List Rec) → used_bytes (xs ++ ys) + 48 ≡ used_bytes xs + used_bytes ys
used-append [] ys = omega arith
used-append (r ∷ xs) ys = let e = used-append xs ys in omega (arith, e)

-- and one other
pub used_push : (xs : List Rec) (r : Rec) → used_bytes (xs ++ r ∷ []) ≡ used_bytes xs + room r
used_push xs r = let e = used-append xs (r ∷ []) in omega (arith, e)

-- each block's records, joined, are the records
flat_blocks_from : (size : ℕ) (here rs : List Rec) → flat_map (λ b. b) (blocks_from size here rs) ≡ here ++ rs
flat_blocks_from size here [] = refl
flat_blocks_from size here (r ∷ rs) =
    elim (nat_le (used_bytes here + room r) size) as (λ t. flat_map (λ b. b) (cond t (blocks_from size (here ++ r ∷ []) rs) (here ∷ blocks_from size (r ∷ []) rs)) ≡ here ++ r ∷ rs) [
      | true ↦ flat_blocks_from size (here ++ r ∷ []) rs ∙ append_assoc here (r ∷ []) rs
      | false ↦ ap (λ l. here ++ l) (flat_blocks_from size (r ∷ []) rs)
    ]

pub flat_blocks : (size : ℕ) (rs : List Rec) → flat_map (λ b. b) (blocks size rs) ≡ rs
flat_blocks size [] = refl
flat_blocks size (r ∷ rs) = flat_blocks_from size (r ∷ []) rs

-- a record that fits joins the block at hand
pub joins : (size : ℕ) (here : List Rec) (r : Rec) (rs : List Rec) → used_bytes here + room r ≤ size → blocks_from size here (r ∷ rs) ≡ blocks_from size (here ++ r ∷ []) rs
joins size here r rs l = ap (λ t. cond t (blocks_from size (here ++ r ∷ []) rs) (here ∷ blocks_from size (r ∷ []) rs)) (le-leb (used_bytes here + room r) size l)

-- one that doesn't begins the next
pub begins_next : (size : ℕ) (here : List Rec) (r : Rec) (rs : List Rec) → size < used_bytes here + room r → blocks_from size here (r ∷ rs) ≡ here ∷ blocks_from size (r ∷ []) rs
begins_next size here r rs l = ap (λ t. cond t (blocks_from size (here ++ r ∷ []) rs) (here ∷ blocks_from size (r ∷ []) rs)) (lt-leb (used_bytes here + room r) size l)

-- the first record of the blocks to come is the first of the block at hand
no_room : (size : ℕ) (before : List Rec) (r : Rec) (here rs : List Rec) → size < used_bytes before + room r → NoRoom size before (blocks_from size (r ∷ here) rs)
no_room size before r here [] l = l
no_room size before r here (q ∷ rs) l =
    elim (nat_le (used_bytes (r ∷ here) + room q) size) as (λ t. NoRoom size before (cond t (blocks_from size (r ∷ (here ++ q ∷ [])) rs) ((r ∷ here) ∷ blocks_from size (q ∷ []) rs))) [
      | true ↦ no_room size before r (here ++ q ∷ []) rs l
      | false ↦ l
    ]

-- a record that a block has room for fits one without others
fits_alone : (size : ℕ) → IsBlockSize size → (r : Rec) → IsShort size r → used_bytes (r ∷ []) ≤ size
fits_alone size b r h = let f = (room_fits size b [] r).1 (omega arith) in omega (arith, f)

-- records fill blocks
fills_from : (size : ℕ) → IsBlockSize size → (here rs : List Rec) → 1 ≤ length here → used_bytes here ≤ size → All (IsShort size) rs → AreFilled size (blocks_from size here rs)
fills_from size b here [] some l short = (some, l, tt, tt)
fills_from size b here (r ∷ rs) some l short = elim (cases_lt size (used_bytes here + room r)) [
  | inl full ↦
      let next = fills_from size b (r ∷ []) rs (let one : 1 ≤ 1 = omega arith in one) (fits_alone size b r (all_first (IsShort size) r rs short)) (all_more (IsShort size) r rs short) in
      subst (AreFilled size) (sym (begins_next size here r rs full)) (some, l, no_room size here r [] rs full, next)
  | inr fits ↦
      let more : used_bytes (here ++ r ∷ []) ≤ size = let e = used_push here r in omega (arith, e) in
      let longer : 1 ≤ length (here ++ r ∷ []) = let e = length-append here (r ∷ []) in omega (arith, e) in
      subst (AreFilled size) (sym (joins size here r rs fits)) (fills_from size b (here ++ r ∷ []) rs longer more (all_more (IsShort size) r rs short))
]

pub file_fills : (size : ℕ) (rs : List Rec) → IsBlockSize size → All (IsShort size) rs → AreFilled size (blocks size rs)
file_fills size [] b short = tt
file_fills size (r ∷ rs) b short =
    fills_from size b (r ∷ []) rs (let one : 1 ≤ 1 = omega arith in one) (fits_alone size b r (all_first (IsShort size) r rs short)) (all_more (IsShort size) r rs short)

-- records that fit join the block at hand
all_join : (size : ℕ) (here xs rs : List Rec) → used_bytes (here ++ xs) ≤ size → blocks_from size here (xs ++ rs) ≡ blocks_from size (here ++ xs) rs
all_join size here [] rs l = ap (λ h. blocks_from size h rs) (sym (append-nil here))
all_join size here (x ∷ xs) rs l =
    let same : (here ++ x ∷ []) ++ xs ≡ here ++ x ∷ xs = append_assoc here (x ∷ []) xs in
    let fits : used_bytes here + room x ≤ size = let e = used-append here (x ∷ xs) in let least = used_least xs in omega (arith, e, least) in
    joins size here x (xs ++ rs) fits
    ∙ all_join size (here ++ x ∷ []) xs rs (subst (λ h. used_bytes h ≤ size) (sym same) l)
    ∙ ap (λ h. blocks_from size h rs) same

-- the blocks after the block at hand are those that their records fill
blocks_ahead : (size : ℕ) (here : List Rec) (bs : List (List Rec)) → NoRoom size here bs → AreFilled size bs → blocks_from size here (flat_map (λ b. b) bs) ≡ here ∷ bs
blocks_ahead size here [] none fill = refl
blocks_ahead size here ([] ∷ bs) none fill = absurd none
blocks_ahead size here ((r ∷ c) ∷ bs) none (some, l, apart, fill) =
    begins_next size here r (c ++ flat_map (λ b. b) bs) none
    ∙ ap (λ l. here ∷ l) (all_join size (r ∷ []) c (flat_map (λ b. b) bs) l ∙ blocks_ahead size (r ∷ c) bs apart fill)

-- blocks that records fill are the blocks of their records, joined
pub fills_are : (size : ℕ) (bs : List (List Rec)) → AreFilled size bs → blocks size (flat_map (λ b. b) bs) ≡ bs
fills_are size [] fill = refl
fills_are size ([] ∷ bs) (some, l, apart, fill) = absurd (omega arith)
fills_are size ((r ∷ c) ∷ bs) (some, l, apart, fill) =
    all_join size (r ∷ []) c (flat_map (λ b. b) bs) l ∙ blocks_ahead size (r ∷ c) bs apart fill
