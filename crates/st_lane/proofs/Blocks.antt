-- The blocks of some records and one more: it joins the last block, or begins the next.
use Rattle.std.proofs.Common.{◌≡◌, ℕ, ◌+◌, ◌-◌, ◌<◌, ◌≤◌, true, false, cond, List, [], ◌∷◌, ◌++◌, length, refl, sym, ap, ◌∙◌, subst, arith}
use Rattle.std.specs.Prelude.{nat_le}
use Rattle.st_base.specs.Records.{Rec}
use Rattle.st_block.specs.BlockText.{room, used_bytes, blocks_from, blocks}
use Rattle.st_block.specs.Position.{positions_from}
use Rattle.st_block.proofs.Rooms.{joins, begins_next, used_least}
use Rattle.st_lane.specs.Filling.{but_last, last_block}

-- the blocks after one: there is one at least, so the one before it isn't the last
some_from : (size : ℕ) (here rs : List Rec) → (b : List Rec) × (bs : List (List Rec)) × (blocks_from size here rs ≡ b ∷ bs)
some_from size here [] = (here, [], refl)
some_from size here (r ∷ rs) =
    elim (nat_le (used_bytes here + room r) size) as (λ t. (b : List Rec) × (bs : List (List Rec)) × (cond t (blocks_from size (here ++ r ∷ []) rs) (here ∷ blocks_from size (r ∷ []) rs) ≡ b ∷ bs)) [
      | true ↦ some_from size (here ++ r ∷ []) rs
      | false ↦ (here, blocks_from size (r ∷ []) rs, refl)
    ]

but_last_more : (here : List Rec) (xs : List (List Rec)) (b : List Rec) (bs : List (List Rec)) → xs ≡ b ∷ bs → but_last (here ∷ xs) ≡ here ∷ but_last xs
but_last_more here xs b bs e = rw e refl

last_more : (here : List Rec) (xs : List (List Rec)) (b : List Rec) (bs : List (List Rec)) → xs ≡ b ∷ bs → last_block (here ∷ xs) ≡ last_block xs
last_more here xs b bs e = rw e refl

-- the last block and those before it are all
pub all_blocks : (b : List Rec) (bs : List (List Rec)) → but_last (b ∷ bs) ++ last_block (b ∷ bs) ∷ [] ≡ b ∷ bs
all_blocks b [] = refl
all_blocks b (c ∷ bs) = ap (λ l. b ∷ l) (all_blocks c bs)

pub but_last-push : (bs : List (List Rec)) (b : List Rec) → but_last (bs ++ b ∷ []) ≡ bs
but_last-push [] b = refl
but_last-push (c ∷ []) b = refl
but_last-push (c ∷ d ∷ bs) b = ap (λ l. c ∷ l) (but_last-push (d ∷ bs) b)

pub last-push : (bs : List (List Rec)) (b : List Rec) → last_block (bs ++ b ∷ []) ≡ b
last-push [] b = refl
last-push (c ∷ []) b = refl
last-push (c ∷ d ∷ bs) b = last-push (d ∷ bs) b

-- one record more, by the block at hand
Joins : ℕ → List (List Rec) → List (List Rec) → Rec → Type 0
Joins size old new r = used_bytes (last_block old) + room r ≤ size → new ≡ but_last old ++ (last_block old ++ r ∷ []) ∷ []

joins_more : (size : ℕ) (here : List Rec) (old new : List (List Rec)) (r : Rec) (b : List Rec) (bs : List (List Rec)) → old ≡ b ∷ bs
    → (used_bytes (last_block old) + room r ≤ size → new ≡ but_last old ++ (last_block old ++ r ∷ []) ∷ [])
    → used_bytes (last_block (here ∷ old)) + room r ≤ size → here ∷ new ≡ but_last (here ∷ old) ++ (last_block (here ∷ old) ++ r ∷ []) ∷ []
joins_more size here old new r b bs e h =
    rw (but_last_more here old b bs e, last_more here old b bs e) (λ l. ap (λ x. here ∷ x) (h l))

joins_from : (size : ℕ) (here rs : List Rec) (r : Rec) → used_bytes (last_block (blocks_from size here rs)) + room r ≤ size
    → blocks_from size here (rs ++ r ∷ []) ≡ but_last (blocks_from size here rs) ++ (last_block (blocks_from size here rs) ++ r ∷ []) ∷ []
joins_from size here [] r = λ l. joins size here r [] l
joins_from size here (q ∷ rs) r =
    elim (nat_le (used_bytes here + room q) size) as (λ t.
    used_bytes (last_block (cond t (blocks_from size (here ++ q ∷ []) rs) (here ∷ blocks_from size (q ∷ []) rs))) + room r ≤ size
    → cond t (blocks_from size (here ++ q ∷ []) (rs ++ r ∷ [])) (here ∷ blocks_from size (q ∷ []) (rs ++ r ∷ []))
    ≡ but_last (cond t (blocks_from size (here ++ q ∷ []) rs) (here ∷ blocks_from size (q ∷ []) rs))
    ++ (last_block (cond t (blocks_from size (here ++ q ∷ []) rs) (here ∷ blocks_from size (q ∷ []) rs)) ++ r ∷ []) ∷ []) [
      | true ↦ joins_from size (here ++ q ∷ []) rs r
      | false ↦
          let s = some_from size (q ∷ []) rs in
          joins_more size here (blocks_from size (q ∷ []) rs) (blocks_from size (q ∷ []) (rs ++ r ∷ [])) r s.0 s.1 s.2 (joins_from size (q ∷ []) rs r)
    ]

-- a record that the last block has room for joins it
pub joins_last : (size : ℕ) (rs : List Rec) (r : Rec) → used_bytes (last_block (blocks size rs)) + room r ≤ size
    → blocks size (rs ++ r ∷ []) ≡ but_last (blocks size rs) ++ (last_block (blocks size rs) ++ r ∷ []) ∷ []
joins_last size [] r l = refl
joins_last size (q ∷ rs) r l = joins_from size (q ∷ []) rs r l

begins_more : (size : ℕ) (here : List Rec) (old new : List (List Rec)) (r : Rec) (b : List Rec) (bs : List (List Rec)) → old ≡ b ∷ bs
    → (size < used_bytes (last_block old) + room r → new ≡ old ++ (r ∷ []) ∷ [])
    → size < used_bytes (last_block (here ∷ old)) + room r → here ∷ new ≡ here ∷ (old ++ (r ∷ []) ∷ [])
begins_more size here old new r b bs e h =
    rw (last_more here old b bs e) (λ l. ap (λ x. here ∷ x) (h l))

begins_from : (size : ℕ) (here rs : List Rec) (r : Rec) → size < used_bytes (last_block (blocks_from size here rs)) + room r
    → blocks_from size here (rs ++ r ∷ []) ≡ blocks_from size here rs ++ (r ∷ []) ∷ []
begins_from size here [] r = λ l. begins_next size here r [] l
begins_from size here (q ∷ rs) r =
    elim (nat_le (used_bytes here + room q) size) as (λ t.
    size < used_bytes (last_block (cond t (blocks_from size (here ++ q ∷ []) rs) (here ∷ blocks_from size (q ∷ []) rs))) + room r
    → cond t (blocks_from size (here ++ q ∷ []) (rs ++ r ∷ [])) (here ∷ blocks_from size (q ∷ []) (rs ++ r ∷ []))
    ≡ cond t (blocks_from size (here ++ q ∷ []) rs) (here ∷ blocks_from size (q ∷ []) rs) ++ (r ∷ []) ∷ []) [
      | true ↦ begins_from size (here ++ q ∷ []) rs r
      | false ↦
          let s = some_from size (q ∷ []) rs in
          begins_more size here (blocks_from size (q ∷ []) rs) (blocks_from size (q ∷ []) (rs ++ r ∷ [])) r s.0 s.1 s.2 (begins_from size (q ∷ []) rs r)
    ]

-- another one begins the next block
pub begins_last : (size : ℕ) (rs : List Rec) (r : Rec) → 1 ≤ length rs → size < used_bytes (last_block (blocks size rs)) + room r
    → blocks size (rs ++ r ∷ []) ≡ blocks size rs ++ (r ∷ []) ∷ []
begins_last size [] r some l = absurd (omega arith)
begins_last size (q ∷ rs) r some l = begins_from size (q ∷ []) rs r l

-- the blocks of some records, which are at least one
pub whole_blocks : (size : ℕ) (rs : List Rec) → 1 ≤ length rs → but_last (blocks size rs) ++ last_block (blocks size rs) ∷ [] ≡ blocks size rs
whole_blocks size [] some = absurd (omega arith)
whole_blocks size (q ∷ rs) some =
    let s = some_from size (q ∷ []) rs in
    let P : List (List Rec) → Type 0 = λ l. but_last l ++ last_block l ∷ [] ≡ l in
    subst P (sym s.2) (all_blocks s.0 s.1)

-- the positions of records that follow each other and of one more
pub positions_from-push : (at : ℕ) (rs : List Rec) (r : Rec) → positions_from at (rs ++ r ∷ []) ≡ positions_from at rs ++ (at + used_bytes rs - 48) ∷ []
positions_from-push at [] r = let e : at ≡ at + 48 - 48 = omega arith in ap (λ n. n ∷ []) e
positions_from-push at (q ∷ rs) r =
    let least = used_least rs in
    let e : at + room q + used_bytes rs - 48 ≡ at + (room q + used_bytes rs) - 48 = omega arith in
    ap (λ l. at ∷ l) (positions_from-push (at + room q) rs r ∙ ap (λ n. positions_from (at + room q) rs ++ n ∷ []) e)
