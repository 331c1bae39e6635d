-- How much a builder takes, and that it keeps below its bounds.
use Rattle.std.proofs.Common.{◌≡◌, ℕ, zero, suc, ◌+◌, ◌/◌, ◌%◌, ◌<◌, ◌≤◌, ◌^◌, Bool, true, false, cond, List, [], ◌∷◌, length, length-append, refl, sym, ap, ◌∙◌, subst, arith, ◌⊎◌, inl, inr}
use Rattle.std.specs.Prelude.{nat_lt, if◌then◌else◌, Result, Ok, Err, OnOk}
use Rattle.std.proofs.lemmas.Bool.Decides.{nat_tests}
use Rattle.st_tblock.specs.Varint.{groups_of, varint_of}
use Rattle.st_tblock.specs.Block.{RowView, is_above, key_or_empty}
use Rattle.st_tblock.specs.Builder.{EntryBlockView, empty, added, block_size}
use Rattle.st_tblock.specs.Handles.{handle_text, InRange}
use Rattle.st_tblock.specs.declared.handle.Handle.{Handle}
use Rattle.st_tblock.proofs.Adding.{added_size}
use Rattle.st_table.specs.TableBuilderView.{TableBuilderView, room_of, filled, closed, next_handle, is_full, after_row, written_by, closing}
use Rattle.st_table.specs.Builder.{Names, IsWithinLimits, IsSteady, last_added}
use Rattle.st_table.proofs.KeyOrder.{above_both}

-- groups are no more than there may be
groups_size : (k n : ℕ) → length (groups_of k n) ≤ k + 1
unfolding groups_of
groups_size zero n = omega arith
groups_size (suc k) n = either (groups_size k (n / 128)) (nat_lt n 128)
  where
    either : length (groups_of k (n / 128)) ≤ k + 1 → (b : Bool) → length (cond b (n ∷ []) ((128 + n % 128) ∷ groups_of k (n / 128))) ≤ suc k + 1
    either tail true = omega arith
    either tail false = omega arith

-- a handle takes at most twenty bytes
pub handle_size : (h : Handle) → length (handle_text h) ≤ 20
unfolding handle_text
handle_size h =
    let both = length-append (varint_of h.offset) (varint_of h.size) in
    let a = groups_size 9 h.offset in
    let b = groups_size 9 h.size in
    omega arith

-- with one more row a builder keeps below its bounds, and there is room for its block and five bytes behind that
pub filled_sound : (k : TableBuilderView) (r : RowView) → IsSteady k → is_above (last_added k) r.0 ≡ true → length r.0 ≤ 64 → length r.1 < 2 ^ 32 → k.spent + room_of r < 2 ^ 37 → IsWithinLimits (filled k r) × (k.at + block_size (filled k r).block + 5 ≤ (filled k r).spent)
filled_sound k r steady above lk lv room =
    let sound = steady.sound in
    let size = added_size k.block r.0 r.1 (omega arith) lv in
    let before = sound.room in (
      record {
        block = sound.block;
        index = sound.index;
        key = lk;
        order = above_both k.index.last k.block.last r.0 sound.order above;
        spent = omega arith;
        room = omega arith;
        entries = sound.entries;
      },
      omega arith,
    )

-- a builder whose block took a row is filled by it
pub filled_is : (k : TableBuilderView) (r : RowView) (block : EntryBlockView) → block ≡ added k.block r.0 r.1 → record { block = block; index = k.index; at = k.at; spent = k.spent + room_of r } ≡ filled k r
filled_is k r block e = λ i. record { block = e i; index = k.index; at = k.at; spent = k.spent + room_of r }

-- an index with one more entry, or none
abbrev pub Named : TableBuilderView → EntryBlockView → Type 0
Named k index =
    (index ≡ k.index) ⊎ (index ≡ added k.index (key_or_empty k.block.last) (handle_text (next_handle k.at (block_size k.block))))

-- an index block takes at most 103 bytes more
named_size : (k : TableBuilderView) (index : EntryBlockView) → length (key_or_empty k.block.last) ≤ 64 → Named k index → block_size index ≤ block_size k.index + 103
named_size k index l (inl e) = omega (arith, ap block_size e)
named_size k index l (inr e) =
    let h = next_handle k.at (block_size k.block) in
    let handle = handle_size h in
    let size = added_size k.index (key_or_empty k.block.last) (handle_text h) (omega arith) (omega arith) in
    omega (arith, ap block_size e)

named_interval : (k : TableBuilderView) (index : EntryBlockView) → Named k index → index.interval ≡ k.index.interval
named_interval k index (inl e) = ap (λ (d : EntryBlockView). d.interval) e
named_interval k index (inr e) = ap (λ (d : EntryBlockView). d.interval) e

-- with its data block emptied, whether it was named or not, a builder is to be filled on
pub emptied_steady : (k : TableBuilderView) (block index : EntryBlockView) (at : ℕ) → IsWithinLimits k → k.at + block_size k.block + 5 ≤ k.spent → 4096 ≤ block_size k.block → block ≡ empty k.block.interval → at ≡ k.at + (block_size k.block + 5) → Named k index → IsSteady (record { block = block; index = index; at = at; spent = k.spent })
emptied_steady k block index at sound room full b a named =
    let more = named_size k index sound.key named in
    let block_is : block ≡ empty 16 = b ∙ ap empty sound.block in
    let entries = sound.entries in
    let eight : block_size (empty 16) ≡ 8 = refl in
    subst (λ (d : EntryBlockView). IsSteady (record { block = d; index = index; at = at; spent = k.spent })) (sym block_is)
    (record {
      sound = record {
        block = refl;
        index = named_interval k index named ∙ sound.index;
        key = omega arith;
        order = tt;
        spent = sound.spent;
        room = omega arith;
        entries = omega arith;
      };
      small = omega arith;
    })

-- which of two ways it went
pub named_by : {T E : Type 0} (result : Result T E) (k : TableBuilderView) (index : EntryBlockView) → Names k.index index (key_or_empty k.block.last) (next_handle k.at (block_size k.block)) result → Named k index
named_by (Ok x) k index e = inr e
named_by (Err e) k index same = inl same

-- what it is where that went well
pub names_ok : {T E : Type 0} (result : Result T E) (old new : EntryBlockView) (key : List ℕ) (h : Handle) → Names old new key h result → OnOk result (new ≡ added old key (handle_text h))
names_ok (Ok x) old new key h e = e
names_ok (Err e) old new key h same = tt

-- there is room in the index for one more entry
pub index_room : (k : TableBuilderView) → IsWithinLimits k → block_size k.index < 2 ^ 32
index_room k sound =
    let entries = sound.entries in
    let room = sound.room in
    let spent = sound.spent in
    omega arith

-- each number of the next handle fits its 64 bits
pub next_in_range : (k : TableBuilderView) → IsWithinLimits k → InRange (next_handle k.at (block_size k.block))
next_in_range k sound =
    let room = sound.room in
    let spent = sound.spent in
    record { offset = omega arith; size = omega arith }

-- behind a row that fills its data block that is closed
pub behind_full : (k : TableBuilderView) (r : RowView) → 4096 ≤ block_size (filled k r).block → (after_row k r ≡ closed (filled k r)) × (written_by k r ≡ closing (filled k r))
behind_full k r l =
    let full : is_full (filled k r) ≡ true = grind (arith, nat_tests) in
    (ap (λ (b : Bool). if b then closed (filled k r) else filled k r) full, ap (λ (b : Bool). if b then closing (filled k r) else []) full)

-- behind another it is not
pub behind_small : (k : TableBuilderView) (r : RowView) → block_size (filled k r).block < 4096 → (after_row k r ≡ filled k r) × (written_by k r ≡ [])
behind_small k r l =
    let full : is_full (filled k r) ≡ false = grind (arith, nat_tests) in
    (ap (λ (b : Bool). if b then closed (filled k r) else filled k r) full, ap (λ (b : Bool). if b then closing (filled k r) else []) full)

-- and an index with it is far from 2 ^ 64 bytes
pub index_bound : (index new : EntryBlockView) (key : List ℕ) (h : Handle) → length key ≤ 64 → block_size index < 2 ^ 32 → new ≡ added index key (handle_text h) → block_size new < 2 ^ 62
index_bound index new key h l room e =
    let handle = handle_size h in
    let size = added_size index key (handle_text h) (omega arith) (omega arith) in
    omega (arith, ap block_size e)
