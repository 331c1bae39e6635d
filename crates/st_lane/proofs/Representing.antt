-- Which records a lane represents after a push, and when a push ends a list.
use Rattle.std.proofs.Common.{◌≡◌, ℕ, ◌+◌, ◌<◌, ◌≤◌, Option, Some, None, List, [], ◌∷◌, ◌++◌, length, length-append, sym, ap, ◌∙◌, subst, arith}
use Rattle.std.specs.Io.KnownBytes.{Appends}
use Rattle.st_base.specs.Records.{Rec}
use Rattle.st_block.specs.BlockText.{room, used_bytes, blocks, block_text, blocks_text}
use Rattle.st_block.proofs.Going.{text_push}
use Rattle.st_lane.specs.Cut.{EndsList}
use Rattle.st_lane.specs.Filling.{FillingView, but_last, last_block, Fills, IsFull}
use Rattle.st_lane.specs.Lane.{LaneView, Represents}
use Rattle.st_lane.proofs.Blocks.{but_last-push, joins_last, begins_last, whole_blocks}

-- a record has room in the last block, or none
room_here : (f : FillingView) (rs : List Rec) (r : Rec) → Fills f rs → f.here.used + room r ≤ f.size → used_bytes (last_block (blocks f.size rs)) + room r ≤ f.size
room_here f rs r fills l = let used = fills.here.used in omega arith

no_room_here : (f : FillingView) (rs : List Rec) (r : Rec) → Fills f rs → f.size < f.here.used + room r → f.size < used_bytes (last_block (blocks f.size rs)) + room r
no_room_here f rs r fills l = let used = fills.here.used in omega arith

-- how many blocks there are with one record more, in the block at hand
count_joined : (f : FillingView) (rs : List Rec) (r : Rec) → Fills f rs → f.here.used + room r ≤ f.size → length (blocks f.size (rs ++ r ∷ [])) ≡ f.done + 1
count_joined f rs r fills l =
    let e = ap length (joins_last f.size rs r (room_here f rs r fills l)) in
    let n = length-append (but_last (blocks f.size rs)) ((last_block (blocks f.size rs) ++ r ∷ []) ∷ []) in
    let d = fills.done in
    omega arith

-- and in the next one
count_begun : (f : FillingView) (rs : List Rec) (r : Rec) → Fills f rs → 1 ≤ f.records → f.size < f.here.used + room r → length (blocks f.size (rs ++ r ∷ [])) ≡ f.done + 2
count_begun f rs r fills some l =
    let c = fills.count in
    let many : 1 ≤ length rs = omega arith in
    let e = ap length (begins_last f.size rs r many (no_room_here f rs r fills l)) in
    let n = length-append (blocks f.size rs) ((r ∷ []) ∷ []) in
    let all = ap length (whole_blocks f.size rs many) in
    let m = length-append (but_last (blocks f.size rs)) (last_block (blocks f.size rs) ∷ []) in
    let d = fills.done in
    omega arith

-- a push is `Ready` where a list of the cut ends, and only there
pub full_ends : (f : FillingView) (rs : List Rec) (r : Rec) → Fills f rs → IsFull f r → EndsList f.size f.most rs r
full_ends f rs r fills full =
    let e = count_begun f rs r fills full.others full.room in
    let last = full.last in
    omega arith

pub here_goes_on : (f : FillingView) (rs : List Rec) (r : Rec) → Fills f rs → f.here.used + room r ≤ f.size → f.done < f.most → EndsList f.size f.most rs r → ⊥
here_goes_on f rs r fills l more ends = let e = count_joined f rs r fills l in omega arith

pub next_goes_on : (f : FillingView) (rs : List Rec) (r : Rec) → Fills f rs → 1 ≤ f.records → f.size < f.here.used + room r → f.done + 1 < f.most → EndsList f.size f.most rs r → ⊥
next_goes_on f rs r fills some l more ends = let e = count_begun f rs r fills some l in omega arith

-- known bytes that grow are known
pub known_after : (xs ys : List ℕ) (before now : Option (List ℕ)) → before ≡ Some xs → Appends before now ys → now ≡ Some (xs ++ ys)
known_after xs ys before now e put = after now (subst (λ (o : Option (List ℕ)). Appends o now ys) e put)
  where
    after : (o : Option (List ℕ)) → Appends (Some xs) o ys → o ≡ Some (xs ++ ys)
    after None h = absurd h
    after (Some zs) h = ap (λ (l : List ℕ). Some l) h

-- with a record in the block at hand the same blocks are written
pub represents_joined : {T : Type 0} (written : T → Option (List ℕ)) (old new : LaneView T) (rs : List Rec) (r : Rec)
    → Represents written old rs → Fills new.filling (rs ++ r ∷ []) → old.filling.here.used + room r ≤ old.filling.size
    → new.filling.size ≡ old.filling.size → new.block ≡ old.block → new.index ≡ old.index → new.broken ≡ old.broken
    → Represents written new (rs ++ r ∷ [])
represents_joined written old new rs r was fills l size block index broken =
    let bs = blocks old.filling.size rs in
    let joined = joins_last old.filling.size rs r (room_here old.filling rs r was.fills l) in
    let front : but_last bs ≡ but_last (blocks old.filling.size (rs ++ r ∷ [])) = sym (ap but_last joined ∙ but_last-push (but_last bs) (last_block bs ++ r ∷ [])) in
    record {
      whole = broken ∙ was.whole;
      fills = fills;
      block = ap written block ∙ (was.block ∙ (ap (λ (l : List (List Rec)). Some (blocks_text old.filling.size 0 l)) front ∙ ap (λ n. Some (blocks_text n 0 (but_last (blocks n (rs ++ r ∷ []))))) (sym size)));
      index = ap written index ∙ was.index;
    }

-- with a record in the next block the block that was at hand is written too
pub represents_begun : {T : Type 0} (written : T → Option (List ℕ)) (old new : LaneView T) (rs : List Rec) (r : Rec)
    → Represents written old rs → Fills new.filling (rs ++ r ∷ []) → 1 ≤ old.filling.records → old.filling.size < old.filling.here.used + room r
    → Appends (written old.block) (written new.block) (block_text old.filling.size old.filling.done (last_block (blocks old.filling.size rs)))
    → new.filling.size ≡ old.filling.size → new.index ≡ old.index → new.broken ≡ old.broken
    → Represents written new (rs ++ r ∷ [])
represents_begun written old new rs r was fills some l put size index broken =
    let f = old.filling in
    let bs = blocks f.size rs in
    let c = was.fills.count in
    let many : 1 ≤ length rs = omega arith in
    let begun = begins_last f.size rs r many (no_room_here f rs r was.fills l) in
    let front : but_last (blocks f.size (rs ++ r ∷ [])) ≡ but_last bs ++ last_block bs ∷ [] = ap but_last begun ∙ (but_last-push bs (r ∷ []) ∙ sym (whole_blocks f.size rs many)) in
    let number : 0 + length (but_last bs) ≡ f.done = let d = was.fills.done in omega arith in
    let text : blocks_text f.size 0 (but_last bs) ++ block_text f.size f.done (last_block bs) ≡ blocks_text f.size 0 (but_last (blocks f.size (rs ++ r ∷ []))) =
    ap (λ n. blocks_text f.size 0 (but_last bs) ++ block_text f.size n (last_block bs)) (sym number)
    ∙ (sym (text_push f.size 0 (but_last bs) (last_block bs)) ∙ ap (λ l. blocks_text f.size 0 l) (sym front)) in
    record {
      whole = broken ∙ was.whole;
      fills = fills;
      block = known_after (blocks_text f.size 0 (but_last bs)) (block_text f.size f.done (last_block bs)) (written old.block) (written new.block) was.block put
          ∙ (ap (λ (l : List ℕ). Some l) text ∙ ap (λ n. Some (blocks_text n 0 (but_last (blocks n (rs ++ r ∷ []))))) (sym size));
      index = ap written index ∙ was.index;
    }

-- the same records, with nothing written
pub represents_same : {T : Type 0} (written : T → Option (List ℕ)) (old new : LaneView T) (rs : List Rec)
    → Represents written old rs → Fills new.filling rs → new.filling.size ≡ old.filling.size → new.block ≡ old.block → new.index ≡ old.index → new.broken ≡ old.broken
    → Represents written new rs
represents_same written old new rs was fills size block index broken =
    record {
      whole = broken ∙ was.whole;
      fills = fills;
      block = ap written block ∙ (was.block ∙ ap (λ n. Some (blocks_text n 0 (but_last (blocks n rs)))) (sym size));
      index = ap written index ∙ was.index;
    }
