-- A scan goes on by a record or by a block, and which records it has given follows.
use Rattle.std.proofs.Common.{◌≡◌, ℕ, zero, suc, ◌+◌, ◌-◌, ◌*◌, ◌<◌, ◌≤◌, List, [], ◌∷◌, ◌++◌, append_assoc, append-nil, length, take, drop, map, Option, None, Some, refl, sym, ap, ◌∙◌, subst, arith}
use Rattle.std.specs.Prelude.{nat_lt, if◌then◌else◌}
use Rattle.std.specs.Option.{option_or}
use Rattle.std.specs.List.{flat_map}
use Rattle.std.proofs.lemmas.Bool.Decides.{nat_tests}
use Rattle.st_base.specs.Records.{Rec}
use Rattle.st_block.specs.BlockText.{room, used_bytes, block_text, blocks_text, AreFilled}
use Rattle.st_block.specs.Position.{positions_from, positions_in_blocks}
use Rattle.st_block.specs.Checks.{captured_length, record_at, count_of, records_of, join_wrong, block_wrong, blocks_wrong, damage_at}
use Rattle.st_block.specs.Layout.{IsWholeBlock}
use Rattle.st_block.specs.Scan.{last_used}
use Rattle.st_block.proofs.Laying.{room_is, records_more, fit_first, padded_more}

-- the first of some records has no room after so many used bytes, if there are such
abbrev pub NoRoomAfter : ℕ → Option ℕ → List Rec → Type 0
NoRoomAfter size None b = Unit {0}
NoRoomAfter size (Some u) [] = ⊥
NoRoomAfter size (Some u) (r ∷ rs) = size < u + room r

-- one block more
pub fills_push : (size : ℕ) (bs : List (List Rec)) (b : List Rec) → AreFilled size bs → 1 ≤ length b → used_bytes b ≤ size → NoRoomAfter size (last_used bs) b → AreFilled size (bs ++ b ∷ [])
fills_push size [] b fill some l none = (some, l, tt, tt)
fills_push size (c ∷ []) [] fill some l none = absurd none
fills_push size (c ∷ []) (r ∷ rs) (one, fits, apart, fill) some l none = (one, fits, none, (some, l, tt, tt))
fills_push size (c ∷ [] ∷ bs) b (one, fits, apart, fill) some l none = absurd apart
fills_push size (c ∷ (r ∷ rs) ∷ bs) b (one, fits, apart, fill) some l none =
    (one, fits, apart, fills_push size ((r ∷ rs) ∷ bs) b fill some l none)

pub last_push : (bs : List (List Rec)) (b : List Rec) → last_used (bs ++ b ∷ []) ≡ Some (used_bytes b)
last_push [] b = refl
last_push (c ∷ []) b = refl
last_push (c ∷ d ∷ bs) b = last_push (d ∷ bs) b

pub text_push : (size number : ℕ) (bs : List (List Rec)) (b : List Rec) → blocks_text size number (bs ++ b ∷ []) ≡ blocks_text size number bs ++ block_text size (number + length bs) b
text_push size number [] b =
    append-nil (block_text size number b) ∙ ap (λ (k : ℕ). block_text size k b) (let e : number ≡ number + 0 = omega arith in e)
text_push size number (c ∷ bs) b =
    let e : number + 1 + length bs ≡ number + suc (length bs) = omega arith in
    ap (λ (l : List ℕ). block_text size number c ++ l) (text_push size (number + 1) bs b ∙ ap (λ (k : ℕ). blocks_text size (number + 1) bs ++ block_text size k b) e)
    ∙ sym (append_assoc (block_text size number c) (blocks_text size (number + 1) bs) (block_text size (number + suc (length bs)) b))

pub places_push : (size number : ℕ) (bs : List (List Rec)) (b : List Rec) → positions_in_blocks size number (bs ++ b ∷ []) ≡ positions_in_blocks size number bs ++ positions_from (size * (number + length bs) + 48) b
places_push size number [] b =
    append-nil (positions_from (size * number + 48) b) ∙ ap (λ (k : ℕ). positions_from (size * k + 48) b) (let e : number ≡ number + 0 = omega arith in e)
places_push size number (c ∷ bs) b =
    let e : number + 1 + length bs ≡ number + suc (length bs) = omega arith in
    ap (λ (l : List ℕ). positions_from (size * number + 48) c ++ l) (places_push size (number + 1) bs b ∙ ap (λ (k : ℕ). positions_in_blocks size (number + 1) bs ++ positions_from (size * k + 48) b) e)
    ∙ sym (append_assoc (positions_from (size * number + 48) c) (positions_in_blocks size (number + 1) bs) (positions_from (size * (number + suc (length bs)) + 48) b))

pub flat_push : (bs : List (List Rec)) (b : List Rec) → flat_map (λ (x : List Rec). x) (bs ++ b ∷ []) ≡ flat_map (λ (x : List Rec). x) bs ++ b
flat_push [] b = append-nil b
flat_push (c ∷ bs) b =
    ap (λ (l : List Rec). c ++ l) (flat_push bs b) ∙ sym (append_assoc c (flat_map (λ (x : List Rec). x) bs) b)

pub map_push : {X Y : Type 0} (f : X → Y) (xs : List X) (x : X) → map f (xs ++ x ∷ []) ≡ map f xs ++ f x ∷ []
map_push f [] x = refl
map_push f (y ∷ xs) x = ap (λ l. f y ∷ l) (map_push f xs x)

-- the first record of a block that was not found to have fitted the block before
pub no_room : (size place : ℕ) (before : Option ℕ) (block : List ℕ) → join_wrong size place before block ≡ None → IsWholeBlock block → NoRoomAfter size before (records_of block)
no_room size place None block none whole = tt
no_room size place (Some u) block none whole =
    let some = whole.some in
    let bytes = drop 48 block in
    let fits = fit_first (count_of block) bytes some whole.fit in
    let room_of = room_is bytes fits.0 in
    let more = padded_more (captured_length bytes) in
    let far : size - 47 - u ≤ captured_length bytes = far_enough (captured_length bytes) (size - 47 - u) (place + 60) none in
    let full : size < u + room (record_at bytes) = omega arith in
    subst (NoRoomAfter size (Some u)) (sym (records_more (count_of block) bytes some)) full
  where
    far_enough : (found want at : ℕ) → (if nat_lt found want then damage_at at found want else None) ≡ None → want ≤ found
    far_enough found want at e = grind (arith, nat_tests)

-- the blocks from one on
pub blocks_more : (size left number : ℕ) (before : Option ℕ) (bytes : List ℕ) → 0 < left → blocks_wrong size left number before bytes ≡ option_or (block_wrong size number before (take size bytes)) (blocks_wrong size (left - 1) (number + 1) (Some (used_bytes (records_of (take size bytes)))) (drop size bytes))
blocks_more size zero number before bytes l = absurd (omega arith)
blocks_more size (suc n) number before bytes l = let e : suc n - 1 ≡ n = omega arith in rw e refl
