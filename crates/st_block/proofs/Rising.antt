-- Positions rise, fit four bytes, and stay where more records follow.
use Rattle.std.proofs.Common.{◌≡◌, ℕ, zero, suc, ◌+◌, ◌-◌, ◌*◌, ◌<◌, ◌≤◌, true, false, cond, List, [], ◌∷◌, ◌++◌, length, length-append, get_or, refl, sym, ap, ◌∙◌, arith, append_assoc, append-nil}
use Rattle.std.specs.Prelude.{nat_le}
use Rattle.std.specs.List.{flat_map}
use Rattle.std.proofs.Math.Nat.{mul-le-mul_right}
use Rattle.std.proofs.lemmas.List.{get_or_push, get_or_append_left, length_push}
use Rattle.std.proofs.lemmas.Option.{slice_get-get_or}
use Rattle.st_base.specs.Records.{Rec}
use Rattle.st_block.specs.BlockText.{room, used_bytes, blocks_from, blocks, block_text, blocks_text, AreFilled}
use Rattle.st_block.specs.Position.{positions_from, positions_in_blocks, positions, PositionOf, IsLastAt}
use Rattle.st_block.specs.Laws.{FileLength, PositionsRise, PositionsFit, PositionsStay}
use Rattle.st_block.proofs.Rooms.{used_least, flat_blocks, file_fills}
use Rattle.st_block.proofs.Standing.{length-places, length_block, in_file}

-- each is above the one before it, the first at least this
Rising : ℕ → List ℕ → Type 0
Rising low [] = Unit {0}
Rising low (x ∷ xs) = (low ≤ x) × Rising (x + 1) xs

lower : (low high : ℕ) (xs : List ℕ) → low ≤ high → Rising high xs → Rising low xs
unfolding Rising
lower low high [] l r = tt
lower low high (x ∷ xs) l (first, r) = (omega arith, r)

least : (low : ℕ) (xs : List ℕ) (i : ℕ) → Rising low xs → i < length xs → low ≤ get_or xs i 0
unfolding Rising
least low [] i r l = absurd (omega arith)
least low (x ∷ xs) zero (first, r) l = first
least low (x ∷ xs) (suc i) (first, r) l = let more = least (x + 1) xs i r (omega arith) in omega (arith, first, more)

rises : (low : ℕ) (xs : List ℕ) (i j : ℕ) → Rising low xs → i < j → j < length xs → get_or xs i 0 < get_or xs j 0
unfolding Rising
rises low [] i j r l m = absurd (omega arith)
rises low (x ∷ xs) i zero r l m = absurd (omega arith)
rises low (x ∷ xs) zero (suc j) (first, r) l m = let more = least (x + 1) xs j r (omega arith) in omega (arith, more)
rises low (x ∷ xs) (suc i) (suc j) (first, r) l m = rises (x + 1) xs i j r (omega arith) (omega arith)

-- places of a block, and others after it
rising_places : (place : ℕ) (rs : List Rec) (ys : List ℕ) → Rising (place + (used_bytes rs - 48)) ys → Rising place (positions_from place rs ++ ys)
unfolding Rising
rising_places place [] ys r = lower place (place + 0) ys (omega arith) r
rising_places place (q ∷ rs) ys r =
    let u = used_least rs in
    let more = rising_places (place + room q) rs ys (lower _ (place + (used_bytes (q ∷ rs) - 48)) ys (omega arith) r) in
    let here : place ≤ place = omega arith in
    (here, lower (place + 1) (place + room q) (positions_from (place + room q) rs ++ ys) (omega arith) more)

-- places of several blocks
rising_blocks : (size number : ℕ) (bs : List (List Rec)) → AreFilled size bs → Rising (size * number) (positions_in_blocks size number bs)
unfolding Rising
rising_blocks size number [] fill = tt
rising_blocks size number (b ∷ bs) (some, l, apart, fill) =
    let next = rising_blocks size (number + 1) bs fill in
    let u = used_least b in
    let below : size * number + 48 + (used_bytes b - 48) ≤ size * (number + 1) = omega arith in
    lower (size * number) (size * number + 48) _ (omega arith)
    (rising_places (size * number + 48) b (positions_in_blocks size (number + 1) bs) (lower (size * number + 48 + (used_bytes b - 48)) (size * (number + 1)) _ below next))

-- there are as many places as records
length-places_of : (size number : ℕ) (bs : List (List Rec)) → length (positions_in_blocks size number bs) ≡ length (flat_map (λ b. b) bs)
length-places_of size number [] = refl
length-places_of size number (b ∷ bs) =
    let here = length-places (size * number + 48) b in
    let more = length-places_of size (number + 1) bs in
    let left = length-append (positions_from (size * number + 48) b) (positions_in_blocks size (number + 1) bs) in
    let right = length-append b (flat_map (λ b. b) bs) in
    omega (arith, here, more, left, right)

pub length-positions : (size : ℕ) (rs : List Rec) → length (positions size rs) ≡ length rs
length-positions size rs = length-places_of size 0 (blocks size rs) ∙ ap length (flat_blocks size rs)

pub positions_rise : PositionsRise
positions_rise size i j rs h l m =
    let count = length-positions size rs in
    rises (size * 0) (positions size rs) i j (rising_blocks size 0 (blocks size rs) (file_fills size rs h.block_size h.short)) l (omega arith)

-- so many bytes as the blocks have
length_blocks : (size number : ℕ) (bs : List (List Rec)) → AreFilled size bs → length (blocks_text size number bs) ≡ size * length bs
length_blocks size number [] fill = omega arith
length_blocks size number (b ∷ bs) (some, l, apart, fill) =
    let here = length_block size number b some l in
    let more = length_blocks size (number + 1) bs fill in
    let all = length-append (block_text size number b) (blocks_text size (number + 1) bs) in
    omega (arith, here, more, all)

pub file_length : FileLength
file_length size rs h = length_blocks size 0 (blocks size rs) (file_fills size rs h.block_size h.short)

pub positions_fit : PositionsFit
positions_fit size i rs h l =
    let r : Rec = get_or rs i (record { sec = 0; nsec = 0; orig = 0; body = [] }) in
    let part = in_file size rs i r h (slice_get-get_or rs i _ l) in
    let whole = file_length size rs h in
    let first : size * length (blocks size rs) ≤ 1048576 * length (blocks size rs) = mul-le-mul_right (length (blocks size rs)) h.block_size.most in
    let count = h.blocks in
    let here = part.here in
    let all = ap length part.split ∙ length-append part.front _ in
    omega (arith, whole, first, count, here, all)

-- the blocks begin with the block at hand, and what joins it
abbrev Ahead : ℕ → List Rec → List Rec → Type 0
Ahead size here more = (joined : List Rec) × (after : List (List Rec)) × (blocks_from size here more ≡ (here ++ joined) ∷ after)

rest_of_block : (size : ℕ) (here more : List Rec) → Ahead size here more
rest_of_block size here [] = ([], [], ap (λ h. h ∷ []) (sym (append-nil here)))
rest_of_block size here (r ∷ more) =
    let next = rest_of_block size (here ++ r ∷ []) more in
    elim (nat_le (used_bytes here + room r) size) as (λ t. (joined : List Rec) × (after : List (List Rec)) × (cond t (blocks_from size (here ++ r ∷ []) more) (here ∷ blocks_from size (r ∷ []) more) ≡ (here ++ joined) ∷ after)) [
      | true ↦ (r ∷ next.0, next.1, next.2 ∙ ap (λ h. h ∷ next.1) (append_assoc here (r ∷ []) next.0))
      | false ↦ ([], blocks_from size (r ∷ []) more, ap (λ h. h ∷ blocks_from size (r ∷ []) more) (sym (append-nil here)))
    ]

-- places of some records and others after them
places-append : (place : ℕ) (xs ys : List Rec) → positions_from place (xs ++ ys) ≡ positions_from place xs ++ positions_from (place + (used_bytes xs - 48)) ys
places-append place [] ys = ap (λ p. positions_from p ys) (let e : place ≡ place + (48 - 48) = omega arith in e)
places-append place (r ∷ xs) ys =
    let u = used_least xs in
    ap (λ l. place ∷ l) (places-append (place + room r) xs ys ∙ ap (λ p. positions_from (place + room r) xs ++ positions_from p ys) (let e : place + room r + (used_bytes xs - 48) ≡ place + (used_bytes (r ∷ xs) - 48) = omega arith in e))

-- places of some blocks and others after them
places_of-append : (size number : ℕ) (xs ys : List (List Rec)) → positions_in_blocks size number (xs ++ ys) ≡ positions_in_blocks size number xs ++ positions_in_blocks size (number + length xs) ys
places_of-append size number [] ys = ap (λ n. positions_in_blocks size n ys) (let e : number ≡ number + 0 = omega arith in e)
places_of-append size number (b ∷ xs) ys =
    ap (λ l. positions_from (size * number + 48) b ++ l) (places_of-append size (number + 1) xs ys ∙ ap (λ n. positions_in_blocks size (number + 1) xs ++ positions_in_blocks size n ys) (let e : number + 1 + length xs ≡ number + suc (length xs) = omega arith in e))
    ∙ sym (append_assoc (positions_from (size * number + 48) b) (positions_in_blocks size (number + 1) xs) (positions_in_blocks size (number + suc (length xs)) ys))

-- places stay where more records follow
stay : (size number : ℕ) (here rs more : List Rec) → (tail : List ℕ) × (positions_in_blocks size number (blocks_from size here (rs ++ more)) ≡ positions_in_blocks size number (blocks_from size here rs) ++ tail)
stay size number here [] more =
    let next = rest_of_block size here more in
    let place : ℕ = size * number + 48 in
    let after : List ℕ = positions_in_blocks size (number + 1) next.1 in
    let joined : List ℕ = positions_from (place + (used_bytes here - 48)) next.0 in (
      joined ++ after,
      ap (positions_in_blocks size number) next.2
          ∙ ap (λ l. l ++ after) (places-append place here next.0)
          ∙ append_assoc (positions_from place here) joined after
          ∙ ap (λ l. l ++ (joined ++ after)) (sym (append-nil (positions_from place here))),
    )
stay size number here (r ∷ rs) more =
    let in_it = stay size number (here ++ r ∷ []) rs more in
    let next = stay size (number + 1) (r ∷ []) rs more in
    let place : ℕ = size * number + 48 in
    elim (nat_le (used_bytes here + room r) size) as (λ t. (tail : List ℕ) × (positions_in_blocks size number (cond t (blocks_from size (here ++ r ∷ []) (rs ++ more)) (here ∷ blocks_from size (r ∷ []) (rs ++ more))) ≡ positions_in_blocks size number (cond t (blocks_from size (here ++ r ∷ []) rs) (here ∷ blocks_from size (r ∷ []) rs)) ++ tail)) [
      | true ↦ in_it
      | false ↦ (
        next.0,
        ap (λ l. positions_from place here ++ l) next.1
            ∙ sym (append_assoc (positions_from place here) (positions_in_blocks size (number + 1) (blocks_from size (r ∷ []) rs)) next.0),
      )
    ]

pub positions_stay : PositionsStay
positions_stay size i [] more l = absurd (omega arith)
positions_stay size i (r ∷ rs) more l =
    let longer = stay size 0 (r ∷ []) rs more in
    let count = length-positions size (r ∷ rs) in
    ap (λ xs. get_or xs i 0) longer.1 ∙ get_or_append_left (positions size (r ∷ rs)) longer.0 0 i (omega arith)

-- the place of a block and of a record in it give the position of the record added last
pub last_position : (size number offset : ℕ) (rs : List Rec) (r : Rec) → IsLastAt size number offset rs r → size * number + offset ≡ PositionOf size (rs ++ r ∷ []) (length rs)
last_position size number offset rs r a =
    let place : ℕ = size * number + 48 in
    let before = a.before in
    let after = a.here_used in
    let u = used_least a.here in
    let at : ℕ = place + (used_bytes a.here - 48) in
    let front : List ℕ = positions_in_blocks size 0 a.done ++ positions_from place a.here in
    let split : positions size (rs ++ r ∷ []) ≡ front ++ at ∷ [] =
    ap (positions_in_blocks size 0) a.split
    ∙ places_of-append size 0 a.done ((a.here ++ r ∷ []) ∷ [])
    ∙ ap (λ n. positions_in_blocks size 0 a.done ++ positions_in_blocks size n ((a.here ++ r ∷ []) ∷ [])) (let e : 0 + length a.done ≡ number = omega arith in e)
    ∙ ap (λ l. positions_in_blocks size 0 a.done ++ l) (append-nil (positions_from place (a.here ++ r ∷ [])) ∙ places-append place a.here (r ∷ []))
    ∙ sym (append_assoc (positions_in_blocks size 0 a.done) (positions_from place a.here) (at ∷ [])) in
    let all = ap length split ∙ length_push front at in
    let count = length-positions size (rs ++ r ∷ []) ∙ length_push rs r in
    let here : length front ≡ length rs = omega arith in
    let same : size * number + offset ≡ at = omega arith in
    same ∙ sym (ap (λ xs. get_or xs (length rs) 0) split ∙ get_or_push front at 0 (length rs) here)
