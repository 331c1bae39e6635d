-- What a lane keeps of its records, with one record more.
use Rattle.std.proofs.Common.{◌≡◌, ℕ, mul-add, ◌+◌, ◌-◌, ◌*◌, ◌<◌, ◌≤◌, List, [], ◌∷◌, ◌++◌, length, length-append, false, IsTrue, IsSome, inl, inr, refl, sym, ap, ◌∙◌, subst, arith, append_assoc}
use Rattle.std.specs.Prelude.{All}
use Rattle.std.proofs.lemmas.Bool.{cases_lt}
use Rattle.std.proofs.lemmas.List.Elements.{All-push}
use Rattle.st_base.specs.Records.{Rec, InRange}
use Rattle.st_block.specs.BlockText.{IsBlockSize, IsShort, padded_len, room, used_bytes, blocks}
use Rattle.st_block.specs.Position.{positions_from, positions_in_blocks, positions}
use Rattle.st_block.specs.Builder.{HoldsRecords}
use Rattle.st_block.specs.Scan.{PositionedRecord}
use Rattle.st_block.proofs.Rooms.{room_fits, used_least}
use Rattle.st_block.proofs.Going.{map_push, places_push}
use Rattle.st_index.specs.Maker.{HasRecords}
use Rattle.st_lane.specs.Filling.{FillingView, but_last, last_block, Fills, IsSteady}
use Rattle.st_lane.proofs.Blocks.{but_last-push, last-push, joins_last, begins_last, whole_blocks, positions_from-push}

-- a record that is short enough fits an empty block
pub fits_empty : (size : ℕ) (r : Rec) → IsBlockSize size → IsShort size r → 48 + room r ≤ size
fits_empty size r b short = (room_fits size b [] r).1 (omega arith)

-- the positions of records in blocks of which the last one holds these
in_last : (size : ℕ) (full : List (List Rec)) (here : List Rec) → positions_in_blocks size 0 (full ++ here ∷ []) ≡ positions_in_blocks size 0 full ++ positions_from (size * length full + 48) here
in_last size full here =
    let e : 0 + length full ≡ length full = omega arith in
    places_push size 0 full here ∙ ap (λ (n : ℕ). positions_in_blocks size 0 full ++ positions_from (size * n + 48) here) e

one_more : (size : ℕ) (full : List (List Rec)) (here : List Rec) (r : Rec) → positions_in_blocks size 0 (full ++ (here ++ r ∷ []) ∷ []) ≡ positions_in_blocks size 0 (full ++ here ∷ []) ++ (size * length full + used_bytes here) ∷ []
one_more size full here r =
    let at = size * length full + 48 in
    let least = used_least here in
    let place : at + used_bytes here - 48 ≡ size * length full + used_bytes here = omega arith in
    let front = positions_in_blocks size 0 full in
    in_last size full (here ++ r ∷ [])
    ∙ (ap (λ l. front ++ l) (positions_from-push at here r ∙ ap (λ n. positions_from at here ++ n ∷ []) place)
    ∙ (sym (append_assoc front (positions_from at here) ((size * length full + used_bytes here) ∷ []))
    ∙ ap (λ l. l ++ (size * length full + used_bytes here) ∷ []) (sym (in_last size full here))))

-- the positions of some records and of one more in the last block
pub position_joined : (size : ℕ) (rs : List Rec) (r : Rec) → used_bytes (last_block (blocks size rs)) + room r ≤ size
    → positions size (rs ++ r ∷ []) ≡ positions size rs ++ (size * length (but_last (blocks size rs)) + used_bytes (last_block (blocks size rs))) ∷ []
position_joined size [] r l = refl
position_joined size (q ∷ rs) r l =
    let all = whole_blocks size (q ∷ rs) (omega arith) in
    let full = but_last (blocks size (q ∷ rs)) in
    let here = last_block (blocks size (q ∷ rs)) in
    ap (positions_in_blocks size 0) (joins_last size (q ∷ rs) r l)
    ∙ (one_more size full here r
    ∙ ap (λ bs. positions_in_blocks size 0 bs ++ (size * length full + used_bytes here) ∷ []) all)

-- and of one more in the next block
pub position_begun : (size : ℕ) (rs : List Rec) (r : Rec) → 1 ≤ length rs → size < used_bytes (last_block (blocks size rs)) + room r
    → positions size (rs ++ r ∷ []) ≡ positions size rs ++ (size * (length (but_last (blocks size rs)) + 1) + 48) ∷ []
position_begun size rs r some l =
    let all = ap length (whole_blocks size rs some) in
    let count = length-append (but_last (blocks size rs)) (last_block (blocks size rs) ∷ []) in
    let many : length (blocks size rs) ≡ length (but_last (blocks size rs)) + 1 = omega arith in
    ap (positions_in_blocks size 0) (begins_last size rs r some l)
    ∙ (in_last size (blocks size rs) (r ∷ [])
    ∙ ap (λ n. positions size rs ++ (size * n + 48) ∷ []) many)

-- one record more, wherever it is
pub fills_push : (old new : FillingView) (rs : List Rec) (r : Rec) (p : ℕ) → Fills old rs → InRange r → IsShort old.size r
    → new.size ≡ old.size → new.most ≡ old.most → new.records ≡ old.records + 1
    → length (blocks old.size (rs ++ r ∷ [])) ≤ old.most
    → positions old.size (rs ++ r ∷ []) ≡ positions old.size rs ++ p ∷ []
    → new.done ≡ length (but_last (blocks old.size (rs ++ r ∷ [])))
    → HoldsRecords new.here (last_block (blocks old.size (rs ++ r ∷ [])))
    → ((given : List PositionedRecord) → HasRecords old.maker given → HasRecords new.maker (given ++ (p, r) ∷ []))
    → Fills new (rs ++ r ∷ [])
fills_push old new rs r p f range short same most count few places done here made =
    let back = sym same in
    record {
      size = subst IsBlockSize back f.size;
      allowed = let a = f.allowed in omega arith;
      count = let e = f.count in let n = length-append rs (r ∷ []) in omega arith;
      few = subst (λ s. length (blocks s (rs ++ r ∷ [])) ≤ new.most) back (omega arith);
      done = subst (λ s. new.done ≡ length (but_last (blocks s (rs ++ r ∷ [])))) back done;
      here = subst (λ s. HoldsRecords new.here (last_block (blocks s (rs ++ r ∷ [])))) back here;
      given = f.given ++ (p, r) ∷ [];
      records = map_push (λ (x : PositionedRecord). x.1) f.given (p, r) ∙ ap (λ l. l ++ r ∷ []) f.records;
      positions = map_push (λ (x : PositionedRecord). x.0) f.given (p, r) ∙ (ap (λ l. l ++ p ∷ []) f.positions ∙ (sym places ∙ ap (λ s. positions s (rs ++ r ∷ [])) back));
      made = made f.given f.made;
      range = All-push InRange rs r f.range range;
      short = subst (λ s. All (IsShort s) (rs ++ r ∷ [])) back (All-push (IsShort old.size) rs r f.short short);
    }

-- in the block at hand
pub fills_joined : (old new : FillingView) (rs : List Rec) (r : Rec) → Fills old rs → InRange r → 48 ≤ old.here.used
    → old.here.used + room r ≤ old.size → old.done < old.most
    → new.size ≡ old.size → new.most ≡ old.most → new.records ≡ old.records + 1 → new.done ≡ old.done
    → ((hs : List Rec) → HoldsRecords old.here hs → HoldsRecords new.here (hs ++ r ∷ []))
    → ((given : List PositionedRecord) → HasRecords old.maker given → HasRecords new.maker (given ++ (old.size * old.done + old.here.used, r) ∷ []))
    → Fills new (rs ++ r ∷ [])
fills_joined old new rs r f range begun fits less same most count done here made =
    let bs = blocks old.size rs in
    let used = f.here.used in
    let room_here : used_bytes (last_block bs) + room r ≤ old.size = omega arith in
    let joined = joins_last old.size rs r room_here in
    let front = but_last-push (but_last bs) (last_block bs ++ r ∷ []) in
    let last = last-push (but_last bs) (last_block bs ++ r ∷ []) in
    let places : positions old.size (rs ++ r ∷ []) ≡ positions old.size rs ++ (old.size * old.done + old.here.used) ∷ [] =
    position_joined old.size rs r room_here
    ∙ (ap (λ n. positions old.size rs ++ (old.size * n + used_bytes (last_block bs)) ∷ []) (sym f.done)
    ∙ ap (λ n. positions old.size rs ++ (old.size * old.done + n) ∷ []) (sym used)) in
    let parts = length-append (but_last bs) ((last_block bs ++ r ∷ []) ∷ []) in
    let many = ap length joined in
    let d = f.done in
    fills_push old new rs r (old.size * old.done + old.here.used) f range (omega arith) same most count (omega arith) places
    (done ∙ (f.done ∙ ap length (sym (ap but_last joined ∙ front))))
    (subst (HoldsRecords new.here) (sym (ap last_block joined ∙ last)) (here (last_block bs) f.here))
    made

-- in the next block
pub fills_begun : (old new : FillingView) (rs : List Rec) (r : Rec) → Fills old rs → InRange r → IsShort old.size r → 1 ≤ old.records
    → old.size < old.here.used + room r → old.done + 1 < old.most
    → new.size ≡ old.size → new.most ≡ old.most → new.records ≡ old.records + 1 → new.done ≡ old.done + 1
    → HoldsRecords new.here (r ∷ [])
    → ((given : List PositionedRecord) → HasRecords old.maker given → HasRecords new.maker (given ++ (old.size * (old.done + 1) + 48, r) ∷ []))
    → Fills new (rs ++ r ∷ [])
fills_begun old new rs r f range short some full less same most count done here made =
    let bs = blocks old.size rs in
    let used = f.here.used in
    let n = f.count in
    let many : 1 ≤ length rs = omega arith in
    let no_room : old.size < used_bytes (last_block bs) + room r = omega arith in
    let begun = begins_last old.size rs r many no_room in
    let all = ap length (whole_blocks old.size rs many) in
    let parts = length-append (but_last bs) (last_block bs ∷ []) in
    let e = f.done in
    let now : new.done ≡ length bs = omega arith in
    let places : positions old.size (rs ++ r ∷ []) ≡ positions old.size rs ++ (old.size * (old.done + 1) + 48) ∷ [] =
    position_begun old.size rs r many no_room
    ∙ ap (λ n. positions old.size rs ++ (old.size * (n + 1) + 48) ∷ []) (sym f.done) in
    let longer = ap length begun in
    let one = length-append bs ((r ∷ []) ∷ []) in
    fills_push old new rs r (old.size * (old.done + 1) + 48) f range short same most count (omega arith) places
    (now ∙ ap length (sym (ap but_last begun ∙ but_last-push bs (r ∷ []))))
    (subst (HoldsRecords new.here) (sym (ap last_block begun ∙ last-push bs (r ∷ []))) here)
    made

-- the same records, with an index of the same
pub fills_same : (old new : FillingView) (rs : List Rec) → Fills old rs → new.size ≡ old.size → new.most ≡ old.most → new.records ≡ old.records → new.done ≡ old.done → new.here ≡ old.here
    → ((given : List PositionedRecord) → HasRecords old.maker given → HasRecords new.maker given)
    → Fills new rs
fills_same old new rs f same most count done here made =
    let back = sym same in
    record {
      size = subst IsBlockSize back f.size;
      allowed = let a = f.allowed in omega arith;
      count = count ∙ f.count;
      few = subst (λ s. length (blocks s rs) ≤ new.most) back (let l = f.few in omega arith);
      done = done ∙ (f.done ∙ ap (λ s. length (but_last (blocks s rs))) back);
      here = subst (λ h. HoldsRecords h (last_block (blocks new.size rs))) (sym here) (subst (λ s. HoldsRecords old.here (last_block (blocks s rs))) back f.here);
      given = f.given;
      records = f.records;
      positions = f.positions ∙ ap (λ s. positions s rs) back;
      made = made f.given f.made;
      range = f.range;
      short = subst (λ s. All (IsShort s) rs) back f.short;
    }

-- a record that is short and doesn't fit the block at hand is not the first
pub no_place : (f : FillingView) (r : Rec) (len : ℕ) → length r.body ≡ len → IsSteady f → len + 96 ≤ f.size → (f.here.used + (48 + padded_len len) ≤ f.here.size → IsTrue false)
    → IsShort f.size r × (f.size < f.here.used + room r) × (1 ≤ f.records)
no_place f r len e steady short full =
    let is_short : IsShort f.size r = omega arith in
    let same = steady.same in
    let big : f.size < f.here.used + room r = elim (cases_lt f.size (f.here.used + room r)) [
      | inl l ↦ l
      | inr l ↦ absurd (no_false (full (subst (λ n. f.here.used + (48 + padded_len n) ≤ f.here.size) e (let k : f.here.used + room r ≤ f.here.size = omega arith in k))))
    ] in
    let least = fits_empty f.size r steady.size is_short in
    let some : 1 ≤ f.records = elim (cases_lt 0 f.records) [
      | inl l ↦ omega arith
      | inr l ↦ let empty = steady.none (omega arith) in absurd (omega arith)
    ] in
    (is_short, big, some)
  where
    no_false : IsTrue false → ⊥
    no_false h = cc

-- the numbers go on to fit together where a block begins
pub begun_steady : (old new : FillingView) (r : Rec) → IsSteady old → IsShort old.size r → 1 ≤ old.records → old.done + 1 < old.most
    → new.size ≡ old.size → new.most ≡ old.most → new.done ≡ old.done + 1
    → new.here.size ≡ old.size → new.here.used ≡ 48 + room r → 1 ≤ new.here.count
    → new.maker.end ≡ old.size * (old.done + 1) + 48 + (48 + length r.body) → IsSome new.maker.summary
    → old.records ≤ new.records → new.records ≤ old.records + 1
    → IsSteady new
begun_steady old new r s short some next size most done whole used count end summary more few =
    let fits = fits_empty old.size r s.size short in
    let step : old.size * (old.done + 1) ≡ old.size * old.done + old.size = (let e : old.size * (old.done + 1) ≡ old.size * old.done + old.size * 1 = mul-add old.size old.done 1 in omega arith) in
    let now : new.size * new.done ≡ old.size * old.done + old.size = ap (λ n. n * new.done) size ∙ (ap (λ n. old.size * n) done ∙ step) in
    let was = s.few in
    let held = s.used in
    let less = s.most in
    record {
      size = subst IsBlockSize (sym size) s.size;
      same = whole ∙ sym size;
      most = omega arith;
      done = omega arith;
      used = omega arith;
      begun = omega arith;
      end = omega arith;
      few = omega arith;
      some = λ h. (count, summary);
      none = λ h. absurd (omega arith);
    }
