-- The record of each number stands at its position.
use Rattle.std.proofs.Common.{◌≡◌, ℕ, zero, suc, ◌+◌, ◌-◌, ◌*◌, ◌<◌, ◌≤◌, List, [], ◌∷◌, ◌++◌, length, length-append, Some, refl, sym, ap, ◌∙◌, subst, arith, append_assoc, append-nil, inl, inr}
use Rattle.std.specs.Prelude.{slice_index, replicate}
use Rattle.std.specs.List.{slice_get, flat_map}
use Rattle.std.proofs.lemmas.Bool.{cases_lt}
use Rattle.std.proofs.lemmas.Option.{none-some, same_Some}
use Rattle.std.proofs.lemmas.List.{get_or_append_left, get_or-append_right, length-replicate}
use Rattle.st_base.specs.Records.{Rec}
use Rattle.st_block.specs.Fields.{Field, Zeros, Body, sizes, text}
use Rattle.st_block.specs.BlockText.{padded_len, room, used_bytes, record_head, record_fields, distance, records_fields, block_head, head_of_block, block_text, blocks, blocks_text, BlockText, AreFilled, HasFile}
use Rattle.st_block.specs.Position.{positions_from, positions_in_blocks, PositionOf}
use Rattle.st_block.proofs.Texts.{text-append, length-text, sizes-append}
use Rattle.st_block.proofs.Rooms.{flat_blocks, file_fills}

-- the record stands at a position of these bytes, which begin at a place
pub record Part (bytes : List ℕ) (place position : ℕ) (r : Rec) : Type 0 where
  pub next : ℕ
  pub front : List ℕ
  pub back : List ℕ
  pub split : bytes ≡ front ++ (text (record_fields next r) ++ back)
  pub here : place + length front ≡ position

-- bytes in front
after : (ys bytes : List ℕ) (place there position : ℕ) (r : Rec) → place + length ys ≡ there → Part bytes there position r → Part (ys ++ bytes) place position r
after ys bytes place there position r e p =
    record {
      next = p.next;
      front = ys ++ p.front;
      back = p.back;
      split = ap (λ l. ys ++ l) p.split ∙ sym (append_assoc ys p.front (text (record_fields p.next r) ++ p.back));
      here = let l = length-append ys p.front in let h = p.here in omega (arith, l, h, e);
    }

-- bytes after
before : (ys bytes : List ℕ) (place position : ℕ) (r : Rec) → Part bytes place position r → Part (bytes ++ ys) place position r
before ys bytes place position r p =
    record {
      next = p.next;
      front = p.front;
      back = p.back ++ ys;
      split =
          ap (λ l. l ++ ys) p.split
          ∙ append_assoc p.front (text (record_fields p.next r) ++ p.back) ys
          ∙ ap (λ l. p.front ++ l) (append_assoc (text (record_fields p.next r)) p.back ys);
      here = p.here;
    }

-- a record's head has 48 bytes
pub size_head : (next : ℕ) (r : Rec) → sizes (record_head next r) ≡ 48
unfolding record_head
size_head next r = refl

-- a record takes as many bytes as it has room
pub length_record : (next : ℕ) (r : Rec) → length (text (record_fields next r)) ≡ room r
length_record next r =
    let tail : List Field = Body r.body ∷ Zeros (padded_len (length r.body) - length r.body) ∷ [] in
    let all = sizes-append (record_head next r) tail in
    let head = size_head next r in
    length-text (record_fields next r) ∙ omega (arith, all, head)

-- the parts of a record
pub record_split : (next : ℕ) (r : Rec) → text (record_fields next r) ≡ text (record_head next r) ++ (r.body ++ replicate (padded_len (length r.body) - length r.body) 0)
record_split next r =
    let zeros : List ℕ = replicate (padded_len (length r.body) - length r.body) 0 in
    let tail : List Field = Body r.body ∷ Zeros (padded_len (length r.body) - length r.body) ∷ [] in
    let end : text tail ≡ r.body ++ zeros = ap (λ l. r.body ++ l) (append-nil zeros) in
    text-append (record_head next r) tail ∙ ap (λ l. text (record_head next r) ++ l) end

-- the records of a block take what is used after its head
pub length_records : (rs : List Rec) → length (text (records_fields rs)) + 48 ≡ used_bytes rs
length_records [] = refl
length_records (r ∷ rs) =
    let split = ap length (text-append (record_fields (distance r rs) r) (records_fields rs)) ∙ length-append (text (record_fields (distance r rs) r)) (text (records_fields rs)) in
    let one = length_record (distance r rs) r in
    let more = length_records rs in
    omega (arith, split, one, more)

-- each record of a block stands where its place says
in_records : (place : ℕ) (rs : List Rec) (i : ℕ) (r : Rec) → slice_get rs i ≡ Some r → Part (text (records_fields rs)) place (slice_index (positions_from place rs) i) r
in_records place [] i r e = absurd (none-some r e)
in_records place (q ∷ rs) zero r e =
    let same : q ≡ r = same_Some q r e in
    record {
      next = distance q rs;
      front = [];
      back = text (records_fields rs);
      split = text-append (record_fields (distance q rs) q) (records_fields rs) ∙ ap (λ s. text (record_fields (distance q rs) s) ++ text (records_fields rs)) same;
      here = omega arith;
    }
in_records place (q ∷ rs) (suc i) r e =
    let ys = text (record_fields (distance q rs) q) in
    let size : place + length ys ≡ place + room q = ap (λ n. place + n) (length_record (distance q rs) q) in
    let more = after ys (text (records_fields rs)) place (place + room q) _ r size (in_records (place + room q) rs i r e) in
    subst (λ l. Part l place (slice_index (positions_from (place + room q) rs) i) r) (sym (text-append (record_fields (distance q rs) q) (records_fields rs))) more

-- a block's head has 48 bytes
pub size_block_head : (size number : ℕ) (r : Rec) (rs : List Rec) → sizes (head_of_block size number r rs) ≡ 48
unfolding block_head
size_block_head size number r rs = refl

-- the parts of a block
pub block_split : (size number : ℕ) (r : Rec) (rs : List Rec) → block_text size number (r ∷ rs) ≡ text (head_of_block size number r rs) ++ (text (records_fields (r ∷ rs)) ++ replicate (size - used_bytes (r ∷ rs)) 0)
block_split size number r rs =
    let zeros : List Field = Zeros (size - used_bytes (r ∷ rs)) ∷ [] in
    let end : text zeros ≡ replicate (size - used_bytes (r ∷ rs)) 0 = append-nil (replicate (size - used_bytes (r ∷ rs)) 0) in
    text-append (head_of_block size number r rs) (records_fields (r ∷ rs) ++ zeros)
    ∙ ap (λ l. text (head_of_block size number r rs) ++ l) (text-append (records_fields (r ∷ rs)) zeros ∙ ap (λ l. text (records_fields (r ∷ rs)) ++ l) end)

-- each record stands in its block where its place says
in_block : (size number : ℕ) (b : List Rec) (i : ℕ) (r : Rec) → slice_get b i ≡ Some r → Part (block_text size number b) (size * number) (slice_index (positions_from (size * number + 48) b) i) r
in_block size number [] i r e = absurd (none-some r e)
in_block size number (q ∷ rs) i r e =
    let inner = in_records (size * number + 48) (q ∷ rs) i r e in
    let longer = before (replicate (size - used_bytes (q ∷ rs)) 0) (text (records_fields (q ∷ rs))) (size * number + 48) _ r inner in
    let head : size * number + length (text (head_of_block size number q rs)) ≡ size * number + 48 = ap (λ n. size * number + n) (length-text (head_of_block size number q rs) ∙ size_block_head size number q rs) in
    let whole = after (text (head_of_block size number q rs)) (text (records_fields (q ∷ rs)) ++ replicate (size - used_bytes (q ∷ rs)) 0) (size * number) (size * number + 48) _ r head longer in
    subst (λ l. Part l (size * number) (slice_index (positions_from (size * number + 48) (q ∷ rs)) i) r) (sym (block_split size number q rs)) whole

-- a block has as many bytes as its size says
pub length_block : (size number : ℕ) (b : List Rec) → 1 ≤ length b → used_bytes b ≤ size → length (block_text size number b) ≡ size
length_block size number [] some l = absurd (omega arith)
length_block size number (r ∷ rs) some l =
    let head = length-text (head_of_block size number r rs) ∙ size_block_head size number r rs in
    let records = length_records (r ∷ rs) in
    let zeros = length-replicate {A = ℕ} (size - used_bytes (r ∷ rs)) 0 in
    let inner = length-append (text (records_fields (r ∷ rs))) (replicate (size - used_bytes (r ∷ rs)) 0) in
    let all = ap length (block_split size number r rs) ∙ length-append (text (head_of_block size number r rs)) (text (records_fields (r ∷ rs)) ++ replicate (size - used_bytes (r ∷ rs)) 0) in
    omega (arith, head, records, zeros, inner, all)

-- there are as many places as records
pub length-places : (place : ℕ) (rs : List Rec) → length (positions_from place rs) ≡ length rs
length-places place [] = refl
length-places place (r ∷ rs) = ap suc (length-places (place + room r) rs)

-- an item of two lists, one after the other
get_left : (xs ys : List Rec) (i : ℕ) (r : Rec) → i < length xs → slice_get (xs ++ ys) i ≡ Some r → slice_get xs i ≡ Some r
get_left [] ys i r l e = absurd (omega arith)
get_left (x ∷ xs) ys zero r l e = e
get_left (x ∷ xs) ys (suc i) r l e = get_left xs ys i r (omega arith) e

get_right : (xs ys : List Rec) (i : ℕ) (r : Rec) → length xs ≤ i → slice_get (xs ++ ys) i ≡ Some r → slice_get ys (i - length xs) ≡ Some r
get_right [] ys i r l e = ap (slice_get ys) (let n : i - 0 ≡ i = omega arith in n) ∙ e
get_right (x ∷ xs) ys zero r l e = absurd (omega arith)
get_right (x ∷ xs) ys (suc i) r l e =
    ap (slice_get ys) (let n : suc i - suc (length xs) ≡ i - length xs = omega arith in n) ∙ get_right xs ys i r (omega arith) e

-- each record stands in the blocks where its place says
in_blocks : (size number : ℕ) (bs : List (List Rec)) (i : ℕ) (r : Rec) → AreFilled size bs → slice_get (flat_map (λ b. b) bs) i ≡ Some r → Part (blocks_text size number bs) (size * number) (slice_index (positions_in_blocks size number bs) i) r
in_blocks size number [] i r fill e = absurd (none-some r e)
in_blocks size number (b ∷ bs) i r (some, l, apart, fill) e = elim (cases_lt i (length b)) [
  | inl left ↦
      let inner = in_block size number b i r (get_left b (flat_map (λ c. c) bs) i r left e) in
      let count = length-places (size * number + 48) b in
      let same = get_or_append_left (positions_from (size * number + 48) b) (positions_in_blocks size (number + 1) bs) 0 i (omega arith) in
      subst (λ p. Part (block_text size number b ++ blocks_text size (number + 1) bs) (size * number) p r) (sym same) (before (blocks_text size (number + 1) bs) (block_text size number b) (size * number) _ r inner)
  | inr right ↦
      let next = in_blocks size (number + 1) bs (i - length b) r fill (get_right b (flat_map (λ c. c) bs) i r right e) in
      let whole = length_block size number b some l in
      let size_of_it : size * number + length (block_text size number b) ≡ size * (number + 1) = omega (arith, whole) in
      let same = get_or-append_right (positions_from (size * number + 48) b) (positions_in_blocks size (number + 1) bs) (length b) i 0 (length-places (size * number + 48) b) right in
      subst (λ p. Part (block_text size number b ++ blocks_text size (number + 1) bs) (size * number) p r) (sym same) (after (block_text size number b) (blocks_text size (number + 1) bs) (size * number) (size * (number + 1)) _ r size_of_it next)
]

-- each record stands in its file at its position
pub in_file : (size : ℕ) (rs : List Rec) (i : ℕ) (r : Rec) → HasFile size rs → slice_get rs i ≡ Some r → Part (BlockText size rs) 0 (PositionOf size rs i) r
in_file size rs i r h e =
    let joined : slice_get (flat_map (λ b. b) (blocks size rs)) i ≡ Some r = ap (λ l. slice_get l i) (flat_blocks size rs) ∙ e in
    let part = in_blocks size 0 (blocks size rs) i r (file_fills size rs h.block_size h.short) joined in
    subst (λ n. Part (BlockText size rs) n (PositionOf size rs i) r) (let z : size * 0 ≡ 0 = omega arith in z) part
