-- A block at which nothing is wrong is the text of its records.
use Rattle.std.proofs.Common.{◌≡◌, ℕ, zero, suc, ◌+◌, ◌-◌, ◌*◌, ◌^◌, ◌<◌, ◌≤◌, List, [], ◌∷◌, ◌++◌, length, take, drop, Option, None, Some, refl, sym, ap, ◌∙◌, subst, arith}
use Rattle.std.specs.Prelude.{All}
use Rattle.std.specs.Option.{option_or}
use Rattle.std.proofs.lemmas.List.{drop-drop, length-drop, take_all, get_or-drop, get_or_default}
use Rattle.std.proofs.lemmas.List.Elements.{All-cons, All-nil, All-take}
use Rattle.std.proofs.lemmas.Bool.Decides.{nat_tests}
use Rattle.byteorder.specs.Endian.{little_number}
use Rattle.byteorder.specs.Numbers.{little_from-lt}
use Rattle.st_base.specs.Records.{Rec, InRange}
use Rattle.st_base.specs.Damages.{DamageView}
use Rattle.st_block.specs.Fields.{Field, Zeros, Body, size_of, sizes, not_same, above, first_wrong, AreRead}
use Rattle.st_block.specs.BlockText.{padded_len, used_bytes, distance, record_head, record_fields, records_fields, block_head, head_of_block, block_fields, block_text, IsShort, HasBytes}
use Rattle.st_block.specs.Checks.{captured_length, room_at, record_at, records_at, count_of, records_of, layout_wrong, join_wrong, block_wrong}
use Rattle.st_block.specs.declared.scan.layout.Layout.{Layout}
use Rattle.st_block.specs.Layout.{RecordsFit, SoundRecordsFit, IsLayout, IsWholeBlock}
use Rattle.st_block.proofs.Texts.{AreBytes, first_wrong-append, sizes-append, text_is}
use Rattle.st_block.proofs.Laying.{body_is, room_is, records_more, padded_more}
use Rattle.st_block.proofs.Checking.{sizes_head, sizes_record, sizes_records, sizes_block_head, record_head_checks, record_checks}

-- two checks that both hold
pub both_hold : (a b : Option DamageView) → option_or a b ≡ None → (a ≡ None) × (b ≡ None)
both_hold None b e = (refl, e)
both_hold (Some f) b e = cc

-- bytes after bytes
pub bytes_after : (n : ℕ) (bytes : List ℕ) → AreBytes bytes → AreBytes (drop n bytes)
bytes_after n bytes b = λ k. rw get_or-drop (b (n + k))

-- fields that were read off one after the other
are_read-append : (xs ys : List Field) (bytes : List ℕ) → AreRead xs bytes → AreRead ys (drop (sizes xs) bytes) → AreRead (xs ++ ys) bytes
are_read-append [] ys bytes one two = two
are_read-append (f ∷ xs) ys bytes (h, one) two =
    let on : drop (size_of f + sizes xs) bytes ≡ drop (sizes xs) (drop (size_of f) bytes) = sym (drop-drop (sizes xs) (size_of f) bytes) in
    (h, are_read-append xs ys (drop (size_of f) bytes) one (subst (AreRead ys) on two))

-- the head of a record is read off the bytes that it stands in
head_read : (next : ℕ) (bytes : List ℕ) → room_at bytes ≤ length bytes → AreRead (record_head next (record_at bytes)) bytes
unfolding record_head record_at captured_length
head_read next bytes fits =
    let nsec : little_number 4 (drop 4 (drop 4 bytes)) ≡ little_number 4 (drop 8 bytes) = ap (λ (l : List ℕ). little_number 4 l) (drop-drop 4 4 bytes) in
    let at_len : little_number 4 (drop 4 (drop 4 (drop 4 bytes))) ≡ little_number 4 (drop 12 bytes) = ap (λ (l : List ℕ). little_number 4 (drop 4 l)) (drop-drop 4 4 bytes) ∙ ap (λ (l : List ℕ). little_number 4 l) (drop-drop 4 8 bytes) in
    let on_orig : drop 4 (drop 4 (drop 4 (drop 4 bytes))) ≡ drop 16 bytes = ap (λ (l : List ℕ). drop 4 (drop 4 l)) (drop-drop 4 4 bytes) ∙ (ap (λ (l : List ℕ). drop 4 l) (drop-drop 4 8 bytes) ∙ drop-drop 4 12 bytes) in
    (tt, (refl, (nsec, (at_len ∙ sym (body_is bytes fits), (ap (λ (l : List ℕ). little_number 4 l) on_orig, (tt, (tt, (tt, (tt, tt)))))))))

-- the body is as long as the head says
body_there : (bytes : List ℕ) → take (captured_length bytes) (drop 48 bytes) ≡ (record_at bytes).body
unfolding record_at
body_there bytes = refl

-- its body is, too
body_read : (bytes : List ℕ) → room_at bytes ≤ length bytes → take (length (record_at bytes).body) (drop 48 bytes) ≡ (record_at bytes).body
body_read bytes fits = ap (λ (n : ℕ). take n (drop 48 bytes)) (body_is bytes fits) ∙ body_there bytes

-- so is the record
record_read : (next : ℕ) (bytes : List ℕ) → room_at bytes ≤ length bytes → AreRead (record_fields next (record_at bytes)) bytes
record_read next bytes fits =
    let r = record_at bytes in
    are_read-append (record_head next r) (Body r.body ∷ Zeros (padded_len (length r.body) - length r.body) ∷ []) bytes (head_read next bytes fits) (subst (λ k. AreRead (Body r.body ∷ Zeros (padded_len (length r.body) - length r.body) ∷ []) (drop k bytes)) (sym (sizes_head next r)) (body_read bytes fits, (tt, tt)))

-- and all records
records_read : (n : ℕ) (bytes : List ℕ) → RecordsFit n bytes → AreRead (records_fields (records_at n bytes)) bytes
records_read zero bytes fit = tt
records_read (suc n) bytes (here, fit) =
    let r = record_at bytes in
    let rs = records_at n (drop (room_at bytes) bytes) in
    let size : sizes (record_fields (distance r rs) r) ≡ room_at bytes = sizes_record (distance r rs) r ∙ room_is bytes here in
    are_read-append (record_fields (distance r rs) r) (records_fields rs) bytes (record_read (distance r rs) bytes here) (subst (λ k. AreRead (records_fields rs) (drop k bytes)) (sym size) (records_read n (drop (room_at bytes) bytes) fit))

-- a block's head has nothing that may be any
block_head_read : (size number : ℕ) (r : Rec) (rs : List Rec) (bytes : List ℕ) → AreRead (head_of_block size number r rs) bytes
unfolding block_head
block_head_read size number r rs bytes = (tt, (tt, (tt, (tt, (tt, (tt, (tt, (tt, (tt, (tt, (tt, tt)))))))))))

-- a block's fields are read off its bytes
block_read : (size number : ℕ) (r : Rec) (rs : List Rec) (block : List ℕ) → AreRead (records_fields (r ∷ rs)) (drop 48 block) → AreRead (block_fields size number (r ∷ rs)) block
block_read size number r rs block records =
    let head = head_of_block size number r rs in
    let after : AreRead (records_fields (r ∷ rs) ++ Zeros (size - used_bytes (r ∷ rs)) ∷ []) (drop 48 block) = are_read-append (records_fields (r ∷ rs)) (Zeros (size - used_bytes (r ∷ rs)) ∷ []) (drop 48 block) records (tt, tt) in
    are_read-append head (records_fields (r ∷ rs) ++ Zeros (size - used_bytes (r ∷ rs)) ∷ []) block (block_head_read size number r rs block) (subst (λ k. AreRead (records_fields (r ∷ rs) ++ Zeros (size - used_bytes (r ∷ rs)) ∷ []) (drop k block)) (sym (sizes_block_head size number r rs)) after)

-- they take the whole block
pub sizes_block : (size number : ℕ) (r : Rec) (rs : List Rec) → used_bytes (r ∷ rs) ≤ size → sizes (block_fields size number (r ∷ rs)) ≡ size
sizes_block size number r rs l =
    let head = sizes_block_head size number r rs in
    let one = sizes-append (head_of_block size number r rs) (records_fields (r ∷ rs) ++ Zeros (size - used_bytes (r ∷ rs)) ∷ []) in
    let two = sizes-append (records_fields (r ∷ rs)) (Zeros (size - used_bytes (r ∷ rs)) ∷ []) in
    let many = sizes_records (r ∷ rs) in
    omega arith

-- a block at which nothing is wrong
pub whole_block : (size number : ℕ) (before : Option ℕ) (block : List ℕ) → IsWholeBlock block → length block ≡ size → block_wrong size number before block ≡ None → block ≡ block_text size number (records_of block)
unfolding block_wrong
whole_block size number before block laid len none =
    let bytes = laid.bytes in
    let some = laid.some in
    let r = record_at (drop 48 block) in
    let rs = records_at (count_of block - 1) (drop (room_at (drop 48 block)) (drop 48 block)) in
    let first : records_of block ≡ r ∷ rs = records_more (count_of block) (drop 48 block) (omega arith) in
    let one = both_hold (layout_wrong (size * number) block) _ none in
    let two = both_hold (join_wrong size (size * number) before block) _ one.1 in
    let fields : first_wrong (size * number) (block_fields size number (r ∷ rs)) block ≡ None = subst (λ (qs : List Rec). first_wrong (size * number) (block_fields size number qs) block ≡ None) first two.1 in
    let end : used_bytes (r ∷ rs) ≤ size = let e = ap used_bytes first in let w = laid.within in omega arith in
    let takes = sizes_block size number r rs end in
    let records = subst (λ (qs : List Rec). AreRead (records_fields qs) (drop 48 block)) first (records_read (count_of block) (drop 48 block) laid.fit) in
    let is = text_is (size * number) (block_fields size number (r ∷ rs)) block bytes (omega arith) (block_read size number r rs block records) fields in
    sym (take_all (sizes (block_fields size number (r ∷ rs))) block (omega arith)) ∙ (is ∙ ap (λ (qs : List Rec). block_text size number qs) (sym first))

-- nanoseconds that are checked are at most those of a time
below_second : (place n : ℕ) → above place n 999999999 ≡ None → n ≤ 999999999
below_second place n e = grind (arith, nat_tests)

-- a record at which nothing is wrong has such
nsec_below : (place next : ℕ) (bytes : List ℕ) → room_at bytes ≤ length bytes → first_wrong place (record_fields next (record_at bytes)) bytes ≡ None → (record_at bytes).nsec ≤ 999999999
unfolding record_at
nsec_below place next bytes fits none =
    let split = record_checks place next bytes fits in
    let head = both_hold (first_wrong place (record_head next (record_at bytes)) bytes) _ (sym split ∙ none) in
    let checks = record_head_checks place next (record_at bytes) bytes in
    let one = both_hold (not_same place (little_number 4 (drop 0 bytes)) next) _ (sym checks ∙ head.0) in
    let two = both_hold (above (place + 8) (little_number 4 (drop 8 bytes)) 999999999) _ one.1 in
    below_second (place + 8) (little_number 4 (drop 8 bytes)) two.0

-- records at which nothing is wrong stand
pub stand_all : (place n : ℕ) (bytes : List ℕ) → RecordsFit n bytes → first_wrong place (records_fields (records_at n bytes)) bytes ≡ None → SoundRecordsFit n bytes
stand_all place zero bytes fit none = tt
stand_all place (suc n) bytes (here, fit) none =
    let r = record_at bytes in
    let rs = records_at n (drop (room_at bytes) bytes) in
    let size : sizes (record_fields (distance r rs) r) ≡ room_at bytes = sizes_record (distance r rs) r ∙ room_is bytes here in
    let split = first_wrong-append place (record_fields (distance r rs) r) (records_fields rs) bytes in
    let both = both_hold (first_wrong place (record_fields (distance r rs) r) bytes) _ (sym split ∙ none) in
    let more : first_wrong (place + room_at bytes) (records_fields rs) (drop (room_at bytes) bytes) ≡ None = subst (λ k. first_wrong (place + k) (records_fields rs) (drop k bytes) ≡ None) size both.1 in
    (here, nsec_below place (distance r rs) bytes here both.0, stand_all (place + room_at bytes) n (drop (room_at bytes) bytes) fit more)

-- a number of four bytes
four_bytes : (bytes : List ℕ) (n : ℕ) → AreBytes bytes → little_number 4 (drop n bytes) < 2 ^ 32
four_bytes bytes n b = let l = little_from-lt 0 4 (drop n bytes) (bytes_after n bytes b) in omega (arith, l)

-- a record that stands is in range
pub in_range : (bytes : List ℕ) → AreBytes bytes → room_at bytes ≤ length bytes → (record_at bytes).nsec ≤ 999999999 → InRange (record_at bytes)
unfolding record_at captured_length
in_range bytes b fits below =
    record {
      sec = four_bytes bytes 4 b;
      nsec = omega (arith, below);
      orig = four_bytes bytes 16 b;
      body = let l = four_bytes bytes 12 b in let e = body_is bytes fits in omega (arith, l, e);
    }

-- records that stand are in range
pub range_all : (n : ℕ) (bytes : List ℕ) → AreBytes bytes → SoundRecordsFit n bytes → All InRange (records_at n bytes)
range_all zero bytes b stand = All-nil InRange
range_all (suc n) bytes b (here, below, stand) =
    All-cons InRange (record_at bytes) (records_at n (drop (room_at bytes) bytes)) (in_range bytes b here below) (range_all n (drop (room_at bytes) bytes) (bytes_after (room_at bytes) bytes b) stand)

-- a record read off bytes has a body of bytes
bytes_in : (bytes : List ℕ) → AreBytes bytes → HasBytes (record_at bytes)
unfolding record_at
bytes_in bytes b =
    let all : All (λ x. x < 256) (drop 48 bytes) = λ k d l. subst (λ x. x < 256) (get_or_default (drop 48 bytes) k 0 d l) (bytes_after 48 bytes b k) in
    All-take (λ x. x < 256) (captured_length bytes) (drop 48 bytes) all

pub bytes_all : (n : ℕ) (bytes : List ℕ) → AreBytes bytes → All HasBytes (records_at n bytes)
bytes_all zero bytes b = All-nil HasBytes
bytes_all (suc n) bytes b =
    All-cons HasBytes (record_at bytes) (records_at n (drop (room_at bytes) bytes)) (bytes_in bytes b) (bytes_all n (drop (room_at bytes) bytes) (bytes_after (room_at bytes) bytes b))

-- and short enough for a block
pub short_all : (size n : ℕ) (bytes : List ℕ) → length bytes + 48 ≤ size → SoundRecordsFit n bytes → All (IsShort size) (records_at n bytes)
short_all size zero bytes l stand = All-nil (IsShort size)
short_all size (suc n) bytes l (here, below, stand) =
    let one : IsShort size (record_at bytes) = let e = body_is bytes here in let m = padded_more (captured_length bytes) in omega (arith, e, m) in
    let rest = length-drop (room_at bytes) bytes in
    All-cons (IsShort size) (record_at bytes) (records_at n (drop (room_at bytes) bytes)) one (short_all size n (drop (room_at bytes) bytes) (omega arith) stand)

-- a block that is laid out is one of bytes with room for its records
pub laid_whole : (block : List ℕ) (layout : Layout) → IsLayout block layout → AreBytes block → IsWholeBlock block
laid_whole block layout laid bytes =
    record {
      some = let e = laid.count in let s = laid.some in omega arith;
      fit = laid.fit;
      within = let e = laid.end in let w = laid.within in omega arith;
      bytes = bytes;
    }

-- a whole block's records stand
pub whole_stands : (size number : ℕ) (before : Option ℕ) (block : List ℕ) → IsWholeBlock block → block_wrong size number before block ≡ None → SoundRecordsFit (count_of block) (drop 48 block)
unfolding block_wrong
whole_stands size number before block laid none =
    let some = laid.some in
    let r = record_at (drop 48 block) in
    let rs = records_at (count_of block - 1) (drop (room_at (drop 48 block)) (drop 48 block)) in
    let first : records_of block ≡ r ∷ rs = records_more (count_of block) (drop 48 block) (omega arith) in
    let one = both_hold (layout_wrong (size * number) block) _ none in
    let two = both_hold (join_wrong size (size * number) before block) _ one.1 in
    let fields : first_wrong (size * number) (block_fields size number (r ∷ rs)) block ≡ None = subst (λ (qs : List Rec). first_wrong (size * number) (block_fields size number qs) block ≡ None) first two.1 in
    let three = both_hold (first_wrong (size * number) (head_of_block size number r rs) block) _ (sym (first_wrong-append (size * number) (head_of_block size number r rs) (records_fields (r ∷ rs) ++ Zeros (size - used_bytes (r ∷ rs)) ∷ []) block) ∙ fields) in
    let after : first_wrong (size * number + 48) (records_fields (r ∷ rs) ++ Zeros (size - used_bytes (r ∷ rs)) ∷ []) (drop 48 block) ≡ None = subst (λ k. first_wrong (size * number + k) (records_fields (r ∷ rs) ++ Zeros (size - used_bytes (r ∷ rs)) ∷ []) (drop k block) ≡ None) (sizes_block_head size number r rs) three.1 in
    let four = both_hold (first_wrong (size * number + 48) (records_fields (r ∷ rs)) (drop 48 block)) _ (sym (first_wrong-append (size * number + 48) (records_fields (r ∷ rs)) (Zeros (size - used_bytes (r ∷ rs)) ∷ []) (drop 48 block)) ∙ after) in
    stand_all (size * number + 48) (count_of block) (drop 48 block) laid.fit (subst (λ (qs : List Rec). first_wrong (size * number + 48) (records_fields qs) (drop 48 block) ≡ None) (sym first) four.0)
