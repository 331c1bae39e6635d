-- The checks of a block's fields, head by head and record by record.
use Rattle.std.proofs.Common.{◌≡◌, ℕ, zero, suc, ◌+◌, ◌-◌, ◌<◌, ◌≤◌, Bool, true, false, List, [], ◌∷◌, ◌++◌, length, take, drop, Option, None, Some, refl, sym, ap, ◌∙◌, subst, arith, add_assoc}
use Rattle.std.specs.Prelude.{nat_lt, if◌then◌else◌}
use Rattle.std.specs.Option.{option_or}
use Rattle.std.proofs.lemmas.List.{drop-drop, length-drop, take_all}
use Rattle.std.proofs.lemmas.Bool.Decides.{nat_tests}
use Rattle.byteorder.specs.Endian.{little_number}
use Rattle.st_base.specs.Records.{Rec, time}
use Rattle.st_base.specs.Damages.{DamageView}
use Rattle.st_block.specs.Fields.{Field, Number, Any, Nanoseconds, Zeros, Body, size_of, sizes, not_same, above, not_zero, field_wrong, first_wrong}
use Rattle.st_block.specs.BlockText.{padded_len, room, used_bytes, record_head, record_fields, records_fields, block_head, head_of_block, block_fields}
use Rattle.st_block.specs.Checks.{captured_length, room_at, record_at, records_at, count_of, records_of}
use Rattle.st_block.specs.BlockText.{distance, last_of, head_counts, head_times}
use Rattle.st_block.specs.declared.format.TheConstants.{MAX_NSEC, RECORD_HEAD, RECORD_STATUS, HEAD_ZEROS}
use Rattle.st_block.specs.declared.scan.layout.Layout.{Layout}
use Rattle.st_block.specs.Layout.{RecordsFit, IsLayout}
use Rattle.st_block.proofs.Laying.{body_is, room_is, records_more, fit_first}
use Rattle.st_block.proofs.Texts.{first_wrong-append, sizes-append}

-- nothing after a check
pub option_or-none : (o : Option DamageView) → option_or o None ≡ o
option_or-none None = refl
option_or-none (Some f) = refl

-- the checks of fields from an offset on: the first one's, and those of the others
from_offset : (place at : ℕ) (f : Field) (fields : List Field) (bytes : List ℕ) (rest : Option DamageView) → first_wrong (place + (at + size_of f)) fields (drop (at + size_of f) bytes) ≡ rest → first_wrong (place + at) (f ∷ fields) (drop at bytes) ≡ option_or (field_wrong (place + at) f (drop at bytes)) rest
from_offset place at f fields bytes rest e =
    let there : place + at + size_of f ≡ place + (at + size_of f) = omega arith in
    let on : drop (size_of f) (drop at bytes) ≡ drop (at + size_of f) bytes = drop-drop (size_of f) at bytes in
    ap (λ (n : ℕ). option_or (field_wrong (place + at) f (drop at bytes)) (first_wrong n fields (drop (size_of f) (drop at bytes)))) there
    ∙ (ap (λ (l : List ℕ). option_or (field_wrong (place + at) f (drop at bytes)) (first_wrong (place + (at + size_of f)) fields l)) on
    ∙ ap (λ (o : Option DamageView). option_or (field_wrong (place + at) f (drop at bytes)) o) e)

-- the checks of a record's head, each at its offset
pub record_head_checks : (place next : ℕ) (r : Rec) (bytes : List ℕ) → first_wrong place (record_head next r) bytes ≡ option_or (not_same place (little_number 4 (drop 0 bytes)) next) (option_or (above (place + 8) (little_number 4 (drop 8 bytes)) MAX_NSEC) (option_or (not_same (place + 20) (little_number 4 (drop 20 bytes)) RECORD_STATUS) (option_or (not_same (place + 24) (little_number 2 (drop 24 bytes)) RECORD_HEAD) (option_or (not_same (place + 26) (little_number 2 (drop 26 bytes)) RECORD_HEAD) (not_zero (place + 28) (take HEAD_ZEROS (drop 28 bytes)))))))
unfolding record_head
record_head_checks place next r bytes =
    let zeros : List Field = Zeros HEAD_ZEROS ∷ [] in
    let again : List Field = Number 2 RECORD_HEAD ∷ zeros in
    let body : List Field = Number 2 RECORD_HEAD ∷ again in
    let status : List Field = Number 4 RECORD_STATUS ∷ body in
    let orig : List Field = Any 4 r.orig ∷ status in
    let len : List Field = Any 4 (length r.body) ∷ orig in
    let nsec : List Field = Nanoseconds r.nsec ∷ len in
    let e28 = option_or-none (not_zero (place + 28) (take HEAD_ZEROS (drop 28 bytes))) in
    let e26 = from_offset place 26 (Number 2 RECORD_HEAD) zeros bytes _ e28 in
    let e24 = from_offset place 24 (Number 2 RECORD_HEAD) again bytes _ e26 in
    let e20 = from_offset place 20 (Number 4 RECORD_STATUS) body bytes _ e24 in
    let e16 = from_offset place 16 (Any 4 r.orig) status bytes _ e20 in
    let e12 = from_offset place 12 (Any 4 (length r.body)) orig bytes _ e16 in
    let e8 = from_offset place 8 (Nanoseconds r.nsec) len bytes _ e12 in
    let e4 = from_offset place 4 (Any 4 r.sec) nsec bytes _ e8 in
    ap (λ (o : Option DamageView). option_or (not_same place (little_number 4 (drop 0 bytes)) next) o) e4

-- those of the first part of a block's head
pub head_counts_checks : (place size number count end : ℕ) (block : List ℕ) → first_wrong place (head_counts size number count end) block ≡ option_or (not_same place (little_number 4 (drop 0 block)) 1) (option_or (not_same (place + 4) (little_number 4 (drop 4 block)) size) (option_or (not_same (place + 8) (little_number 4 (drop 8 block)) 1) (option_or (not_same (place + 12) (little_number 4 (drop 12 block)) count) (option_or (not_same (place + 16) (little_number 4 (drop 16 block)) 48) (option_or (not_same (place + 20) (little_number 4 (drop 20 block)) end) (not_same (place + 24) (little_number 8 (drop 24 block)) number))))))
head_counts_checks place size number count end block = simp (add_assoc, drop-drop, option_or-none)

-- those of the other part
pub head_times_checks : (place : ℕ) (first last block : List ℕ) → first_wrong (place + 32) (head_times (time (record_at first)) (time (record_at last))) (drop 32 block) ≡ option_or (not_same (place + 32) (little_number 4 (drop 32 block)) (little_number 4 (drop 4 first))) (option_or (not_same (place + 36) (little_number 4 (drop 36 block)) (little_number 4 (drop 8 first))) (option_or (not_same (place + 40) (little_number 4 (drop 40 block)) (little_number 4 (drop 4 last))) (not_same (place + 44) (little_number 4 (drop 44 block)) (little_number 4 (drop 8 last)))))
unfolding record_at
head_times_checks place first last block = simp (add_assoc, drop-drop, option_or-none)

-- so far all records of a block are well
pub record Checked (block : List ℕ) (place count had at : ℕ) : Type 0 where
  pub inside : at ≤ length block
  pub fit : RecordsFit (count - had) (drop at block)
  pub wrong : first_wrong (place + at) (records_fields (records_at (count - had) (drop at block))) (drop at block) ≡ first_wrong (place + 48) (records_fields (records_at count (drop 48 block))) (drop 48 block)

-- none was looked at
pub checked_none : (block : List ℕ) (place count : ℕ) → 48 ≤ length block → RecordsFit count (drop 48 block) → Checked block place count 0 48
checked_none block place count l fit =
    let e : count - 0 ≡ count = omega arith in
    record {
      inside = l;
      fit = subst (λ k. RecordsFit k (drop 48 block)) (sym e) fit;
      wrong = rw e refl;
    }

-- a record's head takes 48 bytes
pub sizes_head : (next : ℕ) (r : Rec) → sizes (record_head next r) ≡ 48
unfolding record_head
sizes_head next r = refl

-- a record's fields take as many bytes as the record
pub sizes_record : (next : ℕ) (r : Rec) → sizes (record_fields next r) ≡ room r
sizes_record next r =
    let e = sizes-append (record_head next r) (Body r.body ∷ Zeros (padded_len (length r.body) - length r.body) ∷ []) in
    let h = sizes_head next r in omega arith

-- the fields of several as many as these
pub sizes_records : (rs : List Rec) → 48 + sizes (records_fields rs) ≡ used_bytes rs
sizes_records [] = refl
sizes_records (r ∷ rs) =
    let e = sizes-append (record_fields (distance r rs) r) (records_fields rs) in
    let h = sizes_record (distance r rs) r in
    let more = sizes_records rs in omega arith

-- the checks of a record: those of its head and of its padding
pub record_checks : (place next : ℕ) (bytes : List ℕ) → room_at bytes ≤ length bytes → first_wrong place (record_fields next (record_at bytes)) bytes ≡ option_or (first_wrong place (record_head next (record_at bytes)) bytes) (not_zero (place + 48 + captured_length bytes) (take (padded_len (captured_length bytes) - captured_length bytes) (drop (48 + captured_length bytes) bytes)))
record_checks place next bytes fits =
    let r = record_at bytes in
    let len = captured_length bytes in
    let size = body_is bytes fits in
    let split = first_wrong-append place (record_head next r) (Body r.body ∷ Zeros (padded_len (length r.body) - length r.body) ∷ []) bytes in
    let head = sizes_head next r in
    let on : drop len (drop 48 bytes) ≡ drop (48 + len) bytes = drop-drop len 48 bytes in
    let body : first_wrong (place + 48) (Body r.body ∷ Zeros (padded_len (length r.body) - length r.body) ∷ []) (drop 48 bytes) ≡ not_zero (place + 48 + len) (take (padded_len len - len) (drop (48 + len) bytes)) =
    option_or-none (not_zero (place + 48 + length r.body) (take (padded_len (length r.body) - length r.body) (drop (length r.body) (drop 48 bytes))))
    ∙ (ap (λ (n : ℕ). not_zero (place + 48 + n) (take (padded_len n - n) (drop n (drop 48 bytes)))) size ∙ ap (λ (l : List ℕ). not_zero (place + 48 + len) (take (padded_len len - len) l)) on) in
    split
    ∙ (ap (λ (n : ℕ). option_or (first_wrong place (record_head next r) bytes) (first_wrong (place + n) (Body r.body ∷ Zeros (padded_len (length r.body) - length r.body) ∷ []) (drop n bytes))) head
    ∙ ap (λ (o : Option DamageView). option_or (first_wrong place (record_head next r) bytes) o) body)

-- where the next head is
next_is : (left : ℕ) (r : Rec) (bytes : List ℕ) → 0 < left → distance r (records_at (left - 1) bytes) ≡ (if nat_lt 1 left then room r else 0)
next_is zero r bytes l = absurd (omega arith)
next_is (suc zero) r bytes l = refl
next_is (suc (suc n)) r bytes l =
    let e : suc (suc n) - 1 ≡ suc n = omega arith in
    let t : nat_lt 1 (suc (suc n)) ≡ true = grind (arith, nat_tests) in
    rw (e, t) refl

-- the checks of the records from one on: its own, and those of the others
records_checks : (place left : ℕ) (bytes : List ℕ) → 0 < left → room_at bytes ≤ length bytes → first_wrong place (records_fields (records_at left bytes)) bytes ≡ option_or (first_wrong place (record_fields (if nat_lt 1 left then room_at bytes else 0) (record_at bytes)) bytes) (first_wrong (place + room_at bytes) (records_fields (records_at (left - 1) (drop (room_at bytes) bytes))) (drop (room_at bytes) bytes))
records_checks place left bytes l fits =
    let r = record_at bytes in
    let rs = records_at (left - 1) (drop (room_at bytes) bytes) in
    let takes = room_is bytes fits in
    let next = next_is left r (drop (room_at bytes) bytes) l ∙ ap (λ (n : ℕ). if nat_lt 1 left then n else 0) takes in
    let size = sizes_record (distance r rs) r ∙ takes in
    ap (λ (qs : List Rec). first_wrong place (records_fields qs) bytes) (records_more left bytes l)
    ∙ (first_wrong-append place (record_fields (distance r rs) r) (records_fields rs) bytes
    ∙ (ap (λ (n : ℕ). option_or (first_wrong place (record_fields (distance r rs) r) bytes) (first_wrong (place + n) (records_fields rs) (drop n bytes))) size
    ∙ ap (λ (n : ℕ). option_or (first_wrong place (record_fields n r) bytes) (first_wrong (place + room_at bytes) (records_fields rs) (drop (room_at bytes) bytes))) next))

-- the distance as it is counted from the records before
pub distance_is : (had count : ℕ) (n : ℕ) → had < count → (if nat_lt (had + 1) count then n else 0) ≡ (if nat_lt 1 (count - had) then n else 0)
distance_is had count n l = ap (λ b. if b then n else 0) (either (nat_lt (had + 1) count) refl)
  where
    either : (b : Bool) → nat_lt (had + 1) count ≡ b → nat_lt (had + 1) count ≡ nat_lt 1 (count - had)
    either true e = let t : nat_lt 1 (count - had) ≡ true = grind (arith, nat_tests) in e ∙ sym t
    either false e = let t : nat_lt 1 (count - had) ≡ false = grind (arith, nat_tests) in e ∙ sym t

-- a record at which nothing is wrong
pub checked_more : (block : List ℕ) (place count had at : ℕ) → Checked block place count had at → had < count → first_wrong (place + at) (record_fields (if nat_lt (had + 1) count then room_at (drop at block) else 0) (record_at (drop at block))) (drop at block) ≡ None → Checked block place count (had + 1) (at + room_at (drop at block))
checked_more block place count had at checked l none =
    let rest = drop at block in
    let size = length-drop at block in
    let fits = fit_first (count - had) rest (omega arith) checked.fit in
    let here = fits.0 in
    let inside = checked.inside in
    let less : count - had - 1 ≡ count - (had + 1) = omega arith in
    let on : drop (room_at rest) rest ≡ drop (at + room_at rest) block = drop-drop (room_at rest) at block in
    let there : place + at + room_at rest ≡ place + (at + room_at rest) = omega arith in
    let split = records_checks (place + at) (count - had) rest (omega arith) here in
    let well : first_wrong (place + at) (record_fields (if nat_lt 1 (count - had) then room_at rest else 0) (record_at rest)) rest ≡ None = subst (λ (n : ℕ). first_wrong (place + at) (record_fields n (record_at rest)) rest ≡ None) (distance_is had count (room_at rest) l) none in
    record {
      inside = omega arith;
      fit = rw (less, on) at fits.1;
      wrong =
          ap (λ (n : ℕ). first_wrong n (records_fields (records_at (count - (had + 1)) (drop (at + room_at rest) block))) (drop (at + room_at rest) block)) (sym there)
          ∙ (ap (λ (b : List ℕ). first_wrong (place + at + room_at rest) (records_fields (records_at (count - (had + 1)) b)) b) (sym on)
          ∙ (ap (λ (k : ℕ). first_wrong (place + at + room_at rest) (records_fields (records_at k (drop (room_at rest) rest))) (drop (room_at rest) rest)) (sym less)
          ∙ (sym (split ∙ ap (λ (o : Option DamageView). option_or o (first_wrong (place + at + room_at rest) (records_fields (records_at (count - had - 1) (drop (room_at rest) rest))) (drop (room_at rest) rest))) well) ∙ checked.wrong)));
    }

-- a record at which something is
pub checked_wrong : (block : List ℕ) (place count had at : ℕ) (f : DamageView) → Checked block place count had at → had < count → first_wrong (place + at) (record_fields (if nat_lt (had + 1) count then room_at (drop at block) else 0) (record_at (drop at block))) (drop at block) ≡ Some f → first_wrong (place + 48) (records_fields (records_at count (drop 48 block))) (drop 48 block) ≡ Some f
checked_wrong block place count had at f checked l some =
    let rest = drop at block in
    let fits = fit_first (count - had) rest (omega arith) checked.fit in
    let split = records_checks (place + at) (count - had) rest (omega arith) fits.0 in
    let ill : first_wrong (place + at) (record_fields (if nat_lt 1 (count - had) then room_at rest else 0) (record_at rest)) rest ≡ Some f = subst (λ (n : ℕ). first_wrong (place + at) (record_fields n (record_at rest)) rest ≡ Some f) (distance_is had count (room_at rest) l) some in
    sym checked.wrong ∙ (split ∙ ap (λ (o : Option DamageView). option_or o (first_wrong (place + at + room_at rest) (records_fields (records_at (count - had - 1) (drop (room_at rest) rest))) (drop (room_at rest) rest))) ill)

-- all were
pub checked_all : (block : List ℕ) (place count at : ℕ) → Checked block place count count at → first_wrong (place + 48) (records_fields (records_at count (drop 48 block))) (drop 48 block) ≡ None
checked_all block place count at checked =
    let e : count - count ≡ 0 = omega arith in
    sym checked.wrong ∙ rw e refl

-- a block's head in two parts
head_split : (size number : ℕ) (r : Rec) (rs : List Rec) → head_of_block size number r rs ≡ head_counts size number (length (r ∷ rs)) (used_bytes (r ∷ rs)) ++ head_times (time r) (time (last_of r rs))
unfolding block_head
head_split size number r rs = refl

-- it takes 48 bytes
pub sizes_block_head : (size number : ℕ) (r : Rec) (rs : List Rec) → sizes (head_of_block size number r rs) ≡ 48
unfolding block_head
sizes_block_head size number r rs = refl

-- the zeros at a block's end
rest_checks : (place end count : ℕ) (block : List ℕ) (n : ℕ) → n + 48 ≡ end → first_wrong (place + 48 + n) (Zeros count ∷ []) (drop n (drop 48 block)) ≡ not_zero (place + end) (take count (drop end block))
rest_checks place end count block n e =
    let there : place + 48 + n ≡ place + end = omega arith in
    let on : drop n (drop 48 block) ≡ drop end block = drop-drop n 48 block ∙ ap (λ (k : ℕ). drop k block) (let s : 48 + n ≡ end = omega arith in s) in
    option_or-none (not_zero (place + 48 + n) (take count (drop n (drop 48 block))))
    ∙ (ap (λ (p : ℕ). not_zero p (take count (drop n (drop 48 block)))) there ∙ ap (λ (l : List ℕ). not_zero (place + end) (take count l)) on)

-- the checks of a block: its head's in two parts, its records', and those of the zeros after them
block_split : (size number place : ℕ) (r : Rec) (rs : List Rec) (block : List ℕ) → first_wrong place (block_fields size number (r ∷ rs)) block ≡ option_or (option_or (first_wrong place (head_counts size number (length (r ∷ rs)) (used_bytes (r ∷ rs))) block) (first_wrong (place + 32) (head_times (time r) (time (last_of r rs))) (drop 32 block))) (option_or (first_wrong (place + 48) (records_fields (r ∷ rs)) (drop 48 block)) (not_zero (place + used_bytes (r ∷ rs)) (take (size - used_bytes (r ∷ rs)) (drop (used_bytes (r ∷ rs)) block))))
block_split size number place r rs block =
    let head = head_of_block size number r rs in
    let records = records_fields (r ∷ rs) in
    let zeros = Zeros (size - used_bytes (r ∷ rs)) ∷ [] in
    let one = first_wrong-append place head (records ++ zeros) block in
    let size_is = sizes_block_head size number r rs in
    let two = first_wrong-append (place + 48) records zeros (drop 48 block) in
    let many : sizes records + 48 ≡ used_bytes (r ∷ rs) = let e = sizes_records (r ∷ rs) in omega arith in
    let three = rest_checks place (used_bytes (r ∷ rs)) (size - used_bytes (r ∷ rs)) block (sizes records) many in
    let four = ap (λ (fs : List Field). first_wrong place fs block) (head_split size number r rs) ∙ first_wrong-append place (head_counts size number (length (r ∷ rs)) (used_bytes (r ∷ rs))) (head_times (time r) (time (last_of r rs))) block in
    one
    ∙ (ap (λ (n : ℕ). option_or (first_wrong place head block) (first_wrong (place + n) (records ++ zeros) (drop n block))) size_is
    ∙ (ap (λ (o : Option DamageView). option_or o (first_wrong (place + 48) (records ++ zeros) (drop 48 block))) four
    ∙ ap (λ (o : Option DamageView). option_or (option_or (first_wrong place (head_counts size number (length (r ∷ rs)) (used_bytes (r ∷ rs))) block) (first_wrong (place + 32) (head_times (time r) (time (last_of r rs))) (drop 32 block))) o) (two ∙ ap (λ (o : Option DamageView). option_or (first_wrong (place + 48) records (drop 48 block)) o) three)))

-- so many records are as many
pub length-records_at : (n : ℕ) (bytes : List ℕ) → length (records_at n bytes) ≡ n
length-records_at zero bytes = refl
length-records_at (suc n) bytes = ap suc (length-records_at n (drop (room_at bytes) bytes))

-- the same of a block that is laid out, with what its layout says
pub block_checks : (number place : ℕ) (block : List ℕ) (layout : Layout) → IsLayout block layout → first_wrong place (block_fields (length block) number (records_of block)) block ≡ option_or (option_or (first_wrong place (head_counts (length block) number layout.count layout.end) block) (first_wrong (place + 32) (head_times (time (record_at (drop 48 block))) (time (record_at (drop layout.last block)))) (drop 32 block))) (option_or (first_wrong (place + 48) (records_fields (records_at layout.count (drop 48 block))) (drop 48 block)) (not_zero (place + layout.end) (drop layout.end block)))
block_checks number place block layout laid =
    let size = length block in
    let r = record_at (drop 48 block) in
    let rs = records_at (count_of block - 1) (drop (room_at (drop 48 block)) (drop 48 block)) in
    let count = laid.count in
    let some = laid.some in
    let first : records_of block ≡ r ∷ rs = records_more (count_of block) (drop 48 block) (omega arith) in
    let many : length (r ∷ rs) ≡ layout.count = ap (λ (qs : List Rec). length qs) (sym first) ∙ (length-records_at (count_of block) (drop 48 block) ∙ sym count) in
    let end : used_bytes (r ∷ rs) ≡ layout.end = ap used_bytes (sym first) ∙ sym laid.end in
    let last : last_of r rs ≡ record_at (drop layout.last block) = ap (λ (qs : List Rec). last_of r qs) (sym first) ∙ sym laid.last in
    let records : records_fields (r ∷ rs) ≡ records_fields (records_at layout.count (drop 48 block)) = ap records_fields (sym first ∙ ap (λ (n : ℕ). records_at n (drop 48 block)) (sym count)) in
    let length_is = length-drop layout.end block in
    let whole : take (size - layout.end) (drop layout.end block) ≡ drop layout.end block = take_all (size - layout.end) (drop layout.end block) (omega arith) in
    ap (λ (qs : List Rec). first_wrong place (block_fields size number qs) block) first
    ∙ (block_split size number place r rs block
    ∙ (ap (λ (n : ℕ). option_or (option_or (first_wrong place (head_counts size number n (used_bytes (r ∷ rs))) block) (first_wrong (place + 32) (head_times (time r) (time (last_of r rs))) (drop 32 block))) (option_or (first_wrong (place + 48) (records_fields (r ∷ rs)) (drop 48 block)) (not_zero (place + used_bytes (r ∷ rs)) (take (size - used_bytes (r ∷ rs)) (drop (used_bytes (r ∷ rs)) block))))) many
    ∙ (ap (λ (n : ℕ). option_or (option_or (first_wrong place (head_counts size number layout.count n) block) (first_wrong (place + 32) (head_times (time r) (time (last_of r rs))) (drop 32 block))) (option_or (first_wrong (place + 48) (records_fields (r ∷ rs)) (drop 48 block)) (not_zero (place + n) (take (size - n) (drop n block))))) end
    ∙ (ap (λ (q : Rec). option_or (option_or (first_wrong place (head_counts size number layout.count layout.end) block) (first_wrong (place + 32) (head_times (time r) (time q)) (drop 32 block))) (option_or (first_wrong (place + 48) (records_fields (r ∷ rs)) (drop 48 block)) (not_zero (place + layout.end) (take (size - layout.end) (drop layout.end block))))) last
    ∙ (ap (λ (fs : List Field). option_or (option_or (first_wrong place (head_counts size number layout.count layout.end) block) (first_wrong (place + 32) (head_times (time r) (time (record_at (drop layout.last block)))) (drop 32 block))) (option_or (first_wrong (place + 48) fs (drop 48 block)) (not_zero (place + layout.end) (take (size - layout.end) (drop layout.end block))))) records
    ∙ ap (λ (l : List ℕ). option_or (option_or (first_wrong place (head_counts size number layout.count layout.end) block) (first_wrong (place + 32) (head_times (time r) (time (record_at (drop layout.last block)))) (drop 32 block))) (option_or (first_wrong (place + 48) (records_fields (records_at layout.count (drop 48 block))) (drop 48 block)) (not_zero (place + layout.end) l))) whole)))))

-- the first of two checks that are the same
pub or_both : {a b c d : Option DamageView} → a ≡ b → c ≡ d → option_or a c ≡ option_or b d
or_both {a} {b} {c} {d} e f = ap (λ (o : Option DamageView). option_or o c) e ∙ ap (λ (o : Option DamageView). option_or b o) f

-- a record's check at the bytes and with the distance that were found
pub found_there : (place count had next taken_is : ℕ) (rest bytes : List ℕ) → bytes ≡ rest → taken_is ≡ room_at rest → next ≡ (if nat_lt (had + 1) count then taken_is else 0) → first_wrong place (record_fields next (record_at bytes)) bytes ≡ first_wrong place (record_fields (if nat_lt (had + 1) count then room_at rest else 0) (record_at rest)) rest
found_there place count had next taken_is rest bytes back size step =
    ap (λ (l : List ℕ). first_wrong place (record_fields next (record_at l)) l) back
    ∙ ap (λ (n : ℕ). first_wrong place (record_fields n (record_at rest)) rest) (step ∙ ap (λ (n : ℕ). if nat_lt (had + 1) count then n else 0) size)
