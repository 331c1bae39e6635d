-- Nothing is wrong with the text of records that a file can be made of.
use Rattle.std.proofs.Common.{◌≡◌, ℕ, zero, suc, ◌+◌, ◌-◌, ◌*◌, ◌^◌, ◌<◌, ◌≤◌, true, false, List, [], ◌∷◌, ◌++◌, append_assoc, append-nil, length, length-append, take, drop, Option, None, refl, sym, ap, ◌∙◌, subst, arith}
use Rattle.std.specs.Prelude.{nat_lt, nat_eq, All, replicate}
use Rattle.std.specs.Option.{option_or}
use Rattle.std.proofs.lemmas.List.{drop_at, take_at, length-replicate}
use Rattle.std.proofs.lemmas.Bool.Decides.{nat_tests}
use Rattle.byteorder.specs.Endian.{little_number}
use Rattle.byteorder.specs.Numbers.{little_number-reads_back}
use Rattle.st_base.specs.Records.{Rec, InRange}
use Rattle.st_base.specs.Damages.{DamageView}
use Rattle.st_block.specs.Fields.{Field, Number, Any, Nanoseconds, Zeros, Body, size_of, text_of, text, not_same, above, not_zero, field_wrong, first_wrong}
use Rattle.st_block.specs.BlockText.{padded_len, room, used_bytes, distance, last_of, record_head, record_fields, records_fields, block_head, head_of_block, block_fields, block_text}
use Rattle.st_block.specs.Checks.{captured_length, room_at, record_at, records_at, count_of, layout_from}
use Rattle.st_block.specs.Layout.{RecordsFit}
use Rattle.st_block.proofs.Texts.{text-append, length-text, length-text_of}
use Rattle.st_block.proofs.Rooms.{all_first, all_more}
use Rattle.st_block.proofs.Checking.{sizes_record}

-- a field's number fits its bytes
abbrev pub FitsField : Field → Type 0
FitsField (Number width n) = n < 256 ^ width
FitsField (Any width n) = Unit {0}
FitsField (Nanoseconds n) = n < 1000000000
FitsField (Zeros count) = Unit {0}
FitsField (Body bytes) = Unit {0}

abbrev pub FitFields : List Field → Type 0
FitFields [] = Unit {0}
FitFields (f ∷ fields) = FitsField f × FitFields fields

fit-append : (xs ys : List Field) → FitFields xs → FitFields ys → FitFields (xs ++ ys)
fit-append [] ys one two = two
fit-append (f ∷ xs) ys (h, one) two = (h, fit-append xs ys one two)

-- zeros are
zeros_good : (place count : ℕ) → not_zero place (replicate count 0) ≡ None
zeros_good place zero = refl
zeros_good place (suc n) = zeros_good (place + 1) n

-- a number that is found as it is wanted
same_good : (place n : ℕ) → not_same place n n ≡ None
same_good place n = let t : nat_eq n n ≡ true = grind (arith, nat_tests) in rw t refl

below_good : (place n : ℕ) → n < 1000000000 → above place n 999999999 ≡ None
below_good place n l = let t : nat_lt 999999999 n ≡ false = grind (arith, nat_tests) in rw t refl

-- nothing is wrong at a field's text
field_good : (place : ℕ) (f : Field) (rest : List ℕ) → FitsField f → field_wrong place f (text_of f ++ rest) ≡ None
field_good place (Number width n) rest l =
    ap (λ (m : ℕ). not_same place m n) (little_number-reads_back width n rest l) ∙ same_good place n
field_good place (Any width n) rest l = refl
field_good place (Nanoseconds n) rest l =
    ap (λ (m : ℕ). above place m 999999999) (little_number-reads_back 4 n rest (let k : n < 256 ^ 4 = omega arith in k)) ∙ below_good place n l
field_good place (Zeros count) rest l =
    ap (not_zero place) (take_at (replicate count 0) rest count (length-replicate count 0)) ∙ zeros_good place count
field_good place (Body bytes) rest l = refl

-- nor at that of several
pub fields_good : (place : ℕ) (fields : List Field) (rest : List ℕ) → FitFields fields → first_wrong place fields (text fields ++ rest) ≡ None
fields_good place [] rest fit = refl
fields_good place (f ∷ fields) rest (h, fit) =
    let all : (text_of f ++ text fields) ++ rest ≡ text_of f ++ (text fields ++ rest) = append_assoc (text_of f) (text fields) rest in
    let after : drop (size_of f) (text_of f ++ (text fields ++ rest)) ≡ text fields ++ rest = drop_at (text_of f) (text fields ++ rest) (size_of f) (length-text_of f) in
    ap (λ (l : List ℕ). option_or (field_wrong place f l) (first_wrong (place + size_of f) fields (drop (size_of f) l))) all
    ∙ (ap (λ (o : Option DamageView). option_or o (first_wrong (place + size_of f) fields (drop (size_of f) (text_of f ++ (text fields ++ rest))))) (field_good place f (text fields ++ rest) h)
    ∙ (ap (λ (l : List ℕ). first_wrong (place + size_of f) fields l) after ∙ fields_good (place + size_of f) fields rest fit))

-- a record's text in two parts
record_split : (next : ℕ) (r : Rec) (rest : List ℕ) → text (record_fields next r) ++ rest ≡ text (record_head next r) ++ (r.body ++ (replicate (padded_len (length r.body) - length r.body) 0 ++ rest))
record_split next r rest =
    let zeros = replicate (padded_len (length r.body) - length r.body) 0 in
    ap (λ (l : List ℕ). l ++ rest) (text-append (record_head next r) (Body r.body ∷ Zeros (padded_len (length r.body) - length r.body) ∷ []) ∙ ap (λ (l : List ℕ). text (record_head next r) ++ (r.body ++ l)) (append-nil zeros))
    ∙ (append_assoc (text (record_head next r)) (r.body ++ zeros) rest ∙ ap (λ (l : List ℕ). text (record_head next r) ++ l) (append_assoc r.body zeros rest))

-- the numbers of a record's head are read back
captured_back : (next : ℕ) (r : Rec) (rest : List ℕ) → length r.body < 2 ^ 32 → captured_length (text (record_head next r) ++ rest) ≡ length r.body
unfolding record_head captured_length
captured_back next r rest l = little_number-reads_back 4 (length r.body) (drop 16 (text (record_head next r) ++ rest)) l

record_back : (next : ℕ) (r : Rec) (rest : List ℕ) → InRange r → record_at (text (record_head next r) ++ (r.body ++ rest)) ≡ r
unfolding record_head record_at
record_back next r rest range =
    let t = text (record_head next r) ++ (r.body ++ rest) in
    let n : r.nsec < 256 ^ 4 = let h = range.nsec in omega (arith, h) in
    let sec : little_number 4 (drop 4 t) ≡ r.sec = little_number-reads_back 4 r.sec (drop 8 t) range.sec in
    let nsec : little_number 4 (drop 8 t) ≡ r.nsec = little_number-reads_back 4 r.nsec (drop 12 t) n in
    let orig : little_number 4 (drop 16 t) ≡ r.orig = little_number-reads_back 4 r.orig (drop 20 t) range.orig in
    let body : take (captured_length t) (drop 48 t) ≡ r.body = ap (λ (k : ℕ). take k (drop 48 t)) (captured_back next r (r.body ++ rest) range.body) ∙ take_at r.body rest (length r.body) refl in
    λ i. record { sec = sec i; nsec = nsec i; orig = orig i; body = body i }

-- the first record of some, and the bytes after it
pub first_back : (next : ℕ) (r : Rec) (rest : List ℕ) → InRange r → (record_at (text (record_fields next r) ++ rest) ≡ r) × (room_at (text (record_fields next r) ++ rest) ≡ room r) × (drop (room r) (text (record_fields next r) ++ rest) ≡ rest)
first_back next r rest range =
    let split = record_split next r rest in
    let tail = replicate (padded_len (length r.body) - length r.body) 0 ++ rest in
    let size : length (text (record_fields next r)) ≡ room r = length-text (record_fields next r) ∙ sizes_record next r in
    (ap record_at split ∙ record_back next r tail range, ap room_at split ∙ ap (λ (n : ℕ). 48 + padded_len n) (captured_back next r (r.body ++ tail) range.body), drop_at (text (record_fields next r)) rest (room r) size)

-- the records are read back, and fit
pub records_back : (rs : List Rec) (rest : List ℕ) → All InRange rs → (records_at (length rs) (text (records_fields rs) ++ rest) ≡ rs) × RecordsFit (length rs) (text (records_fields rs) ++ rest)
records_back [] rest range = (refl, tt)
records_back (r ∷ rs) rest range =
    let fields = record_fields (distance r rs) r in
    let more = text (records_fields rs) ++ rest in
    let all : text (records_fields (r ∷ rs)) ++ rest ≡ text fields ++ more = ap (λ (l : List ℕ). l ++ rest) (text-append fields (records_fields rs)) ∙ append_assoc (text fields) (text (records_fields rs)) rest in
    let back = first_back (distance r rs) r more (all_first InRange r rs range) in
    let after : drop (room_at (text fields ++ more)) (text fields ++ more) ≡ more = ap (λ (n : ℕ). drop n (text fields ++ more)) back.1 ∙ back.2 in
    let others = records_back rs rest (all_more InRange r rs range) in
    let here : room_at (text fields ++ more) ≤ length (text fields ++ more) = let l = length-append (text fields) more in let s = length-text fields ∙ sizes_record (distance r rs) r in let t = back.1 in omega arith in
    let is : records_at (length (r ∷ rs)) (text fields ++ more) ≡ r ∷ rs = (λ i. back.0 i ∷ records_at (length rs) (after i)) ∙ ap (λ (qs : List Rec). r ∷ qs) others.0 in
    (ap (λ (l : List ℕ). records_at (length (r ∷ rs)) l) all ∙ is, subst (RecordsFit (length (r ∷ rs))) (sym all) (here, subst (RecordsFit (length rs)) (sym after) others.1))

-- records that fit can be laid out
pub layout_good : (place count n at : ℕ) (bytes : List ℕ) → RecordsFit n bytes → layout_from place count n at bytes ≡ None
layout_good place count zero at bytes fit = refl
layout_good place count (suc n) at bytes (here, fit) =
    let t1 : nat_lt (length bytes) 48 ≡ false = grind (arith, nat_tests) in
    let t2 : nat_lt (length bytes) (room_at bytes) ≡ false = grind (arith, nat_tests) in
    rw (t1, t2) (layout_good place count n (at + room_at bytes) (drop (room_at bytes) bytes) fit)

-- a block's text in its parts
pub block_parts : (size number : ℕ) (r : Rec) (rs : List Rec) → block_text size number (r ∷ rs) ≡ text (head_of_block size number r rs) ++ (text (records_fields (r ∷ rs)) ++ replicate (size - used_bytes (r ∷ rs)) 0)
block_parts size number r rs =
    let zeros = Zeros (size - used_bytes (r ∷ rs)) ∷ [] in
    text-append (head_of_block size number r rs) (records_fields (r ∷ rs) ++ zeros)
    ∙ ap (λ (l : List ℕ). text (head_of_block size number r rs) ++ l) (text-append (records_fields (r ∷ rs)) zeros ∙ ap (λ (l : List ℕ). text (records_fields (r ∷ rs)) ++ l) (append-nil (replicate (size - used_bytes (r ∷ rs)) 0)))

-- the number of records is read back
pub count_back : (size number : ℕ) (r : Rec) (rs : List Rec) (rest : List ℕ) → length (r ∷ rs) < 2 ^ 32 → count_of (text (head_of_block size number r rs) ++ rest) ≡ length (r ∷ rs)
unfolding block_head count_of
count_back size number r rs rest l = little_number-reads_back 4 (length (r ∷ rs)) (drop 16 (text (head_of_block size number r rs) ++ rest)) l

-- records take bytes
pub count_used : (rs : List Rec) → 48 * length rs ≤ used_bytes rs
count_used [] = omega arith
count_used (r ∷ rs) = let e = count_used rs in omega (arith, e)

pub last_range : (r : Rec) (rs : List Rec) → All InRange (r ∷ rs) → InRange (last_of r rs)
last_range r [] range = all_first InRange r [] range
last_range r (q ∷ rs) range = last_range q rs (all_more InRange r (q ∷ rs) range)

-- all fields of a block fit
head_fit : (size number : ℕ) (r : Rec) (rs : List Rec) → size ≤ 1048576 → number < 4095 → used_bytes (r ∷ rs) ≤ size → length (r ∷ rs) < 2 ^ 32 → InRange r → InRange (last_of r rs) → FitFields (head_of_block size number r rs)
unfolding block_head
head_fit size number r rs m n l c range last =
    let a = range.nsec in
    let b = last.nsec in
    (omega arith, (omega arith, (omega arith, (c, (omega arith, (omega arith, (omega arith, (range.sec, (omega arith, (last.sec, (omega arith, tt)))))))))))

record_fit : (next : ℕ) (r : Rec) → next < 2 ^ 32 → InRange r → FitFields (record_fields next r)
unfolding record_head
record_fit next r l range = (l, (tt, (range.nsec, (tt, (tt, (omega arith, (omega arith, (omega arith, (tt, (tt, (tt, tt)))))))))))

distance_fit : (r : Rec) (rs : List Rec) → used_bytes (r ∷ rs) ≤ 1048576 → distance r rs < 2 ^ 32
distance_fit r [] l = omega arith
distance_fit r (q ∷ rs) l = omega arith

records_fit : (rs : List Rec) → used_bytes rs ≤ 1048576 → All InRange rs → FitFields (records_fields rs)
records_fit [] l range = tt
records_fit (r ∷ rs) l range =
    fit-append (record_fields (distance r rs) r) (records_fields rs) (record_fit (distance r rs) r (distance_fit r rs l) (all_first InRange r rs range)) (records_fit rs (omega arith) (all_more InRange r rs range))

-- the first captured length is read back
pub captured_first : (r : Rec) (rs : List Rec) (rest : List ℕ) → InRange r → captured_length (text (records_fields (r ∷ rs)) ++ rest) ≡ length r.body
captured_first r rs rest range =
    let fields = record_fields (distance r rs) r in
    let more = text (records_fields rs) ++ rest in
    let all : text (records_fields (r ∷ rs)) ++ rest ≡ text fields ++ more = ap (λ (l : List ℕ). l ++ rest) (text-append fields (records_fields rs)) ∙ append_assoc (text fields) (text (records_fields rs)) rest in
    let tail = replicate (padded_len (length r.body) - length r.body) 0 ++ more in
    ap captured_length (all ∙ record_split (distance r rs) r more) ∙ captured_back (distance r rs) r (r.body ++ tail) range.body

-- all fields of a block fit
pub block_fit : (size number : ℕ) (r : Rec) (rs : List Rec) → size ≤ 1048576 → number < 4095 → used_bytes (r ∷ rs) ≤ size → length (r ∷ rs) < 2 ^ 32 → All InRange (r ∷ rs) → FitFields (block_fields size number (r ∷ rs))
block_fit size number r rs m n l c range =
    let head = head_fit size number r rs m n l c (all_first InRange r rs range) (last_range r rs range) in
    let records = records_fit (r ∷ rs) (omega arith) range in
    fit-append (head_of_block size number r rs) (records_fields (r ∷ rs) ++ Zeros (size - used_bytes (r ∷ rs)) ∷ []) head (fit-append (records_fields (r ∷ rs)) (Zeros (size - used_bytes (r ∷ rs)) ∷ []) records (tt, tt))
