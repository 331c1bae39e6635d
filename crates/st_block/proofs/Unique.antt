-- The bytes of a file are those of one block size and one list of records only.
use Rattle.std.proofs.Common.{◌≡◌, ℕ, ◌+◌, ◌-◌, ◌<◌, ◌≤◌, ◌^◌, List, [], ◌∷◌, ◌++◌, length, length-append, take, drop, refl, sym, ap, ◌∙◌, subst, arith, append_assoc}
use Rattle.std.specs.Prelude.{replicate, All}
use Rattle.std.specs.List.{flat_map}
use Rattle.std.proofs.lemmas.List.{drop_at, take_at, get_or_append_left}
use Rattle.byteorder.specs.Endian.{little_number}
use Rattle.byteorder.specs.Numbers.{little_number-reads_back}
use Rattle.st_base.specs.Records.{Rec, InRange}
use Rattle.st_block.specs.Fields.{text}
use Rattle.st_block.specs.BlockText.{padded_len, room, used_bytes, record_head, record_fields, distance, records_fields, block_head, head_of_block, block_text, blocks, blocks_text, BlockText, AreFilled, HasFile}
use Rattle.st_block.specs.Laws.{OneBlock, OneFile}
use Rattle.st_block.proofs.Texts.{text-append, length-text}
use Rattle.st_block.proofs.Rooms.{all_first, all_more, flat_blocks, file_fills}
use Rattle.st_block.proofs.Standing.{size_head, length_record, record_split, block_split, size_block_head, length_block}

-- what is read of a record's head, whatever stands after it
sec_of : (next : ℕ) (r : Rec) (rest : List ℕ) → r.sec < 256 ^ 4 → little_number 4 (drop 4 (text (record_head next r) ++ rest)) ≡ r.sec
unfolding record_head
sec_of next r rest l = little_number-reads_back 4 r.sec (drop 8 (text (record_head next r)) ++ rest) l

nsec_of : (next : ℕ) (r : Rec) (rest : List ℕ) → r.nsec < 256 ^ 4 → little_number 4 (drop 8 (text (record_head next r) ++ rest)) ≡ r.nsec
unfolding record_head
nsec_of next r rest l = little_number-reads_back 4 r.nsec (drop 12 (text (record_head next r)) ++ rest) l

len_of : (next : ℕ) (r : Rec) (rest : List ℕ) → length r.body < 256 ^ 4 → little_number 4 (drop 12 (text (record_head next r) ++ rest)) ≡ length r.body
unfolding record_head
len_of next r rest l = little_number-reads_back 4 (length r.body) (drop 16 (text (record_head next r)) ++ rest) l

orig_of : (next : ℕ) (r : Rec) (rest : List ℕ) → r.orig < 256 ^ 4 → little_number 4 (drop 16 (text (record_head next r) ++ rest)) ≡ r.orig
unfolding record_head
orig_of next r rest l = little_number-reads_back 4 r.orig (drop 20 (text (record_head next r)) ++ rest) l

-- what is read of a block's head
size_read : (size number : ℕ) (r : Rec) (rs : List Rec) (rest : List ℕ) → size < 256 ^ 4 → little_number 4 (drop 4 (text (head_of_block size number r rs) ++ rest)) ≡ size
unfolding block_head
size_read size number r rs rest l = little_number-reads_back 4 size (drop 8 (text (head_of_block size number r rs)) ++ rest) l

count_read : (size number : ℕ) (r : Rec) (rs : List Rec) (rest : List ℕ) → length (r ∷ rs) < 256 ^ 4 → little_number 4 (drop 12 (text (head_of_block size number r rs) ++ rest)) ≡ length (r ∷ rs)
unfolding block_head
count_read size number r rs rest l = little_number-reads_back 4 (length (r ∷ rs)) (drop 16 (text (head_of_block size number r rs)) ++ rest) l

-- the parts of a record, and what stands after it
spread : (d : ℕ) (r : Rec) (xs : List ℕ) → text (record_fields d r) ++ xs ≡ text (record_head d r) ++ (r.body ++ (replicate (padded_len (length r.body) - length r.body) 0 ++ xs))
spread d r xs =
    let zeros : List ℕ = replicate (padded_len (length r.body) - length r.body) 0 in
    ap (λ l. l ++ xs) (record_split d r)
    ∙ append_assoc (text (record_head d r)) (r.body ++ zeros) xs
    ∙ ap (λ l. text (record_head d r) ++ l) (append_assoc r.body zeros xs)

head_size : (d : ℕ) (r : Rec) → length (text (record_head d r)) ≡ 48
head_size d r = length-text (record_head d r) ∙ size_head d r

-- two records whose texts begin the same bytes are one
record_same : (d e : ℕ) (r q : Rec) (xs ys : List ℕ) → InRange r → InRange q → text (record_fields d r) ++ xs ≡ text (record_fields e q) ++ ys → r ≡ q
record_same d e r q xs ys a b same =
    let zs : List ℕ = replicate (padded_len (length r.body) - length r.body) 0 ++ xs in
    let ws : List ℕ = replicate (padded_len (length q.body) - length q.body) 0 ++ ys in
    let left : text (record_fields d r) ++ xs ≡ text (record_head d r) ++ (r.body ++ zs) = spread d r xs in
    let right : text (record_fields e q) ++ ys ≡ text (record_head e q) ++ (q.body ++ ws) = spread e q ys in
    let all : text (record_head d r) ++ (r.body ++ zs) ≡ text (record_head e q) ++ (q.body ++ ws) = sym left ∙ same ∙ right in
    let n : r.nsec < 256 ^ 4 = let h = a.nsec in omega (arith, h) in
    let m : q.nsec < 256 ^ 4 = let h = b.nsec in omega (arith, h) in
    let sec : r.sec ≡ q.sec = sym (sec_of d r (r.body ++ zs) a.sec) ∙ ap (λ l. little_number 4 (drop 4 l)) all ∙ sec_of e q (q.body ++ ws) b.sec in
    let nsec : r.nsec ≡ q.nsec = sym (nsec_of d r (r.body ++ zs) n) ∙ ap (λ l. little_number 4 (drop 8 l)) all ∙ nsec_of e q (q.body ++ ws) m in
    let len : length r.body ≡ length q.body = sym (len_of d r (r.body ++ zs) a.body) ∙ ap (λ l. little_number 4 (drop 12 l)) all ∙ len_of e q (q.body ++ ws) b.body in
    let orig : r.orig ≡ q.orig = sym (orig_of d r (r.body ++ zs) a.orig) ∙ ap (λ l. little_number 4 (drop 16 l)) all ∙ orig_of e q (q.body ++ ws) b.orig in
    let after : r.body ++ zs ≡ q.body ++ ws =
    sym (drop_at (text (record_head d r)) (r.body ++ zs) 48 (head_size d r)) ∙ ap (drop 48) all ∙ drop_at (text (record_head e q)) (q.body ++ ws) 48 (head_size e q) in
    let body : r.body ≡ q.body = sym (take_at r.body zs (length r.body) refl) ∙ ap (take (length r.body)) after ∙ take_at q.body ws (length r.body) (sym len) in
    λ i. record { sec = sec i; nsec = nsec i; orig = orig i; body = body i }

-- as many records whose texts begin the same bytes are the same
records_same : (rs qs : List Rec) (xs ys : List ℕ) → length rs ≡ length qs → All InRange rs → All InRange qs → text (records_fields rs) ++ xs ≡ text (records_fields qs) ++ ys → rs ≡ qs
records_same [] [] xs ys l a b same = refl
records_same [] (q ∷ qs) xs ys l a b same = absurd (omega (arith, l))
records_same (r ∷ rs) [] xs ys l a b same = absurd (omega (arith, l))
records_same (r ∷ rs) (q ∷ qs) xs ys l a b same =
    let d : ℕ = distance r rs in
    let e : ℕ = distance q qs in
    let zs : List ℕ = text (records_fields rs) ++ xs in
    let ws : List ℕ = text (records_fields qs) ++ ys in
    let left : text (records_fields (r ∷ rs)) ++ xs ≡ text (record_fields d r) ++ zs =
    ap (λ t. t ++ xs) (text-append (record_fields d r) (records_fields rs)) ∙ append_assoc (text (record_fields d r)) (text (records_fields rs)) xs in
    let right : text (records_fields (q ∷ qs)) ++ ys ≡ text (record_fields e q) ++ ws =
    ap (λ t. t ++ ys) (text-append (record_fields e q) (records_fields qs)) ∙ append_assoc (text (record_fields e q)) (text (records_fields qs)) ys in
    let all : text (record_fields d r) ++ zs ≡ text (record_fields e q) ++ ws = sym left ∙ same ∙ right in
    let first : r ≡ q = record_same d e r q zs ws (all_first InRange r rs a) (all_first InRange q qs b) all in
    let size : length (text (record_fields e q)) ≡ room r = length_record e q ∙ ap room (sym first) in
    let after : zs ≡ ws = sym (drop_at (text (record_fields d r)) zs (room r) (length_record d r)) ∙ ap (drop (room r)) all ∙ drop_at (text (record_fields e q)) ws (room r) size in
    let more : rs ≡ qs = records_same rs qs xs ys (omega (arith, l)) (all_more InRange r rs a) (all_more InRange q qs b) after in
    λ i. first i ∷ more i

-- there are no more records than used bytes
few_records : (rs : List Rec) → length rs + 48 ≤ used_bytes rs
few_records [] = omega arith
few_records (r ∷ rs) = let e = few_records rs in omega (arith, e)

-- a block's bytes are those of one list of records
block_same : (size number : ℕ) (b c : List Rec) → 1 ≤ length b → 1 ≤ length c → used_bytes b ≤ size → used_bytes c ≤ size → size ≤ 1048576 → All InRange b → All InRange c → block_text size number b ≡ block_text size number c → b ≡ c
block_same size number [] c some more fits others most a e same = absurd (omega (arith, some))
block_same size number (r ∷ rs) [] some more fits others most a e same = absurd (omega (arith, more))
block_same size number (r ∷ rs) (q ∷ qs) some more fits others most a e same =
    let xs : List ℕ = replicate (size - used_bytes (r ∷ rs)) 0 in
    let ys : List ℕ = replicate (size - used_bytes (q ∷ qs)) 0 in
    let zs : List ℕ = text (records_fields (r ∷ rs)) ++ xs in
    let ws : List ℕ = text (records_fields (q ∷ qs)) ++ ys in
    let all : text (head_of_block size number r rs) ++ zs ≡ text (head_of_block size number q qs) ++ ws = sym (block_split size number r rs) ∙ same ∙ block_split size number q qs in
    let few = few_records (r ∷ rs) in
    let fewer = few_records (q ∷ qs) in
    let n : length (r ∷ rs) < 256 ^ 4 = omega (arith, few, fits, most) in
    let m : length (q ∷ qs) < 256 ^ 4 = omega (arith, fewer, others, most) in
    let count : length (r ∷ rs) ≡ length (q ∷ qs) = sym (count_read size number r rs zs n) ∙ ap (λ l. little_number 4 (drop 12 l)) all ∙ count_read size number q qs ws m in
    let left = length-text (head_of_block size number r rs) ∙ size_block_head size number r rs in
    let right = length-text (head_of_block size number q qs) ∙ size_block_head size number q qs in
    let after : zs ≡ ws = sym (drop_at (text (head_of_block size number r rs)) zs 48 left) ∙ ap (drop 48) all ∙ drop_at (text (head_of_block size number q qs)) ws 48 right in
    records_same (r ∷ rs) (q ∷ qs) xs ys count a e after

-- what holds of all holds of those on each side
all_left : (xs ys : List Rec) → All InRange (xs ++ ys) → All InRange xs
all_left xs ys all = λ k d l. subst InRange (get_or_append_left xs ys d k l) (all k d (let e = length-append xs ys in omega (arith, e, l)))

all_right : (xs ys : List Rec) → All InRange (xs ++ ys) → All InRange ys
all_right [] ys all = all
all_right (x ∷ xs) ys all = all_right xs ys (all_more InRange x (xs ++ ys) all)

-- each record of each block is in range
abbrev EachInRange : List (List Rec) → Type 0
EachInRange [] = Unit {0}
EachInRange (b ∷ bs) = All InRange b × EachInRange bs

each_in_range : (bs : List (List Rec)) → All InRange (flat_map (λ b. b) bs) → EachInRange bs
each_in_range [] all = tt
each_in_range (b ∷ bs) all = (all_left b (flat_map (λ c. c) bs) all, each_in_range bs (all_right b (flat_map (λ c. c) bs) all))

-- the bytes of blocks are those of one list of blocks
blocks_same : (size number : ℕ) (bs cs : List (List Rec)) → size ≤ 1048576 → 1 ≤ size → AreFilled size bs → AreFilled size cs → EachInRange bs → EachInRange cs → blocks_text size number bs ≡ blocks_text size number cs → bs ≡ cs
blocks_same size number [] [] most least f g a e same = refl
blocks_same size number [] (c ∷ cs) most least f (some, fits, apart, g) a e same =
    let one = length_block size number c some fits in
    let all = ap length same ∙ length-append (block_text size number c) (blocks_text size (number + 1) cs) in
    absurd (omega (arith, one, all, least))
blocks_same size number (b ∷ bs) [] most least (some, fits, apart, f) g a e same =
    let one = length_block size number b some fits in
    let all = ap length (sym same) ∙ length-append (block_text size number b) (blocks_text size (number + 1) bs) in
    absurd (omega (arith, one, all, least))
blocks_same size number (b ∷ bs) (c ∷ cs) most least (some, fits, apart, f) (more, others, away, g) (a, as_more) (e, es_more) same =
    let left = length_block size number b some fits in
    let right = length_block size number c more others in
    let xs : List ℕ = blocks_text size (number + 1) bs in
    let ys : List ℕ = blocks_text size (number + 1) cs in
    let here : block_text size number b ≡ block_text size number c =
    sym (take_at (block_text size number b) xs size left) ∙ ap (take size) same ∙ take_at (block_text size number c) ys size right in
    let after : xs ≡ ys = sym (drop_at (block_text size number b) xs size left) ∙ ap (drop size) same ∙ drop_at (block_text size number c) ys size right in
    let first : b ≡ c = block_same size number b c some more fits others most a e here in
    let rest : bs ≡ cs = blocks_same size (number + 1) bs cs most least f g as_more es_more after in
    λ i. first i ∷ rest i

-- the block size is read off the first block
size_there : (size : ℕ) (bs : List (List Rec)) → size ≤ 1048576 → 1 ≤ length (flat_map (λ b. b) bs) → AreFilled size bs → little_number 4 (drop 4 (blocks_text size 0 bs)) ≡ size
size_there size [] most some f = absurd (omega (arith, some))
size_there size ([] ∷ bs) most some (none, fits, apart, f) = absurd (omega (arith, none))
size_there size ((r ∷ rs) ∷ bs) most some f =
    let rest : List ℕ = (text (records_fields (r ∷ rs)) ++ replicate (size - used_bytes (r ∷ rs)) 0) ++ blocks_text size 1 bs in
    let split : blocks_text size 0 ((r ∷ rs) ∷ bs) ≡ text (head_of_block size 0 r rs) ++ rest =
    ap (λ l. l ++ blocks_text size 1 bs) (block_split size 0 r rs)
    ∙ append_assoc (text (head_of_block size 0 r rs)) (text (records_fields (r ∷ rs)) ++ replicate (size - used_bytes (r ∷ rs)) 0) (blocks_text size 1 bs) in
    ap (λ l. little_number 4 (drop 4 l)) split ∙ size_read size 0 r rs rest (omega (arith, most))

size_of_file : (size : ℕ) (rs : List Rec) → HasFile size rs → little_number 4 (drop 4 (BlockText size rs)) ≡ size
size_of_file size rs h =
    let some : 1 ≤ length (flat_map (λ b. b) (blocks size rs)) = let e = ap length (flat_blocks size rs) in let s = h.some in omega (arith, e, s) in
    size_there size (blocks size rs) h.block_size.most some (file_fills size rs h.block_size h.short)

-- the records of one size
same_records : (size : ℕ) (rs qs : List Rec) → HasFile size rs → HasFile size qs → BlockText size rs ≡ BlockText size qs → rs ≡ qs
same_records size rs qs a b same =
    let least : 1 ≤ size = let e = a.block_size.least in omega (arith, e) in
    let left = each_in_range (blocks size rs) (subst (All InRange) (sym (flat_blocks size rs)) a.range) in
    let right = each_in_range (blocks size qs) (subst (All InRange) (sym (flat_blocks size qs)) b.range) in
    let all : blocks size rs ≡ blocks size qs =
    blocks_same size 0 (blocks size rs) (blocks size qs) a.block_size.most least (file_fills size rs a.block_size a.short) (file_fills size qs b.block_size b.short) left right same in
    sym (flat_blocks size rs) ∙ ap (flat_map (λ c. c)) all ∙ flat_blocks size qs

pub one_file : OneFile
one_file size other rs qs a b same =
    let sizes : size ≡ other = sym (size_of_file size rs a) ∙ ap (λ l. little_number 4 (drop 4 l)) same ∙ size_of_file other qs b in
    let there = subst (λ n. HasFile n qs) (sym sizes) b in
    (sizes, same_records size rs qs a there (same ∙ ap (λ n. BlockText n qs) (sym sizes)))

-- a builder's bytes are those of one list of records
pub one_block : OneBlock
one_block view rs qs a b range other =
    let xs : List ℕ = replicate (view.size - view.used) 0 in
    let count : length rs ≡ length qs = sym a.count ∙ b.count in
    let left = drop_at a.head (text (records_fields rs) ++ xs) 48 a.head_size in
    let right = drop_at b.head (text (records_fields qs) ++ xs) 48 b.head_size in
    let same : text (records_fields rs) ++ xs ≡ text (records_fields qs) ++ xs = sym left ∙ ap (drop 48) (sym a.bytes ∙ b.bytes) ∙ right in
    records_same rs qs xs xs count range other same
