-- No check of a file fails that is the text of its records.
use Rattle.std.proofs.Common.{◌≡◌, ℕ, zero, suc, ◌+◌, ◌-◌, ◌*◌, ◌/◌, ◌^◌, ◌<◌, ◌≤◌, true, false, List, [], ◌∷◌, ◌++◌, append_assoc, append-nil, length, length-append, take, drop, min, Option, None, Some, Result, Ok, Err, refl, sym, ap, ◌∙◌, subst, arith, inl, inr}
use Rattle.std.specs.Prelude.{nat_lt, nat_eq, All, replicate, IfErr}
use Rattle.std.specs.List.{flat_map}
use Rattle.std.proofs.Math.Nat.{mul-div_cancel_left}
use Rattle.std.proofs.Math.Pow.{pow_mono}
use Rattle.std.proofs.lemmas.List.{drop_at, take_at}
use Rattle.std.proofs.lemmas.List.Elements.{All-cons, All-nil}
use Rattle.std.proofs.lemmas.Option.{none-some}
use Rattle.std.proofs.lemmas.Bool.{cases_lt}
use Rattle.std.proofs.lemmas.Bool.Decides.{nat_tests}
use Rattle.byteorder.specs.Endian.{little_number, little_bytes}
use Rattle.byteorder.specs.Numbers.{little_number-reads_back}
use Rattle.st_base.specs.Records.{Rec, InRange}
use Rattle.st_base.specs.Damages.{damage_view}
use Rattle.st_block.specs.Fields.{text, first_wrong}
use Rattle.st_block.specs.BlockText.{IsBlockSize, room, used_bytes, records_fields, block_head, head_of_block, block_fields, block_text, blocks, blocks_text, NoRoom, AreFilled}
use Rattle.st_block.specs.Checks.{captured_length, records_at, count_of, records_of, layout_from, layout_wrong, join_wrong, block_wrong, blocks_wrong, is_block_size, nearest_length, start_wrong, file_wrong}
use Rattle.st_block.specs.Position.{positions}
use Rattle.st_block.specs.ScanView.{ScanView, IsNotDamage}
use Rattle.st_block.specs.Scan.{PositionedRecord, positions_in, records_in, IsFile, GivesNext, EntersNew}
use Rattle.st_block.specs.declared.errors.HeadErr.{HeadErr}
use Rattle.st_block.specs.declared.errors.HeadErr.TheVariants as head_err
use Rattle.st_block.specs.declared.errors.BlockErr.{BlockErr}
use Rattle.st_block.specs.declared.errors.BlockErr.TheVariants as block_err
use Rattle.st_block.proofs.Texts.{length-text}
use Rattle.st_block.proofs.Rooms.{room_fits, all_first, all_more, flat_blocks, file_fills}
use Rattle.st_block.proofs.Unique.{one_file}
use Rattle.st_block.proofs.Checking.{sizes_block_head, or_both}
use Rattle.st_block.proofs.Whole.{sizes_block}
use Rattle.st_block.proofs.Good.{fields_good, captured_first, records_back, layout_good, block_parts, count_back, count_used, block_fit}

-- the parts of a block's text as a scan reads them
record Read (size number : ℕ) (r : Rec) (rs : List Rec) : Type 0 where
  count : count_of (block_text size number (r ∷ rs)) ≡ length (r ∷ rs)
  after : drop 48 (block_text size number (r ∷ rs)) ≡ text (records_fields (r ∷ rs)) ++ replicate (size - used_bytes (r ∷ rs)) 0
  records : records_of (block_text size number (r ∷ rs)) ≡ r ∷ rs

-- a block has few records
few : (size : ℕ) (rs : List Rec) → size ≤ 1048576 → used_bytes rs ≤ size → length rs < 2 ^ 32
few size rs m l = let e = count_used rs in omega (arith, e)

read_back : (size number : ℕ) (r : Rec) (rs : List Rec) → size ≤ 1048576 → used_bytes (r ∷ rs) ≤ size → All InRange (r ∷ rs) → Read size number r rs
read_back size number r rs m l range =
    let zeros : List ℕ = replicate (size - used_bytes (r ∷ rs)) 0 in
    let rest = text (records_fields (r ∷ rs)) ++ zeros in
    let parts = block_parts size number r rs in
    let head = length-text (head_of_block size number r rs) ∙ sizes_block_head size number r rs in
    let count_is : count_of (block_text size number (r ∷ rs)) ≡ length (r ∷ rs) = ap count_of parts ∙ count_back size number r rs rest (few size (r ∷ rs) m l) in
    let after_is : drop 48 (block_text size number (r ∷ rs)) ≡ rest = ap (λ (b : List ℕ). drop 48 b) parts ∙ drop_at (text (head_of_block size number r rs)) rest 48 head in
    let back = records_back (r ∷ rs) zeros range in
    record {
      count = count_is;
      after = after_is;
      records = (λ i. records_at (count_is i) (after_is i)) ∙ back.0;
    }

-- a block without a record before that its first record would have fitted
block_good : (size number : ℕ) (before : Option ℕ) (r : Rec) (rs : List Rec) → IsBlockSize size → number < 4095 → used_bytes (r ∷ rs) ≤ size → All InRange (r ∷ rs) → join_wrong size (size * number) before (block_text size number (r ∷ rs)) ≡ None → block_wrong size number before (block_text size number (r ∷ rs)) ≡ None
unfolding block_wrong
block_good size number before r rs b n l range join =
    let place = size * number in
    let most = b.most in
    let block = block_text size number (r ∷ rs) in
    let read = read_back size number r rs most l range in
    let zeros : List ℕ = replicate (size - used_bytes (r ∷ rs)) 0 in
    let back = records_back (r ∷ rs) zeros range in
    let count = read.count in
    let some : nat_eq (count_of block) 0 ≡ false = grind (arith, nat_tests) in
    let laid : layout_from place (count_of block) (count_of block) 48 (drop 48 block) ≡ None = (λ i. layout_from place (read.count i) (read.count i) 48 (read.after i)) ∙ layout_good place (length (r ∷ rs)) (length (r ∷ rs)) 48 (text (records_fields (r ∷ rs)) ++ zeros) back.1 in
    let layout : layout_wrong place block ≡ None = rw some laid in
    let fit = block_fit size number r rs most n l (few size (r ∷ rs) most l) range in
    let well = subst (λ (t : List ℕ). first_wrong place (block_fields size number (r ∷ rs)) t ≡ None) (append-nil block) (fields_good place (block_fields size number (r ∷ rs)) [] fit) in
    let fields : first_wrong place (block_fields size number (records_of block)) block ≡ None = ap (λ (qs : List Rec). first_wrong place (block_fields size number qs) block) read.records ∙ well in
    or_both layout (or_both join fields)

-- these blocks go on after one with so many used bytes, if there is one
abbrev After : ℕ → Option ℕ → List (List Rec) → Type 0
After size None bs = Unit {0}
After size (Some u) [] = Unit {0}
After size (Some u) ([] ∷ bs) = ⊥
After size (Some u) ((r ∷ rs) ∷ bs) = (c : List Rec) × (u ≡ used_bytes c) × (size < used_bytes c + room r)

after_next : (size : ℕ) (b : List Rec) (bs : List (List Rec)) → NoRoom size b bs → After size (Some (used_bytes b)) bs
after_next size b [] apart = tt
after_next size b ([] ∷ bs) apart = absurd apart
after_next size b ((r ∷ rs) ∷ bs) apart = (b, refl, apart)

-- a record that had no room is as long as it must be
far : (size : ℕ) → IsBlockSize size → (c : List Rec) (r : Rec) → size < used_bytes c + room r → size - 47 - used_bytes c ≤ length r.body
far size b c r full = elim (cases_lt (length r.body) (size - 47 - used_bytes c)) [
  | inl short ↦ absurd (let fits = (room_fits size b c r).1 (omega arith) in omega arith)
  | inr long ↦ long
]

join_good : (size place number : ℕ) (before : Option ℕ) (r : Rec) (rs : List Rec) (bs : List (List Rec)) → IsBlockSize size → used_bytes (r ∷ rs) ≤ size → All InRange (r ∷ rs) → After size before ((r ∷ rs) ∷ bs) → join_wrong size place before (block_text size number (r ∷ rs)) ≡ None
join_good size place number None r rs bs b l range after = refl
join_good size place number (Some u) r rs bs b l range (c, same, full) =
    let most = b.most in
    let read = read_back size number r rs most l range in
    let len : captured_length (drop 48 (block_text size number (r ∷ rs))) ≡ length r.body = ap captured_length read.after ∙ captured_first r rs (replicate (size - used_bytes (r ∷ rs)) 0) (all_first InRange r rs range) in
    let long = far size b c r full in
    let t : nat_lt (captured_length (drop 48 (block_text size number (r ∷ rs)))) (size - 47 - u) ≡ false = grind (arith, nat_tests) in
    rw t refl

-- what holds of each of several records and of others holds of each part
all_left : (xs ys : List Rec) → All InRange (xs ++ ys) → All InRange xs
all_left [] ys all = All-nil InRange
all_left (x ∷ xs) ys all =
    All-cons InRange x xs (all_first InRange x (xs ++ ys) all) (all_left xs ys (all_more InRange x (xs ++ ys) all))

all_right : (xs ys : List Rec) → All InRange (xs ++ ys) → All InRange ys
all_right [] ys all = all
all_right (x ∷ xs) ys all = all_right xs ys (all_more InRange x (xs ++ ys) all)

-- blocks that records fill
blocks_good : (size : ℕ) → IsBlockSize size → (number : ℕ) (before : Option ℕ) (bs : List (List Rec)) → AreFilled size bs → After size before bs → All InRange (flat_map (λ (x : List Rec). x) bs) → number + length bs ≤ 4095 → blocks_wrong size (length bs) number before (blocks_text size number bs) ≡ None
blocks_good size b number before [] fill after range n = refl
blocks_good size b number before ([] ∷ bs) (some, l, apart, fill) after range n = absurd (omega arith)
blocks_good size b number before ((r ∷ rs) ∷ bs) (some, l, apart, fill) after range n =
    let block = block_text size number (r ∷ rs) in
    let rest = blocks_text size (number + 1) bs in
    let most = b.most in
    let here = all_left (r ∷ rs) (flat_map (λ (x : List Rec). x) bs) range in
    let there = all_right (r ∷ rs) (flat_map (λ (x : List Rec). x) bs) range in
    let long : length block ≡ size = length-text (block_fields size number (r ∷ rs)) ∙ sizes_block size number r rs l in
    let front : take size (block ++ rest) ≡ block = take_at block rest size long in
    let back : drop size (block ++ rest) ≡ rest = drop_at block rest size long in
    let read = read_back size number r rs most l here in
    let join = join_good size (size * number) number before r rs bs b l here after in
    let well = block_good size number before r rs b (omega arith) l here join in
    let others = blocks_good size b (number + 1) (Some (used_bytes (r ∷ rs))) bs fill (after_next size (r ∷ rs) bs apart) there (omega arith) in
    let used_is : used_bytes (records_of (take size (block ++ rest))) ≡ used_bytes (r ∷ rs) = ap (λ (t : List ℕ). used_bytes (records_of t)) front ∙ ap used_bytes read.records in
    or_both (ap (λ (t : List ℕ). block_wrong size number before t) front ∙ well) ((λ i. blocks_wrong size (length bs) (number + 1) (Some (used_is i)) (back i)) ∙ others)

-- blocks are as many bytes
length_blocks : (size number : ℕ) (bs : List (List Rec)) → AreFilled size bs → length (blocks_text size number bs) ≡ size * length bs
length_blocks size number [] fill = omega arith
length_blocks size number ([] ∷ bs) (some, l, apart, fill) = absurd (omega arith)
length_blocks size number ((r ∷ rs) ∷ bs) (some, l, apart, fill) =
    let long : length (block_text size number (r ∷ rs)) ≡ size = length-text (block_fields size number (r ∷ rs)) ∙ sizes_block size number r rs l in
    let others = length_blocks size (number + 1) bs fill in
    let both = length-append (block_text size number (r ∷ rs)) (blocks_text size (number + 1) bs) in
    let many : size * suc (length bs) ≡ size + size * length bs = omega arith in
    omega (arith, long, others, both, many)

-- the nine block sizes
power_test : (j : ℕ) → j ≤ 8 → is_block_size (2 ^ (12 + j)) ≡ true
power_test zero l = refl
power_test (suc zero) l = refl
power_test (suc (suc zero)) l = refl
power_test (suc (suc (suc zero))) l = refl
power_test (suc (suc (suc (suc zero)))) l = refl
power_test (suc (suc (suc (suc (suc zero))))) l = refl
power_test (suc (suc (suc (suc (suc (suc zero)))))) l = refl
power_test (suc (suc (suc (suc (suc (suc (suc zero))))))) l = refl
power_test (suc (suc (suc (suc (suc (suc (suc (suc zero)))))))) l = refl
power_test (suc (suc (suc (suc (suc (suc (suc (suc (suc j))))))))) l = absurd (omega arith)

pub is_size : (size : ℕ) → IsBlockSize size → is_block_size size ≡ true
is_size size b =
    let is = b.is in
    let least = b.least in
    let most = b.most in
    let low : 12 ≤ b.power = not_small b.power (omega arith) in
    let high : b.power ≤ 20 = not_large b.power (omega arith) in
    let whole : 12 + (b.power - 12) ≡ b.power = omega arith in
    ap is_block_size (is ∙ ap (λ (k : ℕ). 2 ^ k) (sym whole)) ∙ power_test (b.power - 12) (omega arith)
  where
    not_small : (k : ℕ) → 4096 ≤ 2 ^ k → 12 ≤ k
    not_small k l = elim (cases_lt k 12) [
      | inl small ↦ absurd (let p : 2 ^ k ≤ 2 ^ 11 = pow_mono (let m : k ≤ 11 = omega arith in m) in let q : 2 ^ k ≤ 2048 = p in omega arith)
      | inr large ↦ large
    ]

    not_large : (k : ℕ) → 2 ^ k ≤ 1048576 → k ≤ 20
    not_large k l = elim (cases_lt 20 k) [
      | inl large ↦ absurd (let p : 2 ^ 21 ≤ 2 ^ k = pow_mono (let m : 21 ≤ k = omega arith in m) in let q : 2097152 ≤ 2 ^ k = p in omega arith)
      | inr small ↦ small
    ]

-- whole blocks are their own nearest length
nearest_good : (size n : ℕ) → 1 ≤ size → 1 ≤ n → n ≤ 4095 → nearest_length size (size * n) ≡ size * n
nearest_good size n l some most =
    let k : size * n / size ≡ n = mul-div_cancel_left n l in
    let m : min n 4095 ≡ n = omega arith in
    let t : nat_eq n 0 ≡ false = grind (arith, nat_tests) in
    rw (k, m, t) refl

-- the first eight bytes of a block
first_eight : (size number : ℕ) (r : Rec) (rs : List Rec) (rest : List ℕ) → take 8 (text (head_of_block size number r rs) ++ rest) ≡ little_bytes 4 1 ++ little_bytes 4 size
unfolding block_head
first_eight size number r rs rest = refl

-- nothing is wrong before the first block
start_good : (size n : ℕ) → IsBlockSize size → 1 ≤ n → n ≤ 4095 → start_wrong (little_bytes 4 1 ++ little_bytes 4 size) (size * n) ≡ None
start_good size n b some most =
    let least = b.least in
    let small = b.most in
    let fit : size < 256 ^ 4 = omega arith in
    let number : little_number 4 (drop 4 (little_bytes 4 1 ++ little_bytes 4 size)) ≡ size = little_number-reads_back 4 size [] fit in
    let long : 8 ≤ size * n = long_enough size n (omega arith) some in
    let t : nat_lt (size * n) 8 ≡ false = grind (arith, nat_tests) in
    let near = nearest_good size n (omega arith) some most in
    let same : nat_eq (size * n) (nearest_length size (size * n)) ≡ true = equal (size * n) (nearest_length size (size * n)) (sym near) in
    let test = is_size size b in
    rw (t, number, test, same) refl
  where
    long_enough : (s k : ℕ) → 8 ≤ s → 1 ≤ k → 8 ≤ s * k
    long_enough s zero l m = absurd (omega arith)
    long_enough s (suc k) l m = let e : s * suc k ≡ s + s * k = omega arith in omega arith

    equal : (a c : ℕ) → a ≡ c → nat_eq a c ≡ true
    equal a c e = grind (arith, nat_tests)

-- nothing is wrong with blocks that begin a file
blocks_unhurt : (size : ℕ) (bs : List (List Rec)) → IsBlockSize size → AreFilled size bs → 1 ≤ length bs → length bs ≤ 4095 → All InRange (flat_map (λ (x : List Rec). x) bs) → file_wrong (blocks_text size 0 bs) ≡ None
unfolding file_wrong
blocks_unhurt size [] b fill some most range = absurd (omega arith)
blocks_unhurt size ([] ∷ bs) b (one, l, apart, fill) some most range = absurd (omega arith)
blocks_unhurt size ((r ∷ rs) ∷ bs) b fill some most range =
    let bytes = blocks_text size 0 ((r ∷ rs) ∷ bs) in
    let n = suc (length bs) in
    let least = b.least in
    let small = b.most in
    let fit : size < 256 ^ 4 = omega arith in
    let split : bytes ≡ text (head_of_block size 0 r rs) ++ ((text (records_fields (r ∷ rs)) ++ replicate (size - used_bytes (r ∷ rs)) 0) ++ blocks_text size 1 bs) = ap (λ (t : List ℕ). t ++ blocks_text size 1 bs) (block_parts size 0 r rs) ∙ append_assoc (text (head_of_block size 0 r rs)) (text (records_fields (r ∷ rs)) ++ replicate (size - used_bytes (r ∷ rs)) 0) (blocks_text size 1 bs) in
    let eight : take 8 bytes ≡ little_bytes 4 1 ++ little_bytes 4 size = ap (λ (t : List ℕ). take 8 t) split ∙ first_eight size 0 r rs ((text (records_fields (r ∷ rs)) ++ replicate (size - used_bytes (r ∷ rs)) 0) ++ blocks_text size 1 bs) in
    let long : length bytes ≡ size * n = length_blocks size 0 ((r ∷ rs) ∷ bs) fill in
    let size_is : little_number 4 (drop 4 (take 8 bytes)) ≡ size = ap (λ (t : List ℕ). little_number 4 (drop 4 t)) eight ∙ little_number-reads_back 4 size [] fit in
    let count : length bytes / size ≡ n = ap (λ (k : ℕ). k / size) long ∙ mul-div_cancel_left n (let z : 0 < size = omega arith in z) in
    let start = (λ i. start_wrong (eight i) (long i)) ∙ start_good size n b some most in
    let blocks_well = (λ i. blocks_wrong (size_is i) (length bytes / size_is i) 0 None bytes) ∙ (ap (λ (k : ℕ). blocks_wrong size k 0 None bytes) count ∙ blocks_good size b 0 None ((r ∷ rs) ∷ bs) fill tt range (omega arith)) in
    or_both start blocks_well

-- nor with a file that is the text of its records
pub file_unhurt : (bytes : List ℕ) (given : List PositionedRecord) → IsFile bytes given → file_wrong bytes ≡ None
file_unhurt bytes given is =
    let rs = records_in given in
    let file = is.file in
    let bs = blocks is.size rs in
    let flat = flat_blocks is.size rs in
    let fill = file_fills is.size rs file.block_size file.short in
    let some : 1 ≤ length bs = has_blocks bs rs flat file.some in
    ap file_wrong (sym is.text) ∙ blocks_unhurt is.size bs file.block_size fill some file.blocks (subst (All InRange) (sym flat) file.range)
  where
    has_blocks : (cs : List (List Rec)) (qs : List Rec) → flat_map (λ (x : List Rec). x) cs ≡ qs → 1 ≤ length qs → 1 ≤ length cs
    has_blocks [] qs e l = let z = ap (λ (ys : List Rec). length ys) e in absurd (omega arith)
    has_blocks (c ∷ cs) qs e l = omega arith

-- pairs whose parts are the same
pairs_same : (xs ys : List PositionedRecord) → positions_in xs ≡ positions_in ys → records_in xs ≡ records_in ys → xs ≡ ys
pairs_same [] [] e f = refl
pairs_same [] (y ∷ ys) e f = cc
pairs_same (x ∷ xs) [] e f = cc
pairs_same (x ∷ xs) (y ∷ ys) e f =
    let place : x.0 ≡ y.0 = cc in
    let packet : x.1 ≡ y.1 = cc in
    let others = pairs_same xs ys (let t : positions_in xs ≡ positions_in ys = cc in t) (let t : records_in xs ≡ records_in ys = cc in t) in
    λ i. (place i, packet i) ∷ others i

-- a file's bytes tell its records and their positions
pub one_given_there : (bytes : List ℕ) (xs ys : List PositionedRecord) → IsFile bytes xs → IsFile bytes ys → xs ≡ ys
one_given_there bytes xs ys a b =
    let one = one_file a.size b.size (records_in xs) (records_in ys) a.file b.file (a.text ∙ sym b.text) in
    let places_same : positions_in xs ≡ positions_in ys = sym a.heads ∙ ((λ i. positions (one.0 i) (one.1 i)) ∙ b.heads) in
    pairs_same xs ys places_same one.1

-- so a scan of a file gives no damage
pub gives_outside : (bytes : List ℕ) (given rs : List PositionedRecord) (new : ScanView) (result : Result (Option PositionedRecord) BlockErr) → IsFile bytes rs → GivesNext bytes given new result → IfErr result IsNotDamage
gives_outside bytes given rs new (Ok o) is gives = tt
gives_outside bytes given rs new (Err (block_err.Damaged d)) is gives = none-some (damage_view d) (sym (file_unhurt bytes rs is) ∙ gives)
gives_outside bytes given rs new (Err block_err.ReadFault) is gives = tt
gives_outside bytes given rs new (Err block_err.NoMemory) is gives = tt

-- nor does entering it
pub entered_outside : (bytes : List ℕ) (rs : List PositionedRecord) (e : HeadErr) → IsFile bytes rs → EntersNew bytes (Err e) → e ≡ head_err.ReadFault
entered_outside bytes rs (head_err.Damaged d) is gives = absurd (none-some (damage_view d) (sym (file_unhurt bytes rs is) ∙ gives))
entered_outside bytes rs head_err.ReadFault is gives = refl
