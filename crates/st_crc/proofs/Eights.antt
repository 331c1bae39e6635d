-- The sum over bytes, taken eight or sixteen at a time.
use Rattle.std.proofs.Common.{◌≡◌, ℕ, zero, suc, ◌+◌, ◌-◌, ◌*◌, ◌/◌, ◌%◌, ◌^◌, ◌<◌, ◌≤◌, List, [], ◌∷◌, ◌++◌, length, get_or, take, drop, refl, sym, ap, ◌∙◌, arith, add-one, length-drop, length-take, drop-cons, take-append-drop}
use Rattle.std.specs.Prelude.{bit_xor, slice_index}
use Rattle.std.specs.Int.Bits.{xor_assoc, xor_zero_r}
use Rattle.std.proofs.lemmas.Nat.{xor_comm, xor_shr}
use Rattle.std.proofs.lemmas.List.{get_or-drop}
use Rattle.byteorder.specs.Endian.{little_from}
use Rattle.byteorder.specs.Numbers.{little_from-cons}
use Rattle.st_crc.specs.declared.numbers.TheConstants.{ALL_ONES}
use Rattle.st_crc.specs.Sum.{bits_out, bit_out, crc_over_byte, crc_over, crc_of}
use Rattle.st_crc.proofs.Linear.{bits_linear, zeros_out, bits_more, bytes_apart, byte_out}

-- a byte before a number, against the remainder
byte_in : (c b w : ℕ) → b < 256 → bit_xor c (b + 256 * w) ≡ bit_xor (bit_xor c b) (w * 2 ^ 8)
byte_in c b w l =
    let turned : b + 256 * w ≡ w * 256 + b = omega arith in
    let parts : b + 256 * w ≡ bit_xor b (w * 2 ^ 8) = turned ∙ sym (bytes_apart w b l) ∙ xor_comm (w * 256) b in
    ap (bit_xor c) parts ∙ sym (xor_assoc c b (w * 2 ^ 8))

-- bytes are taken as the number that they spell, lowest first
pub over_number : (c : ℕ) (bytes : List ℕ) → ((i : ℕ) → slice_index bytes i < 256) → crc_over c bytes ≡ bits_out (8 * length bytes) (bit_xor c (little_from 0 (length bytes) bytes))
unfolding crc_over bits_out crc_over_byte
over_number c [] fits = sym (xor_zero_r c)
over_number c (b ∷ bytes) fits =
    let n = length bytes in
    let w = little_from 0 n bytes in
    let more : 8 * length (b ∷ bytes) ≡ 8 + 8 * n = omega arith in
    let number : little_from 0 (length (b ∷ bytes)) (b ∷ bytes) ≡ b + 256 * w = ap (λ (x : ℕ). b + 256 * x) (little_from-cons 0 n b bytes) in
    let tail = over_number (crc_over_byte c b) bytes (λ i. fits (suc i)) in
    let eight : bits_out 8 (bit_xor c (b + 256 * w)) ≡ bit_xor (crc_over_byte c b) w =
    ap (bits_out 8) (byte_in c b w (fits 0)) ∙ bits_linear 8 (bit_xor c b) (w * 2 ^ 8) ∙ ap (bit_xor (crc_over_byte c b)) (zeros_out 8 w) in
    tail
    ∙ ap (bits_out (8 * n)) (sym eight)
    ∙ sym (bits_more 8 (8 * n) (bit_xor c (b + 256 * w)))
    ∙ ap (λ (k : ℕ). bits_out k (bit_xor c (b + 256 * w))) (sym more)
    ∙ ap (λ (x : ℕ). bits_out (8 * length (b ∷ bytes)) (bit_xor c x)) (sym number)

-- one more byte of a word, below what was read of it
lower_read : (n k w above read : ℕ) → n ≡ 8 + k → w / 256 ≡ above → read ≡ bits_out k above → bit_xor read (bits_out n (w % 256)) ≡ bits_out n w
lower_read n k w above read bits shifted e =
    rw (bits, e, sym shifted) (xor_comm (bits_out k (w / 256)) (bits_out (8 + k) (w % 256)) ∙ sym (byte_out k w))

-- a word is eight reads, the highest byte first, whether its own bits go or more
pub eight_reads : (n w : ℕ) → 8 ≤ n → w < 2 ^ 64 → bit_xor (bit_xor (bit_xor (bit_xor (bit_xor (bit_xor (bit_xor (bits_out (8 * (n - 7)) (w / 2 ^ 56 % 256)) (bits_out (8 * (n - 6)) (w / 2 ^ 48 % 256))) (bits_out (8 * (n - 5)) (w / 2 ^ 40 % 256))) (bits_out (8 * (n - 4)) (w / 2 ^ 32 % 256))) (bits_out (8 * (n - 3)) (w / 2 ^ 24 % 256))) (bits_out (8 * (n - 2)) (w / 2 ^ 16 % 256))) (bits_out (8 * (n - 1)) (w / 2 ^ 8 % 256))) (bits_out (8 * n) (w % 256)) ≡ bits_out (8 * n) w
eight_reads n w more l =
    let highest : w / 2 ^ 56 % 256 ≡ w / 2 ^ 56 = omega arith in
    let r1 = ap (bits_out (8 * (n - 7))) highest in
    let r2 = lower_read (8 * (n - 6)) (8 * (n - 7)) (w / 2 ^ 48) (w / 2 ^ 56) _ (omega arith) (omega arith) r1 in
    let r3 = lower_read (8 * (n - 5)) (8 * (n - 6)) (w / 2 ^ 40) (w / 2 ^ 48) _ (omega arith) (omega arith) r2 in
    let r4 = lower_read (8 * (n - 4)) (8 * (n - 5)) (w / 2 ^ 32) (w / 2 ^ 40) _ (omega arith) (omega arith) r3 in
    let r5 = lower_read (8 * (n - 3)) (8 * (n - 4)) (w / 2 ^ 24) (w / 2 ^ 32) _ (omega arith) (omega arith) r4 in
    let r6 = lower_read (8 * (n - 2)) (8 * (n - 3)) (w / 2 ^ 16) (w / 2 ^ 24) _ (omega arith) (omega arith) r5 in
    let r7 = lower_read (8 * (n - 1)) (8 * (n - 2)) (w / 2 ^ 8) (w / 2 ^ 16) _ (omega arith) (omega arith) r6 in
    lower_read (8 * n) (8 * (n - 1)) w (w / 2 ^ 8) _ (omega arith) (omega arith) r7

-- no bits leave it
pub no_bits : (x : ℕ) → bits_out 0 x ≡ x
unfolding bits_out
no_bits x = refl

-- a byte after a remainder, by one read
pub byte_read : (c b : ℕ) → b < 256 → bit_xor (bits_out 8 (bit_xor c b % 256)) (c / 256) ≡ crc_over_byte c b
unfolding crc_over_byte
byte_read c b l =
    let none_above : b / 256 ≡ 0 = omega arith in
    let high : bit_xor c b / 256 ≡ c / 256 = xor_shr c b 8 ∙ ap (bit_xor (c / 256)) none_above ∙ xor_zero_r (c / 256) in
    let none : bits_out 0 (bit_xor c b / 256) ≡ bit_xor c b / 256 = no_bits (bit_xor c b / 256) in
    sym (byte_out 0 (bit_xor c b) ∙ ap (bit_xor (bits_out 8 (bit_xor c b % 256))) (none ∙ high))

-- no bytes leave it
pub over_none : (c : ℕ) → crc_over c [] ≡ c
unfolding crc_over
over_none c = refl

-- the first byte, and then the others
pub over_one : (c b : ℕ) (bytes : List ℕ) → crc_over c (b ∷ bytes) ≡ crc_over (crc_over_byte c b) bytes
unfolding crc_over
over_one c b bytes = refl

-- bytes after bytes
pub over_append : (c : ℕ) (xs ys : List ℕ) → crc_over c (xs ++ ys) ≡ crc_over (crc_over c xs) ys
unfolding crc_over
over_append c [] ys = refl
over_append c (x ∷ xs) ys = over_append (crc_over_byte c x) xs ys

-- the remainder after a byte
pub over_byte_is : (c b : ℕ) → crc_over_byte c b ≡ bits_out 8 (bit_xor c b)
unfolding crc_over_byte
over_byte_is c b = refl

-- one bit more
pub bits_one : (k c : ℕ) → bits_out (suc k) c ≡ bits_out k (bit_out c)
unfolding bits_out
bits_one k c = refl

-- the ends of the sum
pub of_is : (bytes : List ℕ) → crc_of bytes ≡ bit_xor (crc_over ALL_ONES bytes) ALL_ONES
unfolding crc_of
of_is bytes = refl

-- a prefix of the bytes, and then what follows it
pub over_split : (n c : ℕ) (bytes : List ℕ) → crc_over (crc_over c (take n bytes)) (drop n bytes) ≡ crc_over c bytes
over_split n c bytes = sym (over_append c (take n bytes) (drop n bytes)) ∙ ap (crc_over c) (take-append-drop n bytes)

-- the byte at an index, and then those after it
pub over_at : (i c : ℕ) (bytes : List ℕ) → i < length bytes → crc_over (crc_over_byte c (get_or bytes i 0)) (drop (i + 1) bytes) ≡ crc_over c (drop i bytes)
over_at i c bytes l = sym (over_one c (get_or bytes i 0) (drop (i + 1) bytes)) ∙ ap (crc_over c) (sym (rw (add-one, drop-cons bytes i 0) refl))

-- no bytes are left
pub over_end : (c : ℕ) (bytes : List ℕ) → length bytes ≡ 0 → crc_over c bytes ≡ c
over_end c [] e = over_none c
over_end c (b ∷ bytes) e = absurd (omega arith)

-- all bytes were taken
pub over_all : (i c : ℕ) (bytes : List ℕ) → length bytes ≤ i → crc_over c (drop i bytes) ≡ c
over_all i c bytes l = over_end c (drop i bytes) (simp length-drop (omega arith))

-- the sum of bytes and a last one
pub of_both : (bytes : List ℕ) (kind state last : ℕ) → state ≡ crc_over ALL_ONES bytes → last ≡ crc_over_byte state kind → bit_xor last ALL_ONES ≡ crc_of (bytes ++ kind ∷ [])
of_both bytes kind state last s l =
    ap (λ (x : ℕ). bit_xor x ALL_ONES)
    (l
    ∙ ap (λ (x : ℕ). crc_over_byte x kind) s
    ∙ sym (over_none (crc_over_byte (crc_over ALL_ONES bytes) kind))
    ∙ sym (over_one (crc_over ALL_ONES bytes) kind [])
    ∙ sym (over_append ALL_ONES bytes (kind ∷ [])))
    ∙ sym (of_is (bytes ++ kind ∷ []))

-- eight bytes, read as a number and taken into the remainder
pub over_word : (c state word : ℕ) (bytes : List ℕ) → ((i : ℕ) → slice_index bytes i < 256) → length bytes ≡ 8 → c ≡ state → word ≡ little_from 0 8 bytes → bits_out 64 (bit_xor c word) ≡ crc_over state bytes
over_word c state word bytes fits size same read =
    let all : bits_out (8 * length bytes) (bit_xor state (little_from 0 (length bytes) bytes)) ≡ bits_out 64 (bit_xor state (little_from 0 8 bytes)) =
    ap (λ (n : ℕ). bits_out (8 * n) (bit_xor state (little_from 0 n bytes))) size in
    ap (λ (x : ℕ). bits_out 64 (bit_xor x word)) same
    ∙ ap (λ (x : ℕ). bits_out 64 (bit_xor state x)) read
    ∙ sym (over_number state bytes fits ∙ all)

-- the bytes of a prefix fit as all do
front_fits : (n : ℕ) (bytes : List ℕ) → ((i : ℕ) → slice_index bytes i < 256) → (i : ℕ) → slice_index (take n bytes) i < 256
front_fits zero bytes fits i = omega arith
front_fits (suc n) [] fits i = fits i
front_fits (suc n) (b ∷ bytes) fits zero = fits zero
front_fits (suc n) (b ∷ bytes) fits (suc i) = front_fits n bytes (λ j. fits (suc j)) i

-- sixteen bytes: the first eight go by twice as many bits, and the others beside them
pub over_words : (c state first second : ℕ) (bytes front back : List ℕ) → ((i : ℕ) → slice_index bytes i < 256) → length bytes ≡ 16 → front ≡ take 8 bytes → back ≡ drop 8 bytes → c ≡ state → first ≡ little_from 0 8 front → second ≡ little_from 0 8 back → bit_xor (bits_out 64 second) (bits_out 128 (bit_xor c first)) ≡ crc_over state bytes
over_words c state first second bytes front back fits size is_front is_back same read_front read_back =
    let fits_front : (i : ℕ) → slice_index front i < 256 = λ i. rw is_front (front_fits 8 bytes fits i) in
    let fits_back : (i : ℕ) → slice_index back i < 256 = λ i. rw (is_back, get_or-drop 8 bytes i 0) (fits (8 + i)) in
    let size_front : length front ≡ 8 = rw (is_front, length-take 8 bytes) (omega arith) in
    let size_back : length back ≡ 8 = rw (is_back, length-drop 8 bytes) (omega arith) in
    let near = over_word c state first front fits_front size_front same read_front in
    let far = over_word (bits_out 64 (bit_xor c first)) (crc_over state front) second back fits_back size_back near read_back in
    xor_comm (bits_out 64 second) (bits_out 128 (bit_xor c first))
    ∙ ap (λ (x : ℕ). bit_xor x (bits_out 64 second)) (bits_more 64 64 (bit_xor c first))
    ∙ sym (bits_linear 64 (bits_out 64 (bit_xor c first)) second)
    ∙ far
    ∙ rw (is_front, is_back) (over_split 8 state bytes)
