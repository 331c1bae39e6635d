-- The text of fields: how long it is, and that bytes at which nothing is wrong are the text.
use Rattle.std.proofs.Common.{◌≡◌, ℕ, zero, suc, ◌+◌, ◌-◌, ◌*◌, ◌/◌, ◌%◌, ◌<◌, ◌≤◌, ◌^◌, false, cond, List, [], ◌∷◌, ◌++◌, length, length-append, get_or, take, drop, Option, Some, None, refl, sym, ap, ◌∙◌, arith, append_assoc}
use Rattle.std.specs.Prelude.{nat_eq, replicate}
use Rattle.std.specs.Option.{option_or}
use Rattle.std.specs.Int.{byte_at, bytes_low_first}
use Rattle.std.proofs.Math.Nat.{div-div-eq-div-mul, pow-suc}
use Rattle.std.proofs.lemmas.List.{length-replicate, length-take-le, drop-drop, get_or-drop, length-drop}
use Rattle.std.proofs.Math.Seq.{take-add}
use Rattle.std.proofs.lemmas.Bool.{ne_eqb}
use Rattle.std.proofs.lemmas.Option.{none-some}
use Rattle.std.proofs.lemmas.Bool.Decides.{nat_tests}
use Rattle.byteorder.specs.Endian.{little_bytes, little_number, little_from}
use Rattle.byteorder.specs.Numbers.{length-bytes_low_first, little_from-cons}
use Rattle.st_base.specs.Damages.{DamageView}
use Rattle.st_block.specs.Fields.{Field, Number, Any, Nanoseconds, Zeros, Body, size_of, text_of, sizes, text, not_zero, not_same, field_wrong, first_wrong, IsRead, AreRead}

-- one text after another
pub text-append : (xs ys : List Field) → text (xs ++ ys) ≡ text xs ++ text ys
text-append [] ys = refl
text-append (f ∷ xs) ys = ap (λ t. text_of f ++ t) (text-append xs ys) ∙ sym (append_assoc (text_of f) (text xs) (text ys))

-- so many bytes as the fields say
pub sizes-append : (xs ys : List Field) → sizes (xs ++ ys) ≡ sizes xs + sizes ys
sizes-append [] ys = omega arith
sizes-append (f ∷ xs) ys = let e = sizes-append xs ys in omega (arith, e)

-- a field's text is as long as the field
pub length-text_of : (f : Field) → length (text_of f) ≡ size_of f
length-text_of (Number width n) = length-bytes_low_first 0 width n
length-text_of (Any width n) = length-bytes_low_first 0 width n
length-text_of (Nanoseconds n) = refl
length-text_of (Zeros count) = length-replicate count 0
length-text_of (Body bytes) = refl

-- and so is that of several
pub length-text : (fields : List Field) → length (text fields) ≡ sizes fields
length-text [] = refl
length-text (f ∷ fields) = length-append (text_of f) (text fields) ∙ ap (λ n. n + length (text fields)) (length-text_of f) ∙ ap (λ n. size_of f + n) (length-text fields)

-- the first of three checks
option_or-assoc : (a b c : Option DamageView) → option_or (option_or a b) c ≡ option_or a (option_or b c)
option_or-assoc None b c = refl
option_or-assoc (Some f) b c = refl

-- what is wrong first at some fields and others after them
pub first_wrong-append : (place : ℕ) (xs ys : List Field) (bytes : List ℕ) → first_wrong place (xs ++ ys) bytes ≡ option_or (first_wrong place xs bytes) (first_wrong (place + sizes xs) ys (drop (sizes xs) bytes))
first_wrong-append place [] ys bytes = ap (λ n. first_wrong n ys bytes) (let e : place ≡ place + 0 = omega arith in e)
first_wrong-append place (f ∷ xs) ys bytes =
    let more = first_wrong-append (place + size_of f) xs ys (drop (size_of f) bytes) in
    let here : place + size_of f + sizes xs ≡ place + (size_of f + sizes xs) = omega arith in
    let there : drop (sizes xs) (drop (size_of f) bytes) ≡ drop (size_of f + sizes xs) bytes = drop-drop (sizes xs) (size_of f) bytes in
    let step : first_wrong (place + size_of f + sizes xs) ys (drop (sizes xs) (drop (size_of f) bytes)) ≡ first_wrong (place + (size_of f + sizes xs)) ys (drop (size_of f + sizes xs) bytes) =
    ap (λ n. first_wrong n ys (drop (sizes xs) (drop (size_of f) bytes))) here ∙ ap (λ l. first_wrong (place + (size_of f + sizes xs)) ys l) there in
    ap (λ o. option_or (field_wrong place f bytes) o) (more ∙ ap (λ o. option_or (first_wrong (place + size_of f) xs (drop (size_of f) bytes)) o) step)
    ∙ sym (option_or-assoc (field_wrong place f bytes) (first_wrong (place + size_of f) xs (drop (size_of f) bytes)) (first_wrong (place + (size_of f + sizes xs)) ys (drop (size_of f + sizes xs) bytes)))

-- each is a byte
abbrev pub AreBytes : List ℕ → Type 0
AreBytes xs = (k : ℕ) → get_or xs k 0 < 256

-- a byte of a number is one of what is left above its lowest byte
shift : (j n : ℕ) → byte_at (suc j) n ≡ byte_at j (n / 256)
shift zero n = refl
shift (suc j) n =
    ap (λ p. n / p % 256) (pow-suc 256 (suc j)) ∙ ap (λ p. n / p % 256) (let e : 256 ^ suc j * 256 ≡ 256 * 256 ^ suc j = omega arith in e) ∙ ap (λ p. p % 256) (sym (div-div-eq-div-mul n 256 (256 ^ suc j)))

-- so are several
shifts : (j k n : ℕ) → bytes_low_first (suc j) k n ≡ bytes_low_first j k (n / 256)
shifts j zero n = refl
shifts j (suc k) n = ap (λ b. b ∷ bytes_low_first (suc (suc j)) k n) (shift j n) ∙ ap (λ l. byte_at j (n / 256) ∷ l) (shifts (suc j) k n)

-- the bytes of the number that bytes are read as are those bytes
pub number_again : (width : ℕ) (xs : List ℕ) → AreBytes xs → width ≤ length xs → little_bytes width (little_number width xs) ≡ take width xs
number_again zero xs bytes l = refl
number_again (suc k) [] bytes l = absurd (omega arith)
number_again (suc k) (x ∷ xs) bytes l =
    let first : x < 256 = bytes 0 in
    let moved : little_from 1 k (x ∷ xs) ≡ little_number k xs = little_from-cons 0 k x xs in
    let number : little_number (suc k) (x ∷ xs) ≡ x + 256 * little_number k xs = ap (λ n. x + 256 * n) moved in
    let low : (x + 256 * little_number k xs) % 256 ≡ x = omega arith in
    let high : (x + 256 * little_number k xs) / 256 ≡ little_number k xs = omega arith in
    let rest = number_again k xs (λ i. bytes (suc i)) (omega arith) in
    ap (λ n. little_bytes (suc k) n) number
    ∙ ap (λ b. b ∷ bytes_low_first 1 k (x + 256 * little_number k xs)) low
    ∙ ap (λ l. x ∷ l) (shifts 0 k (x + 256 * little_number k xs) ∙ ap (λ n. little_bytes k n) high ∙ rest)

-- the first of two checks that both hold
or_none : (a b : Option DamageView) → option_or a b ≡ None → (a ≡ None) × (b ≡ None)
or_none None b e = (refl, e)
or_none (Some f) b e = cc

-- numbers that aren't told apart
same_number : (place found want : ℕ) → not_same place found want ≡ None → found ≡ want
same_number place found want e = grind (arith, nat_tests)

-- bytes of which none is found that isn't zero
zeros_are : (place : ℕ) (bytes : List ℕ) → not_zero place bytes ≡ None → bytes ≡ replicate (length bytes) 0
zeros_are place [] e = refl
zeros_are place (zero ∷ bytes) e = ap (λ l. 0 ∷ l) (zeros_are (place + 1) bytes e)
zeros_are place (suc b ∷ bytes) e =
    let other : nat_eq (suc b) 0 ≡ false = ne_eqb (suc b) 0 (λ z. omega arith) in
    absurd (none-some (record { place = place; found = suc b; want = 0 }) (sym e ∙ ap (λ t. cond t (not_zero (place + 1) bytes) (Some (record { place = place; found = suc b; want = 0 }))) other))

-- at a field that was read off where it may be any, and at which nothing is wrong, its text stands
field_is : (place : ℕ) (f : Field) (bytes : List ℕ) → AreBytes bytes → size_of f ≤ length bytes → IsRead f bytes → field_wrong place f bytes ≡ None → take (size_of f) bytes ≡ text_of f
field_is place (Number width n) bytes b l h e =
    sym (number_again width bytes b l) ∙ ap (λ m. little_bytes width m) (same_number place (little_number width bytes) n e)
field_is place (Any width n) bytes b l h e = sym (number_again width bytes b l) ∙ ap (λ m. little_bytes width m) h
field_is place (Nanoseconds n) bytes b l h e = sym (number_again 4 bytes b l) ∙ ap (λ m. little_bytes 4 m) h
field_is place (Zeros count) bytes b l h e =
    zeros_are place (take count bytes) e ∙ ap (λ n. replicate n 0) (length-take-le count bytes l)
field_is place (Body body) bytes b l h e = h

-- where all was read off that may be any, and nothing is wrong, the fields' text stands
pub text_is : (place : ℕ) (fields : List Field) (bytes : List ℕ) → AreBytes bytes → sizes fields ≤ length bytes → AreRead fields bytes → first_wrong place fields bytes ≡ None → take (sizes fields) bytes ≡ text fields
text_is place [] bytes b l h e = refl
text_is place (f ∷ fields) bytes b l (h, more) e =
    let none = or_none (field_wrong place f bytes) (first_wrong (place + size_of f) fields (drop (size_of f) bytes)) e in
    let here = field_is place f bytes b (omega arith) h none.0 in
    let size : length (drop (size_of f) bytes) ≡ length bytes - size_of f = length-drop (size_of f) bytes in
    let after : AreBytes (drop (size_of f) bytes) = λ k. rw get_or-drop (b (size_of f + k)) in
    let rest = text_is (place + size_of f) fields (drop (size_of f) bytes) after (omega arith) more none.1 in
    take-add (size_of f) (sizes fields) bytes
    ∙ ap (λ t. t ++ take (sizes fields) (drop (size_of f) bytes)) here
    ∙ ap (λ t. text_of f ++ t) rest
