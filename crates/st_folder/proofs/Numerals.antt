-- Laws of numbers as decimal and hexadecimal text.
use Rattle.std.proofs.Common.{Option, ◌≡◌, ◌≢◌, ℕ, zero, suc, ◌+◌, ◌*◌, ◌/◌, ◌%◌, ◌^◌, ◌<◌, ◌≤◌, false, cond, List, [], ◌∷◌, ◌++◌, Some, None, length, drop, get_or, MatchOption, sym, ap, subst, ◌∙◌, lit<, lit≤, arith}
use borrow.Author.Tests.{ne_eqb}
use Rattle.std.proofs.Math.Nat.{pow-le-pow_right}
use Rattle.std.proofs.lemmas.List.{same_from_push}
use Rattle.std.specs.Fmt.{digit_glyph, decimal}
use Rattle.std.specs.Str.Parse.{AllDigits, IsNumeral, digits_value, without_leading_plus}
use Rattle.std.proofs.lemmas.Fmt.{decimal_is_IsNumeral, decimal-digits_value, decimal_digit, first_decimal}
use Rattle.std.proofs.lemmas.Str.Parse.{numerals_by_value, tells_digits}
use Rattle.st_folder.specs.FileNames.{hex_text, stamp_text}

-- a text of hexadecimal digits that ends with this one
pub hex_parts : (ds bs : List ℕ) (x n : ℕ) → ds ≡ bs ++ (x ∷ []) → length bs + 1 ≡ length ds → ds ≡ hex_text (length ds) n
    → (bs ≡ hex_text (length bs) (n / 16)) × (x ≡ digit_glyph false (n % 16))
hex_parts ds bs x n split len same =
    let more : length ds ≡ suc (length bs) = omega arith in
    let whole = subst (λ k. ds ≡ hex_text k n) more same in
    same_from_push bs (hex_text (length bs) (n / 16)) x (digit_glyph false (n % 16)) (sym split ∙ whole)

-- a number of fewer than sixteen digits has room for one more
pub room : (k high : ℕ) → k + 1 ≤ 16 → high < 16 ^ k → high * 16 + 16 ≤ 2 ^ 64
room k high le lt =
    let bound : 16 ^ k ≤ 16 ^ 15 = pow-le-pow_right (lit< tt) {i = k} {j = 15} (omega arith) in
    omega (arith, bound)

-- what sixteen digits say, as a stamp
pub stamped : (ds text : List ℕ) (r : Option ℕ) → ds ≡ text → length ds ≡ 16
    → MatchOption r ((n : ℕ) → ds ≢ hex_text (length ds) n) (λ n. (ds ≡ hex_text (length ds) n) × (n < 16 ^ length ds))
    → MatchOption r ((s : ℕ) → s < 2 ^ 64 → text ≢ stamp_text s) (λ s. text ≡ stamp_text s)
unfolding stamp_text
stamped ds text None e len h = λ s lt same. h s (subst (λ k. ds ≡ hex_text k s) (sym len) (e ∙ same))
stamped ds text (Some s) e len h = sym e ∙ subst (λ k. ds ≡ hex_text k s) len h.0

-- a decimal begins with a digit
first_digit : (n : ℕ) → n < 2 ^ 64 → 48 ≤ get_or (decimal n) 0 0
first_digit zero h = subst (λ ds. 48 ≤ get_or ds 0 0) (sym (decimal_digit 0 (lit< tt))) (lit≤ tt)
first_digit (suc n) h =
    let first : 48 < get_or (decimal (suc n)) 0 0 = first_decimal (suc n) (omega arith) h in
    omega arith

-- a text that begins with no plus is its own text without one
without_plus : (bs : List ℕ) → (get_or bs 0 0 ≡ 43 → ⊥) → without_leading_plus bs ≡ bs
without_plus bs h = ap (λ b. drop (cond b 1 0) bs) (ne_eqb (get_or bs 0 0) 43 h)

no_plus : (n : ℕ) → n < 2 ^ 64 → get_or (decimal n) 0 0 ≡ 43 → ⊥
no_plus n h e = let first = first_digit n h in omega (arith, first, e)

-- a decimal begins with a zero only if it is that
zero_alone : (n : ℕ) → n < 2 ^ 64 → get_or (decimal n) 0 0 ≡ 48 → length (decimal n) ≡ 1
zero_alone zero h e = ap length (decimal_digit 0 (lit< tt))
zero_alone (suc n) h e =
    let first : 48 < get_or (decimal (suc n)) 0 0 = first_decimal (suc n) (omega arith) h in
    absurd (omega (arith, first, e))

-- a decimal has no plus and no zero before others
pub plain : (bs : List ℕ) (n : ℕ) → n < 2 ^ 64 → bs ≡ decimal n → (get_or bs 0 0 ≡ 43 → ⊥) × (get_or bs 0 0 ≡ 48 → length bs ≡ 1)
plain bs n h e = subst (λ ds. (get_or ds 0 0 ≡ 43 → ⊥) × (get_or ds 0 0 ≡ 48 → length ds ≡ 1)) (sym e) (no_plus n h, zero_alone n h)

-- a decimal is parsed
pub parsed : (bs : List ℕ) (n : ℕ) → n < 2 ^ 64 → bs ≡ decimal n
    → IsNumeral 10 (without_leading_plus bs) × (digits_value 10 (without_leading_plus bs) < 2 ^ 64)
parsed bs n h e =
    let same : without_leading_plus bs ≡ decimal n = ap without_leading_plus e ∙ without_plus (decimal n) (no_plus n h) in
    let (numeral, value) = decimal_is_IsNumeral n h in
    subst (λ ds. IsNumeral 10 ds × (digits_value 10 ds < 2 ^ 64)) (sym same) (numeral, subst (λ v. v < 2 ^ 64) (sym value) h)

-- what is parsed of a text without a plus and without a zero before others is its decimal
pub written : (bs : List ℕ) (n : ℕ) → (get_or bs 0 0 ≡ 43 → ⊥) → (get_or bs 0 0 ≡ 48 → length bs ≡ 1)
    → IsNumeral 10 (without_leading_plus bs) → digits_value 10 (without_leading_plus bs) < 2 ^ 64 → n ≡ digits_value 10 (without_leading_plus bs)
    → bs ≡ decimal n
written bs n plus zeros numeral lt is =
    let same = without_plus bs plus in
    let numeral' = subst (IsNumeral 10) same numeral in
    let lt' = subst (λ ds. digits_value 10 ds < 2 ^ 64) same lt in
    let is' = is ∙ ap (digits_value 10) same in
    sym (decimal-digits_value (numerals_by_value (AllDigits 10) tells_digits) bs numeral'.1 numeral'.0 zeros lt') ∙ ap decimal (sym is')
