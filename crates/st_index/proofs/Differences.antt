-- The first byte at which two texts differ, part by part.
use Rattle.std.proofs.Common.{◌≡◌, ℕ, ◌<◌, ◌-◌, ◌^◌, min, Bool, true, false, nat_eq, List, [], ◌∷◌, ◌++◌, length, Option, None, Some, refl, sym, ap, ◌∙◌, arith}
use Rattle.std.specs.Option.{option_or}
use Rattle.std.specs.Prelude.{if◌then◌else◌}
use Rattle.std.proofs.lemmas.Bool.Decides.{nat_tests}
use Rattle.byteorder.specs.Endian.{big_bytes, big_number}
use Rattle.byteorder.specs.Numbers.{big_number-reads_back, length-bytes_high_first}
use Rattle.st_tblock.specs.Block.{RowView}
use Rattle.st_index.specs.CheckRows.{first_difference, length_text, row_text}

-- of two parts each, the first of which are as long, the first that differ decide
pub in_parts : (xs ys us vs : List ℕ) → length xs ≡ length ys → first_difference (xs ++ us) (ys ++ vs) ≡ option_or (first_difference xs ys) (first_difference us vs)
in_parts [] [] us vs e = refl
in_parts [] (y ∷ ys) us vs e = absurd (omega arith)
in_parts (x ∷ xs) [] us vs e = absurd (omega arith)
in_parts (x ∷ xs) (y ∷ ys) us vs e = either (nat_eq x y) (in_parts xs ys us vs (omega arith))
  where
    either : (b : Bool) → first_difference (xs ++ us) (ys ++ vs) ≡ option_or (first_difference xs ys) (first_difference us vs) → ◌≡◌ {A = Option (ℕ × ℕ)} (if b then first_difference (xs ++ us) (ys ++ vs) else Some (x, y)) (option_or (if b then first_difference xs ys else Some (x, y)) (first_difference us vs))
    either true h = h
    either false h = refl

-- texts that differ nowhere are equal
pub no_difference : (xs ys : List ℕ) → first_difference xs ys ≡ None → xs ≡ ys
no_difference [] [] e = refl
no_difference [] (y ∷ ys) e = cc
no_difference (x ∷ xs) [] e = cc
no_difference (x ∷ xs) (y ∷ ys) e = either (nat_eq x y) refl e (no_difference xs ys)
  where
    either : (b : Bool) → nat_eq x y ≡ b → ◌≡◌ {A = Option (ℕ × ℕ)} (if b then first_difference xs ys else Some (x, y)) None → (first_difference xs ys ≡ None → xs ≡ ys) → x ∷ xs ≡ y ∷ ys
    either true t h more =
        let head : x ≡ y = grind (arith, nat_tests) in
        let tail : xs ≡ ys = more h in
        λ i. head i ∷ tail i
    either false t h more = cc

-- and equal texts differ nowhere
pub no_difference_itself : (xs : List ℕ) → first_difference xs xs ≡ None
no_difference_itself [] = refl
no_difference_itself (x ∷ xs) =
    let same : nat_eq x x ≡ true = grind (arith, nat_tests) in
    rw same (no_difference_itself xs)

-- keys shorter than the greatest number of four bytes whose lengths' bytes don't differ are as long
pub same_length : (key wanted : List ℕ) → length wanted < 2 ^ 32 - 1 → first_difference (length_text key) (length_text wanted) ≡ None → length key ≡ length wanted
unfolding length_text
same_length key wanted h e =
    let n = min (length key) (2 ^ 32 - 1) in
    let m = min (length wanted) (2 ^ 32 - 1) in
    let bytes : big_bytes 4 n ≡ big_bytes 4 m = no_difference (big_bytes 4 n) (big_bytes 4 m) e in
    let p : big_number 4 (big_bytes 4 n ++ []) ≡ n = big_number-reads_back 4 n [] (omega arith) in
    let q : big_number 4 (big_bytes 4 m ++ []) ≡ m = big_number-reads_back 4 m [] (omega arith) in
    let both : n ≡ m = sym p ∙ ap (λ (xs : List ℕ). big_number 4 (xs ++ [])) bytes ∙ q in
    omega arith

-- the length's bytes are four
pub length_size : (key : List ℕ) → length (length_text key) ≡ 4
unfolding length_text
length_size key = length-bytes_high_first 4 (min (length key) (2 ^ 32 - 1))

-- two rows differ by their keys' lengths, else by their keys, else by their values
pub by_parts : (key value wanted more : List ℕ) → length wanted < 2 ^ 32 - 1
    → first_difference (row_text (key, value)) (row_text (wanted, more))
    ≡ option_or (first_difference (length_text key) (length_text wanted)) (option_or (first_difference key wanted) (first_difference value more))
by_parts key value wanted more h =
    in_parts (length_text key) (length_text wanted) (key ++ value) (wanted ++ more) (length_size key ∙ sym (length_size wanted))
    ∙ after (first_difference (length_text key) (length_text wanted)) (λ e. in_parts key wanted value more (same_length key wanted h e))
  where
    after : (o : Option (ℕ × ℕ)) → (o ≡ None → first_difference (key ++ value) (wanted ++ more) ≡ option_or (first_difference key wanted) (first_difference value more))
        → option_or o (first_difference (key ++ value) (wanted ++ more)) ≡ option_or o (option_or (first_difference key wanted) (first_difference value more))
    after None f = f refl
    after (Some x) f = refl

-- rows that differ nowhere are equal
pub same_rows : (r q : RowView) → length q.0 < 2 ^ 32 - 1 → first_difference (row_text r) (row_text q) ≡ None → r ≡ q
same_rows r q h e =
    let parts = sym (by_parts r.0 r.1 q.0 q.1 h) ∙ e in
    let lengths = left (first_difference (length_text r.0) (length_text q.0)) (option_or (first_difference r.0 q.0) (first_difference r.1 q.1)) parts in
    let rest = right (first_difference (length_text r.0) (length_text q.0)) (option_or (first_difference r.0 q.0) (first_difference r.1 q.1)) parts in
    let keys = no_difference r.0 q.0 (left (first_difference r.0 q.0) (first_difference r.1 q.1) rest) in
    let values = no_difference r.1 q.1 (right (first_difference r.0 q.0) (first_difference r.1 q.1) rest) in
    λ i. (keys i, values i)
  where
    left : (o p : Option (ℕ × ℕ)) → option_or o p ≡ None → o ≡ None
    left None p h = refl
    left (Some x) p h = cc

    right : (o p : Option (ℕ × ℕ)) → option_or o p ≡ None → p ≡ None
    right None p h = h
    right (Some x) p h = cc
