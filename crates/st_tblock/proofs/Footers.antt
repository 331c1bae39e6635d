-- Handles and footers, read from their own text.
use Rattle.std.proofs.Common.{◌≡◌, ℕ, zero, suc, ◌-◌, ◌≤◌, List, ◌++◌, append_assoc, length, length-append, take, drop, replicate, Some, Ok, Err, refl, sym, ap, ◌∙◌, arith}
use Rattle.std.specs.Prelude.{nat_eq, if◌then◌else◌}
use Rattle.std.proofs.lemmas.List.{length-replicate}
use Rattle.byteorder.specs.Endian.{little_bytes, little_number}
use Rattle.st_tblock.specs.Varint.{varint_of}
use Rattle.st_tblock.specs.Handles.{handle_in, handle_text, handles_in, second, with_second, named, zero_filled, footer_text, footer_in, InRange}
use Rattle.st_tblock.specs.declared.handle.Handle.{Handle}
use Rattle.st_tblock.specs.declared.format.TheConstants.{MAGIC, MAGIC_OFFSET, FOOTER_SIZE}
use Rattle.st_tblock.proofs.Fronts.{number_again, drop_front, take_front}

-- what follows some zeros
zeros_after : (n m : ℕ) → drop {A = ℕ} n (replicate m 0) ≡ replicate (m - n) 0
zeros_after zero m = let same : m - 0 ≡ m = omega arith in ap (λ (k : ℕ). replicate {A = ℕ} k 0) (sym same)
zeros_after (suc n) zero = let none : 0 - suc n ≡ 0 = omega arith in ap (λ (k : ℕ). replicate {A = ℕ} k 0) (sym none)
zeros_after (suc n) (suc m) =
    let less : suc m - suc n ≡ m - n = omega arith in
    zeros_after n m ∙ ap (λ (k : ℕ). replicate {A = ℕ} k 0) (sym less)

-- zeros with handles laid over the first of them
pub zeros_filled : (handles : List ℕ) → length handles ≤ MAGIC_OFFSET → handles ++ drop (length handles) (take MAGIC_OFFSET (replicate {A = ℕ} FOOTER_SIZE 0)) ≡ zero_filled handles
zeros_filled handles l = ap (λ (xs : List ℕ). handles ++ xs) (zeros_after (length handles) MAGIC_OFFSET)

-- a handle's text is read as the handle, and what follows it is left
pub handle_again : (h : Handle) (rest : List ℕ) → InRange h → handle_in (handle_text h ++ rest) ≡ Some (h, rest)
unfolding handle_in handle_text
handle_again h rest r =
    rw (append_assoc (varint_of h.offset) (varint_of h.size) rest, number_again h.offset (varint_of h.size ++ rest) r.offset, number_again h.size rest r.size) refl

-- what the bytes before the magic number name
footer_parts : (front : List ℕ) → length front ≡ MAGIC_OFFSET → footer_in (front ++ little_bytes 8 MAGIC) ≡ named (handles_in front)
unfolding footer_in
footer_parts front size =
    let b = little_bytes 8 MAGIC in
    let back : drop MAGIC_OFFSET (front ++ b) ≡ b = ap (λ (n : ℕ). drop n (front ++ b)) (sym size) ∙ drop_front front b in
    let forty : take MAGIC_OFFSET (front ++ b) ≡ front = ap (λ (n : ℕ). take n (front ++ b)) (sym size) ∙ take_front front b in
    ap
    (λ (x : List ℕ).
    if nat_eq (little_number 8 x) MAGIC then named (handles_in (take MAGIC_OFFSET (front ++ b))) else Err (record { place = MAGIC_OFFSET; found = little_number 8 x; want = MAGIC }))
    back
    ∙ ap (λ (x : List ℕ). named (handles_in x)) forty

-- handles with their zeros fill the room before the magic number
zero_filled_size : (handles : List ℕ) → length handles ≤ MAGIC_OFFSET → length (zero_filled handles) ≡ MAGIC_OFFSET
zero_filled_size handles l = simp (length-append, length-replicate) (omega arith)

-- a footer's text is read as its handles
pub footer_again : (meta index : Handle) → InRange meta → InRange index → length (handle_text meta ++ handle_text index) ≤ MAGIC_OFFSET → footer_in (footer_text meta index) ≡ Ok (meta, index)
unfolding footer_text handles_in
footer_again meta index mr ir l =
    let m = handle_text meta in
    let i = handle_text index in
    let zeros = replicate {A = ℕ} (MAGIC_OFFSET - length (m ++ i)) 0 in
    footer_parts (zero_filled (m ++ i)) (zero_filled_size (m ++ i) l)
    ∙ ap (λ (x : List ℕ). named (second (handle_in x))) (append_assoc m i zeros)
    ∙ ap (λ x. named (second x)) (handle_again meta (i ++ zeros) mr)
    ∙ ap (λ x. named (with_second meta x)) (handle_again index zeros ir)
