-- Laws of a buffer that several reads fill from its front.
use Rattle.std.proofs.Common.{◌≡◌, ℕ, ◌+◌, ◌≤◌, List, ◌++◌, length, take, sym, ap, ◌∙◌, length-take-le}
use Rattle.std.proofs.Math.Seq.{take-append-add}
use Rattle.std.proofs.lemmas.List.{take-append-le}
use borrow.Rule.Slice.PartMut.{put_mid, post_of}

-- what stood in the front of the buffer, and then what the read put behind it
pub take-put_mid_more : (at n room : ℕ) (xs ys : List ℕ) → at ≤ length xs → n ≤ length ys → take (at + n) (put_mid at room xs ys) ≡ take at xs ++ take n ys
take-put_mid_more at n room xs ys within fits =
    let behind = post_of at room xs in
    ap (λ m. take (m + n) (take at xs ++ (ys ++ behind))) (sym (length-take-le at xs within)) ∙ take-append-add (take at xs) (ys ++ behind) n
    ∙ ap (λ l. take at xs ++ l) (take-append-le n ys behind fits)
