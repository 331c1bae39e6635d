-- Laws of putting bytes into a sink of which it may be known what it has.
use Rattle.std.proofs.Common.{Option, ◌≡◌, ℕ, ◌+◌, ◌≤◌, List, ◌++◌, length, take, drop, min, sym, ◌∙◌, subst, arith}
use Rattle.std.proofs.lemmas.List.{take-append-le, take_min}
use Rattle.std.proofs.Math.Seq.{take-add, take-append-add}
use Rattle.std.specs.Io.KnownBytes.{Appends}
use Rattle.std.proofs.KnownBytes.{Appends-trans, Appends-nil}
use Rattle.st_base.specs.Pieces.{AppendsPrefix}

-- nothing was put yet
pub prefix-none : (a : Option (List ℕ)) (bytes : List ℕ) → AppendsPrefix a a bytes
prefix-none a bytes = (0, Appends-nil a)

-- the next n bytes were put after the first d
pub appends-next : (a b c : Option (List ℕ)) (d n : ℕ) (bytes : List ℕ)
    → Appends a b (take d bytes) → Appends b c (take n (drop d bytes)) → Appends a c (take (d + n) bytes)
appends-next a b c d n bytes first next =
    subst (Appends a c) (sym (take-add d n bytes)) (Appends-trans a b c (take d bytes) (take n (drop d bytes)) first next)

-- a prefix of some bytes is a prefix of these with more after them
pub prefix-more : (a b : Option (List ℕ)) (xs ys : List ℕ) → AppendsPrefix a b xs → AppendsPrefix a b (xs ++ ys)
prefix-more a b xs ys (n, put) =
    let m = min n (length xs) in
    let within : m ≤ length xs = omega arith in
    let same : take m (xs ++ ys) ≡ take n xs = take-append-le m xs ys within ∙ take_min n xs in
    (m, subst (Appends a b) (sym same) put)

-- after some bytes a prefix of others was put
pub prefix-then : (a b c : Option (List ℕ)) (xs ys : List ℕ) → Appends a b xs → AppendsPrefix b c ys → AppendsPrefix a c (xs ++ ys)
prefix-then a b c xs ys first (n, put) =
    (length xs + n, subst (Appends a c) (sym (take-append-add xs ys n)) (Appends-trans a b c xs (take n ys) first put))
