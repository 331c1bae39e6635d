-- The lists of a cut, one after the other.
use Rattle.std.specs.Prelude.{All, if◌then◌else◌, nat_le, Bool, true, false}
use Rattle.std.proofs.Common.{◌≡◌, ℕ, zero, suc, ◌+◌, ◌<◌, ◌≤◌, ⊎_elim, List, [], ◌∷◌, ◌++◌, length, append_assoc, refl, ap, subst, arith}
use Rattle.std.proofs.lemmas.Bool.{cases_lt}
use Rattle.st_base.specs.Records.{Rec}
use Rattle.st_block.specs.BlockText.{IsShort, room, used_bytes, blocks, blocks_from}
use Rattle.st_block.specs.declared.format.TheConstants.{BLOCK_HEAD, RECORD_HEAD}
use Rattle.st_lane.specs.Cut.{IsLongest, EndsList}
use Rattle.st_load.specs.Job.{AreFirstLists, Takes}

by_if : (b : Bool) (x y z w : List (List Rec)) → length x ≤ length y → length z ≤ length w → length (if b then x else z) ≤ length (if b then y else w)
by_if true x y z w p q = p
by_if false x y z w p q = q

some_if : (b : Bool) (y w : List (List Rec)) → 1 ≤ length y → 1 ≤ length w → 1 ≤ length (if b then y else w)
some_if true y w p q = p
some_if false y w p q = q

one_block : (size : ℕ) (here xs : List Rec) → 1 ≤ length (blocks_from size here xs)
one_block size here [] = omega arith
one_block size here (x ∷ xs) =
    some_if (nat_le (used_bytes here + room x) size) (blocks_from size (here ++ x ∷ []) xs) (here ∷ blocks_from size (x ∷ []) xs)
    (one_block size (here ++ x ∷ []) xs) (omega arith)

-- more records take no block away
no_fewer : (size : ℕ) (here rs xs : List Rec) → length (blocks_from size here rs) ≤ length (blocks_from size here (rs ++ xs))
no_fewer size here [] xs = one_block size here xs
no_fewer size here (r ∷ rs) xs =
    let one = no_fewer size (r ∷ []) rs xs in
    by_if (nat_le (used_bytes here + room r) size)
    (blocks_from size (here ++ r ∷ []) rs) (blocks_from size (here ++ r ∷ []) (rs ++ xs))
    (here ∷ blocks_from size (r ∷ []) rs) (here ∷ blocks_from size (r ∷ []) (rs ++ xs))
    (no_fewer size (here ++ r ∷ []) rs xs) (omega arith)

too_many : (size most : ℕ) (rs : List Rec) (r : Rec) (rest xs left : List Rec) → 1 ≤ length rs → EndsList size most rs r → r ∷ rest ≡ xs ++ left → 1 ≤ length xs
    → most < length (blocks size (rs ++ xs))
too_many size most [] r rest xs left some ends e l = absurd (omega arith)
too_many size most (q ∷ rs) r rest [] left some ends e l = absurd (omega arith)
too_many size most (q ∷ rs) r rest (x ∷ xs) left some ends e l =
    let head : r ≡ x = cc in
    let same = ap (λ l. length (blocks_from size (q ∷ []) l)) (append_assoc rs (r ∷ []) xs) in
    let longer = no_fewer size (q ∷ []) (rs ++ r ∷ []) xs in
    subst (λ (y : Rec). most < length (blocks size ((q ∷ rs) ++ y ∷ xs))) head (omega (arith, ends))

-- a list that ends before a record is the longest, whatever follows that record
pub ends_longest : (size most : ℕ) (rs : List Rec) (r : Rec) (rest : List Rec) → 1 ≤ length rs → length (blocks size rs) ≤ most → EndsList size most rs r → IsLongest size most rs (r ∷ rest)
ends_longest size most rs r rest some fits ends = record { some = some; fits = fits; longest = λ xs left e l. too_many size most rs r rest xs left some ends e l }

-- nothing follows the last list
pub last_longest : (size most : ℕ) (rs : List Rec) → 1 ≤ length rs → length (blocks size rs) ≤ most → IsLongest size most rs []
last_longest size most rs some fits = record { some = some; fits = fits; longest = λ xs left e l. none xs left e l }
  where
    none : (xs left : List Rec) → [] ≡ xs ++ left → 1 ≤ length xs → most < length (blocks size (rs ++ xs))
    none [] left e l = absurd (omega arith)
    none (x ∷ xs) left e l = cc

-- one list more
pub one_more : (size most : ℕ) (lists : List (List Rec)) (rs first rest : List Rec) → AreFirstLists size most lists rs (first ++ rest) → IsLongest size most first rest
    → AreFirstLists size most (lists ++ first ∷ []) rs rest
one_more size most [] rs first rest is longest = (rest, is, longest, refl)
one_more size most (l ∷ lists) rs first rest (left, e, long, are) longest = (left, e, long, one_more size most lists left first rest are longest)

-- what holds of two lists of records holds of both, joined
pub all_both : (P : Rec → Type 0) (xs ys : List Rec) → All P xs → All P ys → All P (xs ++ ys)
all_both P [] ys a b k d l = b k d l
all_both P (x ∷ xs) ys a b zero d l = a zero d (omega arith)
all_both P (x ∷ xs) ys a b (suc k) d l = all_both P xs ys (λ i e h. a (suc i) e (omega arith)) b k d (omega arith)

pub all_none : (P : Rec → Type 0) → All P []
all_none P k d l = absurd (omega arith)

pub all_one : (P : Rec → Type 0) (r : Rec) → P r → All P (r ∷ [])
all_one P r p zero d l = p
all_one P r p (suc k) d l = absurd (omega arith)

-- all records have a first part of those that are short enough
abbrev SomeTaken : ℕ → List Rec → Type 0
SomeTaken size rs = (taken : List Rec) × (others : List Rec) × Takes size rs taken others

takes_more : (size : ℕ) (r : Rec) (rs : List Rec) → IsShort size r → SomeTaken size rs → SomeTaken size (r ∷ rs)
takes_more size r rs short (taken, others, takes) = (
  r ∷ taken,
  others,
  record {
    are = ap (λ xs. r ∷ xs) takes.are;
    short = all_both (IsShort size) (r ∷ []) taken (all_one (IsShort size) r short) takes.short;
    ends = takes.ends;
  },
)

takes_none : (size : ℕ) (r : Rec) (rs : List Rec) → (IsShort size r → ⊥) → SomeTaken size (r ∷ rs)
takes_none size r rs long = ([], r ∷ rs, record { are = refl; short = all_none (IsShort size); ends = long })

pub some_taken : (size : ℕ) (rs : List Rec) → SomeTaken size rs
some_taken size [] = ([], [], record { are = refl; short = all_none (IsShort size); ends = tt })
some_taken size (r ∷ rs) = ⊎_elim
    (λ (long : size < length r.body + (BLOCK_HEAD + RECORD_HEAD)). takes_none size r rs (λ (short : length r.body + (BLOCK_HEAD + RECORD_HEAD) ≤ size). let no : ⊥ = omega arith in no))
    (λ (short : length r.body + (BLOCK_HEAD + RECORD_HEAD) ≤ size). takes_more size r rs short (some_taken size rs))
    (cases_lt size (length r.body + (BLOCK_HEAD + RECORD_HEAD)))
