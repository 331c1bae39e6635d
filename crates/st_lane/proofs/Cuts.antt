-- Cutting records: in one way only, and list by list.
use Rattle.std.proofs.Common.{◌≡◌, ℕ, zero, suc, ◌+◌, ◌<◌, ◌≤◌, ◌⊎◌, inl, inr, ⊎_elim, List, [], ◌∷◌, ◌++◌, length, length-append, append_assoc, append-nil, refl, sym, ap, ◌∙◌, subst, arith}
use Rattle.std.specs.Prelude.{All}
use Rattle.std.proofs.lemmas.Bool.{cases_lt}
use Rattle.st_base.specs.Records.{Rec}
use Rattle.st_block.specs.BlockText.{IsShort, room, used_bytes, blocks}
use Rattle.st_lane.specs.Cut.{IsLongest, AreLongest, EndsList}
use Rattle.st_lane.specs.Laws.{OneCut, CutOfNone, CutEnds, CutGoesOn}
use Rattle.st_lane.specs.Filling.{but_last, last_block}
use Rattle.st_lane.proofs.Blocks.{joins_last, begins_last, whole_blocks}

-- one record more takes no block away
one_more : (size : ℕ) (rs : List Rec) (r : Rec) → length (blocks size rs) ≤ length (blocks size (rs ++ r ∷ []))
one_more size [] r = omega arith
one_more size (q ∷ rs) r =
    let bs = blocks size (q ∷ rs) in
    let some : 1 ≤ length (q ∷ rs) = omega arith in
    let whole = ap length (whole_blocks size (q ∷ rs) some) in
    let parts = length-append (but_last bs) (last_block bs ∷ []) in
    elim (cases_lt size (used_bytes (last_block bs) + room r)) [
      | inl full ↦
          let e = ap length (begins_last size (q ∷ rs) r some full) in
          let n = length-append bs ((r ∷ []) ∷ []) in
          omega arith
      | inr fits ↦
          let e = ap length (joins_last size (q ∷ rs) r fits) in
          let n = length-append (but_last bs) ((last_block bs ++ r ∷ []) ∷ []) in
          omega arith
    ]

-- nor do more records
more : (size : ℕ) (rs xs : List Rec) → length (blocks size rs) ≤ length (blocks size (rs ++ xs))
more size rs [] = let e = ap (λ l. length (blocks size l)) (append-nil rs) in omega arith
more size rs (x ∷ xs) =
    let first = one_more size rs x in
    let rest = more size (rs ++ x ∷ []) xs in
    let e = ap (λ l. length (blocks size l)) (append_assoc rs (x ∷ []) xs) in
    omega arith

-- of two prefixes of one list one is a prefix of the other
prefixes : (xs ys ps qs : List Rec) → xs ++ ps ≡ ys ++ qs → ((m : List Rec) × (ys ≡ xs ++ m) × (ps ≡ m ++ qs)) ⊎ ((m : List Rec) × (xs ≡ ys ++ m) × (qs ≡ m ++ ps))
prefixes [] ys ps qs e = inl (ys, refl, e)
prefixes (x ∷ xs) [] ps qs e = inr (x ∷ xs, refl, sym e)
prefixes (x ∷ xs) (y ∷ ys) ps qs e =
    let head : x ≡ y = cc in
    let tail : xs ++ ps ≡ ys ++ qs = cc in
    ⊎_elim
    (λ (m, same, rest). inl (m, ap (λ l. y ∷ l) same ∙ ap (λ h. h ∷ (xs ++ m)) (sym head), rest))
    (λ (m, same, rest). inr (m, ap (λ l. x ∷ l) same ∙ ap (λ h. h ∷ (ys ++ m)) head, rest))
    (prefixes xs ys ps qs tail)

-- so the longest prefix is one
nothing_more : (size most : ℕ) (xs ps m ys qs : List Rec) → IsLongest size most xs ps → IsLongest size most ys qs → ys ≡ xs ++ m → ps ≡ m ++ qs → m ≡ []
nothing_more size most xs ps [] ys qs l k e f = refl
nothing_more size most xs ps (q ∷ m) ys qs l k e f =
    let over = l.longest (q ∷ m) qs f (omega arith) in
    let under = subst (λ (x : List Rec). length (blocks size x) ≤ most) e k.fits in
    absurd (omega arith)

one_longest : (size most : ℕ) (xs ps ys qs : List Rec) → IsLongest size most xs ps → IsLongest size most ys qs → xs ++ ps ≡ ys ++ qs → (xs ≡ ys) × (ps ≡ qs)
one_longest size most xs ps ys qs l k e = ⊎_elim
    (λ (m, same, rest).
    let none = nothing_more size most xs ps m ys qs l k same rest in
    (sym (same ∙ (ap (λ n. xs ++ n) none ∙ append-nil xs)), rest ∙ ap (λ n. n ++ qs) none))
    (λ (m, same, rest).
    let none = nothing_more size most ys qs m xs ps k l same rest in
    (same ∙ (ap (λ n. ys ++ n) none ∙ append-nil ys), sym (rest ∙ ap (λ n. n ++ ps) none)))
    (prefixes xs ys ps qs e)

none_left : (size most : ℕ) (first rest : List Rec) {A : Type 0} → IsLongest size most first rest → [] ≡ first ++ rest → A
none_left size most [] rest l e = let some = l.some in absurd (omega arith)
none_left size most (x ∷ first) rest l e = cc

one_list : (size most : ℕ) (rs : List Rec) (lists others : List (List Rec)) → AreLongest size most lists rs → AreLongest size most others rs → lists ≡ others
one_list size most rs [] [] h k = refl
one_list size most rs [] (o ∷ others) h (rest, e, l, k) = none_left size most o rest l (sym h ∙ e)
one_list size most rs (f ∷ lists) [] (rest, e, l, h) k = none_left size most f rest l (sym k ∙ e)
one_list size most rs (f ∷ lists) (o ∷ others) (left, e, l, h) (rest, d, m, k) =
    let same = one_longest size most f left o rest l m (sym e ∙ d) in
    let tails = one_list size most rest lists others (subst (AreLongest size most lists) same.1 h) k in
    ap (λ x. x ∷ lists) same.0 ∙ ap (λ x. o ∷ x) tails

pub one_cut : OneCut
one_cut size most rs lists others h k = one_list size most rs lists others h.are k.are

pub cut_of_none : CutOfNone
cut_of_none size most = record { short = λ k d l. absurd (omega arith); are = refl }

-- nothing follows the last list
last_longest : (size most : ℕ) (rs : List Rec) → 1 ≤ length rs → length (blocks size rs) ≤ most → IsLongest size most rs []
last_longest size most rs some fits = record { some = some; fits = fits; longest = λ xs left e l. too_many xs left e l }
  where
    too_many : (xs left : List Rec) → [] ≡ xs ++ left → 1 ≤ length xs → most < length (blocks size (rs ++ xs))
    too_many [] left e l = absurd (omega arith)
    too_many (x ∷ xs) left e l = cc

pub cut_ends : CutEnds
cut_ends size most rs short some fits = record { short = short; are = ([], sym (append-nil rs), last_longest size most rs some fits, refl) }

-- a list that ends before a record is the longest
ends_longest : (size most : ℕ) (rs : List Rec) (r : Rec) (rest : List Rec) → 1 ≤ length rs → length (blocks size rs) ≤ most → EndsList size most rs r → IsLongest size most rs (r ∷ rest)
ends_longest size most rs r rest some fits ends = record { some = some; fits = fits; longest = λ xs left e l. too_many xs left e l }
  where
    too_many : (xs left : List Rec) → r ∷ rest ≡ xs ++ left → 1 ≤ length xs → most < length (blocks size (rs ++ xs))
    too_many [] left e l = absurd (omega arith)
    too_many (x ∷ xs) left e l =
        let head : r ≡ x = cc in
        let same = ap (λ l. length (blocks size l)) (append_assoc rs (r ∷ []) xs) in
        let longer = more size (rs ++ r ∷ []) xs in
        subst (λ (q : Rec). most < length (blocks size (rs ++ q ∷ xs))) head (omega arith)

-- what holds of two lists of records holds of both, joined
all_both : (P : Rec → Type 0) (xs ys : List Rec) → All P xs → All P ys → All P (xs ++ ys)
all_both P [] ys a b k d l = b k d l
all_both P (x ∷ xs) ys a b zero d l = a zero d (omega arith)
all_both P (x ∷ xs) ys a b (suc k) d l = all_both P xs ys (λ i e h. a (suc i) e (omega arith)) b k d (omega arith)

pub cut_goes_on : CutGoesOn
cut_goes_on size most rs rest r lists short some fits ends cut =
    record {
      short = all_both (IsShort size) rs (r ∷ rest) short cut.short;
      are = (r ∷ rest, refl, ends_longest size most rs r rest some fits ends, cut.are);
    }
