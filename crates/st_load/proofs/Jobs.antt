-- Acts, and the job that they are of.
use Rattle.std.specs.Prelude.{map}
use Rattle.std.proofs.Common.{◌≡◌, ℕ, suc, ◌-◌, ◌<◌, ◌≤◌, List, [], ◌∷◌, ◌++◌, length, take, drop, append_assoc, refl, sym, ap, ◌∙◌, subst, arith}
use Rattle.std.proofs.lemmas.List.{append-nil, map-append}
use Rattle.st_base.specs.Records.{Rec}
use Rattle.st_disk.specs.Events.{Event, Remove}
use Rattle.st_disk.specs.Pairs.{Entry}
use Rattle.st_load.specs.Acts.{Act, Happens, Writes, line_text, events_of, lines_of, happen, removal, removals, newest}
use Rattle.st_load.specs.Job.{Situation, Adds, AddsAll}

pub events_append : (xs bs : List Act) → events_of (xs ++ bs) ≡ events_of xs ++ events_of bs
events_append [] bs = refl
events_append (Happens e ∷ xs) bs = ap (λ l. e ∷ l) (events_append xs bs)
events_append (Writes s n ∷ xs) bs = events_append xs bs

pub lines_append : (xs bs : List Act) → lines_of (xs ++ bs) ≡ lines_of xs ++ lines_of bs
lines_append [] bs = refl
lines_append (Happens e ∷ xs) bs = lines_append xs bs
lines_append (Writes s n ∷ xs) bs = ap (λ l. line_text s n ++ l) (lines_append xs bs) ∙ sym (append_assoc (line_text s n) (lines_of xs) (lines_of bs))

pub events_happen : (es : List Event) → events_of (happen es) ≡ es
events_happen [] = refl
events_happen (e ∷ es) = ap (λ l. e ∷ l) (events_happen es)

pub lines_happen : (es : List Event) → lines_of (happen es) ≡ []
lines_happen [] = refl
lines_happen (e ∷ es) = lines_happen es

pub happen_append : (es fs : List Event) → happen (es ++ fs) ≡ happen es ++ happen fs
happen_append es fs = map-append Happens es fs

-- the oldest pair of a set above the limit is removed first
pub removals_first : (limit : ℕ) (e : Entry) (rest : List Entry) → limit < length (e ∷ rest) → removals limit (e ∷ rest) ≡ Remove e.stamp ∷ removals limit rest
removals_first limit e rest over =
    let n : suc (length rest) - limit ≡ suc (length rest - limit) = omega arith in
    ap (λ k. map removal (take k (e ∷ rest))) n

pub newest_first : (limit : ℕ) (e : Entry) (rest : List Entry) → limit < length (e ∷ rest) → newest limit (e ∷ rest) ≡ newest limit rest
newest_first limit e rest over =
    let n : suc (length rest) - limit ≡ suc (length rest - limit) = omega arith in
    ap (λ k. drop k (e ∷ rest)) n

-- none is removed of a set within it
pub removals_none : (limit : ℕ) (set : List Entry) → length set ≤ limit → removals limit set ≡ []
removals_none limit set within =
    let n : length set - limit ≡ 0 = omega arith in
    ap (λ k. map removal (take k set)) n

pub newest_all : (limit : ℕ) (set : List Entry) → length set ≤ limit → newest limit set ≡ set
newest_all limit set within =
    let n : length set - limit ≡ 0 = omega arith in
    ap (λ k. drop k set) n

-- pairs that are added one after the other
pub add_more : (limit size : ℕ) (a b c : Situation) (xs ys : List (List Rec)) (acts more : List Act) → AddsAll limit size a xs acts b → AddsAll limit size b ys more c
    → AddsAll limit size a (xs ++ ys) (acts ++ more) c
add_more limit size a b c [] ys acts more (none, same) adds =
    subst (λ (l : List Act). AddsAll limit size a ys (l ++ more) c) (sym none) (subst (λ (x : Situation). AddsAll limit size x ys more c) same adds)
add_more limit size a b c (rs ∷ xs) ys acts more (mid, first, later, is, add, adds) others =
    (mid, first, later ++ more, ap (λ (l : List Act). l ++ more) is ∙ append_assoc first later more, add, add_more limit size mid b c xs ys later more adds others)

pub add_one : (limit size : ℕ) (a b : Situation) (rs : List Rec) (acts : List Act) → Adds limit size a b rs acts → AddsAll limit size a (rs ∷ []) acts b
add_one limit size a b rs acts add = (b, acts, [], sym (append-nil acts), add, (refl, refl))
