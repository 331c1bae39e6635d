-- Heads that are read one after another.
use Rattle.std.proofs.Common.{Option, ◌≡◌, ℕ, ◌+◌, ◌<◌, List, [], ◌∷◌, ◌++◌, length, map, take, get_or, sym, ap, ◌∙◌, subst, append_assoc, arith}
use Rattle.std.proofs.lemmas.List.{map_more, get_or-map, length-map}
use Rattle.std.proofs.lemmas.List.Elements.{All-push}
use Rattle.st_block.specs.Record.{IsRecordAt}
use Rattle.st_block.specs.Scan.{PositionedRecord}
use Rattle.st_answer.specs.declared.picked.Picked.{Picked}
use Rattle.st_answer.specs.Picks.{pick_of, picks_of}
use Rattle.st_answer.specs.Heads.{IsOf, AddsPicks, AreAt}

-- a record at a position, for where a list has none
abbrev pub no_record : PositionedRecord
no_record = (0, record { sec = 0; nsec = 0; orig = 0; body = [] })

pub count_at : (content : Option (List ℕ)) (positions : List ℕ) (xs : List PositionedRecord) → AreAt content positions xs → length xs ≡ length positions
count_at content positions xs are = sym (ap length are.order ∙ length-map xs (λ (x : PositionedRecord). x.0))

-- the record of one position
pub position_at : (content : Option (List ℕ)) (positions : List ℕ) (xs : List PositionedRecord) (i : ℕ) → i < length positions → AreAt content positions xs
    → (get_or positions i 0 ≡ (get_or xs i no_record).0) × IsRecordAt content (get_or positions i 0) (get_or xs i no_record).1
position_at content positions xs i lt are =
    let count = count_at content positions xs are in
    let lt' : i < length xs = omega (arith, lt, count) in
    let same : get_or positions i 0 ≡ (get_or xs i no_record).0 =
    ap (λ (ps : List ℕ). get_or ps i 0) are.order ∙ get_or-map (λ (x : PositionedRecord). x.0) xs i no_record 0 lt' in
    (same, subst (λ p. IsRecordAt content p (get_or xs i no_record).1) (sym same) (are.each i no_record lt'))

-- one pick more
pub picks_next : (place stamp : ℕ) (old now new : List Picked) (xs : List PositionedRecord) (p : Picked) (i : ℕ) → i < length xs
    → now ≡ old ++ picks_of place stamp (take i xs) → new ≡ now ++ p ∷ [] → p ≡ pick_of place stamp (get_or xs i no_record).0 (get_or xs i no_record).1
    → new ≡ old ++ picks_of place stamp (take (i + 1) xs)
picks_next place stamp old now new xs p i lt had more is =
    let f = λ (x : PositionedRecord). pick_of place stamp x.0 x.1 in
    more ∙ (ap (λ z. z ++ p ∷ []) had ∙ (append_assoc old (map f (take i xs)) (p ∷ []) ∙ ap (λ z. old ++ z) (ap (λ z. map f (take i xs) ++ z ∷ []) is ∙ sym (map_more f xs i no_record lt))))

pub adds_next : (place stamp : ℕ) (old now new : List Picked) (p : Picked) → AddsPicks place stamp old now → new ≡ now ++ p ∷ [] → IsOf place stamp p → AddsPicks place stamp old new
adds_next place stamp old now new p (more, is, all) next one =
    (more ++ p ∷ [], next ∙ (ap (λ z. z ++ p ∷ []) is ∙ append_assoc old more (p ∷ [])), All-push (IsOf place stamp) more p all one)
