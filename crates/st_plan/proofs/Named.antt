-- Two or three operands, of which the first is a command's name.
use Rattle.std.proofs.Common.{◌≡◌, true, false, List, [], ◌∷◌, refl, sym, ap, ◌∙◌, length, arith, map, get_or}
use Rattle.std.specs.Borrow.{Bor}
use Rattle.std.specs.Str.{bytes_eq}
use Rattle.std.proofs.lemmas.Bool.{false≢true}
use Rattle.std.proofs.lemmas.Slice.Eq.{bytes_eq-Decides}
use Rattle.clap.specs.Words.{Text}

pub two_are : (xs : List (Bor Text)) (d : Bor Text) → length xs ≡ 2 → map (λ (v : Bor Text). v.now) xs ≡ (get_or xs 0 d).now ∷ ((get_or xs 1 d).now ∷ [])
two_are [] d h = absurd (omega arith)
two_are (x ∷ []) d h = absurd (omega arith)
two_are (x ∷ (y ∷ [])) d h = refl
two_are (x ∷ (y ∷ (z ∷ zs))) d h = absurd (omega arith)

pub three_are : (xs : List (Bor Text)) (d : Bor Text) → length xs ≡ 3
    → map (λ (v : Bor Text). v.now) xs ≡ (get_or xs 0 d).now ∷ ((get_or xs 1 d).now ∷ ((get_or xs 2 d).now ∷ []))
three_are [] d h = absurd (omega arith)
three_are (x ∷ []) d h = absurd (omega arith)
three_are (x ∷ (y ∷ [])) d h = absurd (omega arith)
three_are (x ∷ (y ∷ (z ∷ []))) d h = refl
three_are (x ∷ (y ∷ (z ∷ (u ∷ zs)))) d h = absurd (omega arith)

pub named : (first name : Text) (more : List Text) → bytes_eq first name ≡ true → first ∷ more ≡ name ∷ more
named first name more e = ap (λ (t : Text). t ∷ more) ((bytes_eq-Decides first name).0 e)

-- where the first is not the name, the operands are another command's
pub other_named : (first name : Text) (more rest : List Text) → bytes_eq first name ≡ false → first ∷ more ≡ name ∷ rest → ⊥
other_named first name more rest e same =
    let is : first ≡ name = cc in
    false≢true (sym e ∙ (bytes_eq-Decides first name).1 is)
