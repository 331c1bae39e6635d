-- Behind a first hyphen of a text stands a character.
use Rattle.std.proofs.Common.{◌≡◌, ℕ, zero, suc, List, [], ◌∷◌, ◌++◌, Some, slice_get, map, refl, sym, ap, ◌∙◌, arith, length, String, Global, string_bytes}
use Rattle.std.specs.Str.{IsUtf8, IsAscii, chars}
use Rattle.std.proofs.lemmas.Str.{chars_past_char, encodes-chars, encodes-IsAscii, encode_ascii, IsUtf8-had}
use Rattle.std.specs.Str.{encode_utf8_all as encodes}
use Rattle.clap.specs.Words.{Text}
use Rattle.st_plan.proofs.Back.{IsText, AllText}

hyphen_ascii : IsAscii (45 ∷ [])
hyphen_ascii zero = omega arith
hyphen_ascii (suc i) = omega arith

text_of : (w : Text) → IsUtf8 w → IsText w
text_of w utf8 y more is =
    let all : chars w ≡ 45 ∷ chars (y ∷ more) = chars_past_char w (y ∷ more) 45 utf8 (is ∙ ap (λ e. e ++ (y ∷ more)) (sym (encode_ascii 45 (omega arith)))) in
    let whole = encodes-chars w utf8 in
    elim (chars (y ∷ more)) as (λ cs. chars (y ∷ more) ≡ cs → (c : ℕ) × (slice_get cs 0 ≡ Some c)) [
      | [] ↦ λ e.
          let short : w ≡ 45 ∷ [] = sym whole ∙ ap encodes (all ∙ ap (λ cs. 45 ∷ cs) e) ∙ encodes-IsAscii (45 ∷ []) hyphen_ascii in
          absurd (omega (arith, ap length (sym short ∙ is)))
      | c ∷ cs ↦ λ e. (c, refl)
    ] refl

pub all_text : (words : List (String Global)) → AllText (map string_bytes words)
all_text [] = tt
all_text (s ∷ words) = (text_of (string_bytes s) (IsUtf8-had (string_bytes s) s.ok), all_text words)
