-- A file more that was lent or came back.
use Rattle.std.proofs.Common.{◌≡◌, ℕ, List, [], ◌∷◌, ◌++◌, Bool, true, Result, Ok, Err, refl, ◌∙◌, ap}
use Rattle.std.specs.Prelude.{MatchResult}
use Rattle.st_shelf.specs.Loans.{LoansView, no_loans, lend}
use Rattle.st_shelf.specs.Origins.{FileOrigin}
use Rattle.st_turn.specs.Files.{with_file, with_files, loans_of}

module _ {F : Type 0} (origin : F → FileOrigin) (reads asked : F → ℕ) where
  more_files : (l : LoansView) (es : List (F × Bool)) (file : F) (b : Bool) → with_files origin reads asked l (es ++ (file, b) ∷ []) ≡ with_file origin reads asked (with_files origin reads asked l es) file b
  more_files l [] file b = refl
  more_files l (e ∷ es) file b = more_files (with_file origin reads asked l e.0 e.1) es file b

  -- from a list of files to the next
  pub one_file : (old new : List (F × Bool)) (l : LoansView) (file : F) (b : Bool) → new ≡ old ++ (file, b) ∷ [] → loans_of origin reads asked old ≡ l → loans_of origin reads asked new ≡ with_file origin reads asked l file b
  one_file old new l file b is was =
      ap (loans_of origin reads asked) is ∙ more_files no_loans old file b ∙ ap (λ (k : LoansView). with_file origin reads asked k file b) was

  pub lent_file : {E : Type 0} (old new : List (F × Bool)) (l : LoansView) (result : Result F E) → MatchResult result (λ file. new ≡ old ++ (file, true) ∷ []) (λ e. new ≡ old) → loans_of origin reads asked old ≡ l
      → MatchResult result (λ file. loans_of origin reads asked new ≡ lend l) (λ e. loans_of origin reads asked new ≡ l)
  lent_file old new l (Ok file) is was = one_file old new l file true is was
  lent_file old new l (Err e) is was = ap (loans_of origin reads asked) is ∙ was
