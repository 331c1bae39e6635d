-- What a pass counts of the files that were lent to it and came back by it.
use Rattle.std.specs.Prelude.{ℕ, List, [], ◌∷◌, Bool, true, false}
use Rattle.st_shelf.specs.Loans.{LoansView, no_loans, lend, take_back}
use Rattle.st_shelf.specs.Origins.{FileOrigin}

module _ {F : Type 0} (origin : F → FileOrigin) (reads asked : F → ℕ) where
  -- with a file that was lent, or that came back
  abbrev pub with_file : LoansView → F → Bool → LoansView
  with_file l file true = lend l
  with_file l file false = take_back (origin file).kind (reads file) (asked file) l

  -- with these files, in order
  abbrev pub with_files : LoansView → List (F × Bool) → LoansView
  with_files l [] = l
  with_files l (e ∷ es) = with_files (with_file l e.0 e.1) es

  -- of these files, each of which was lent or came back, in order
  abbrev pub loans_of : List (F × Bool) → LoansView
  loans_of files = with_files no_loans files
