-- A number that was passed over changes nothing that contracts see.
use Rattle.st_folder.specs.Counting.{IsLeftAlone}
use Rattle.st_folder.proofs.real.shelf.RealShelf.make_draft.Given as goal

abbrev pub invariant-numbers : goal.invariant-numbers
invariant-numbers l = IsLeftAlone l.fn.self.faults l.self.faults l.fn.self.loans l.self.loans
