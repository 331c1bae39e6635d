-- What a store over two slices has: one pair, found from the start.
use Rattle.std.specs.Prelude.{◌≡◌, ℕ, List, [], ◌∷◌, Some, None}
use Rattle.st_disk.specs.Pairs.{Entry}
use Rattle.st_disk.specs.Events.{Found}
use Rattle.st_shelf.specs.Loans.{LoansView, no_loans}
use Rattle.st_answer.specs.declared.slice_pair.TheConstants.{SLICE_STAMP}
use Rattle.st_answer.specs.Stores.{HoldsView}

-- what contracts see of a store over two slices: the bytes of the block file and the index, how
-- many holds were taken and how many are out, its count of faults, and what it counts of its files
pub record SlicePairView : Type 0 where
  pub block : List ℕ
  pub index : List ℕ
  pub asks : ℕ
  pub held : ℕ
  pub faults : ℕ
  pub loans : LoansView

-- a store over these bytes of which nothing was asked
abbrev pub new_pair : List ℕ → List ℕ → SlicePairView
new_pair block index =
    record { block = block; index = index; asks = 0; held = 0; faults = 0; loans = no_loans }

-- the file set of the store: the one pair of these bytes
abbrev pub slice_set : List ℕ → List ℕ → List Entry
slice_set block index = record { stamp = SLICE_STAMP; block = block; index = index } ∷ []

-- what the store knows of its holds: the pair was found, and each hold takes it; which sets are
-- held isn't known
abbrev pub slice_holds : SlicePairView → HoldsView
slice_holds s =
    record {
      asks = s.asks;
      held = s.held;
      seen = Some (Found (slice_set s.block s.index) ∷ []);
      took = Some (Found (slice_set s.block s.index) ∷ []);
      out = None;
    }

-- the bytes of both files stay
pub record HasSameBytes (s t : SlicePairView) : Type 0 where
  pub block : t.block ≡ s.block
  pub index : t.index ≡ s.index
