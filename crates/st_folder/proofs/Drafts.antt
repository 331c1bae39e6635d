-- Laws of the numbers of drafts.
use Rattle.std.proofs.Common.{ℕ, ◌≤◌, List, All, arith}
use Rattle.std.proofs.lemmas.List.Elements.{All-weaker}
use Rattle.st_disk.specs.declared.naming.Name.{Name}
use Rattle.st_disk.specs.declared.naming.Name.TheVariants.{Block, Index, Parked, Draft}
use Rattle.st_folder.specs.Numbers.{IsBelow}

below_more : (low high : ℕ) → low ≤ high → (n : Name) → IsBelow low n → IsBelow high n
below_more low high le (Block s) h = tt
below_more low high le (Index s) h = tt
below_more low high le (Parked s) h = tt
below_more low high le (Draft k d) h = omega (arith, le, h)

-- what is above the drafts of a list is so if it is raised
pub all_below_more : (low high : ℕ) → low ≤ high → (names : List Name) → All (IsBelow low) names → All (IsBelow high) names
all_below_more low high le names h = All-weaker (IsBelow low) (IsBelow high) (below_more low high le) names h
