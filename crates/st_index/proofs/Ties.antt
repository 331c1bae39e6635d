-- Numbers that their order doesn't tell apart.
use Rattle.std.proofs.Common.{◌≡◌, ℕ, IsTrue, nat_cmp, arith}
use Rattle.std.specs.Ordering.{is_eq}
use Rattle.std.proofs.lemmas.Bool.Decides.{nat_tests}

pub tied : (a b : ℕ) → IsTrue (is_eq (nat_cmp a b)) → a ≡ b
tied a b h = grind (arith, nat_tests)
