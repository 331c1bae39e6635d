-- Facts on the tests of a layer.
use Rattle.std.proofs.Common.{◌≡◌, ℕ, ◌+◌, ◌<◌, false, List, length, arith}
use Rattle.std.proofs.lemmas.Bool.Decides.{nat_tests}
use Rattle.st_walk.specs.Layers.{holds, extension_size, is_extension}

-- no extension header stands in fewer than eight bytes
pub none_within : (p : List ℕ) (o n : ℕ) → length p < o + 8 → is_extension p o n ≡ false
unfolding is_extension extension_size holds
none_within p o n short = grind (arith, nat_tests)
