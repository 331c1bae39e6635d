-- Laws of two ways to cut one list.
use Rattle.std.proofs.Common.{◌≡◌, ℕ, List, ◌++◌, length, take, drop, refl, sym, ap, ◌∙◌}
use Rattle.std.proofs.lemmas.List.{take_at, drop_at}

-- the fronts are one where they are as long
pub same_front : (a b c d : List ℕ) → a ++ b ≡ c ++ d → length a ≡ length c → a ≡ c
same_front a b c d same size = sym (take_at a b (length c) size) ∙ ap (take (length c)) same ∙ take_at c d (length c) refl

-- and then so is what stands behind them
pub same_back : (a b c d : List ℕ) → a ++ b ≡ c ++ d → length a ≡ length c → b ≡ d
same_back a b c d same size = sym (drop_at a b (length c) size) ∙ ap (drop (length c)) same ∙ drop_at c d (length c) refl
