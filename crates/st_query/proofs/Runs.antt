-- The longest front of a list that passes a test.
use Rattle.std.proofs.Common.{append-nil, ◌∙◌, ◌≡◌, ℕ, suc, ◌+◌, Bool, true, false, cond, List, [], ◌∷◌, ◌++◌, take, drop, refl, arith, All, IsTrue, sym}
use Rattle.std.specs.List.{prefix_len}
use Rattle.std.proofs.lemmas.Grind.{common_steps}
use Rattle.std.proofs.lemmas.List.{take-append-drop}
use Rattle.std.proofs.lemmas.List.Elements.{All-same}
use Rattle.std.proofs.lemmas.List.Sums.{prefix_len_passes}
use Rattle.st_query.specs.Tokens.{EndsRun}

-- each byte of the front passes
pub run_all : (p : ℕ → Bool) (xs : List ℕ) → All (λ b. IsTrue (p b)) (take (prefix_len p xs) xs)
run_all p xs k d h = grind (arith, common_steps, prefix_len_passes p xs k d)

-- the byte behind it doesn't
pub run_ends : (p : ℕ → Bool) (xs : List ℕ) → EndsRun p (drop (prefix_len p xs) xs)
run_ends p [] = tt
run_ends p (x ∷ xs) =
    elim (p x) as (λ b. p x ≡ b → EndsRun p (drop (cond b (1 + prefix_len p xs) 0) (x ∷ xs))) [
      | true ↦ λ _. let step : 1 + prefix_len p xs ≡ suc (prefix_len p xs) = omega arith in rw step (run_ends p xs)
      | false ↦ λ e. e
    ] refl

-- where nothing is behind the front, all bytes pass
pub run_whole : (p : ℕ → Bool) (xs : List ℕ) → drop (prefix_len p xs) xs ≡ [] → All (λ b. IsTrue (p b)) xs
run_whole p xs h =
    let split : xs ≡ take (prefix_len p xs) xs = rw h at (sym (take-append-drop (prefix_len p xs) xs)) ∙ append-nil (take (prefix_len p xs) xs) in
    All-same (λ b. IsTrue (p b)) xs (take (prefix_len p xs) xs) split (run_all p xs)

-- a text in three parts: a front, some bytes, and the rest
pub three_parts : (g n : ℕ) (xs : List ℕ) → xs ≡ take g xs ++ (take n (drop g xs) ++ drop n (drop g xs))
three_parts g n xs = rw (take-append-drop n (drop g xs)) (sym (take-append-drop g xs))
