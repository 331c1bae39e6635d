-- A part over the first bytes of some, and one over the rest.
use Rattle.std.proofs.Common.{◌≡◌, ℕ, ◌+◌, List, [], ◌++◌, length, take, drop, arith, ap, ◌∙◌, append-nil}
use Rattle.std.proofs.lemmas.Grind.{common_steps}

-- what was first is left where the second part begins, and nothing is left after that
pub both_parts :
    (zeros head frame one two : List ℕ) (n m : ℕ) → length head ≡ n → length frame ≡ m
    → length zeros ≡ n + m → one ≡ take 0 zeros ++ (head ++ drop (0 + length head) zeros)
    → two ≡ take n one ++ (frame ++ drop (n + length frame) one) → two ≡ head ++ frame
both_parts zeros head frame one two n m hn hm hz h1 h2 =
    let e1 : one ≡ head ++ drop n zeros = grind (arith, common_steps) in
    let e2 : take n one ≡ head = grind (arith, common_steps) in
    let e3 : length one ≡ n + m = grind (arith, common_steps) in
    let e4 : drop (n + length frame) one ≡ [] = grind (arith, common_steps) in
    h2 ∙ ap (λ l. l ++ (frame ++ drop (n + length frame) one)) e2
    ∙ ap (λ l. head ++ (frame ++ l)) e4 ∙ ap (λ l. head ++ l) (append-nil frame)
