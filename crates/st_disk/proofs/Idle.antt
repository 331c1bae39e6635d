-- Calls that changed nothing, counted or written down.
use Rattle.std.proofs.Common.{◌≡◌, ◌<◌, ◌-◌, ℕ, zero, suc, List, [], ◌∷◌, ◌++◌, length, take, min, refl, sym, ◌∙◌, ap, arith, append_assoc}
use Rattle.st_disk.specs.declared.naming.Kind.{Kind}
use Rattle.st_disk.specs.declared.changes.Call.{Call}
use Rattle.st_disk.specs.declared.changes.Call.TheVariants.{Other}
use Rattle.st_disk.specs.Disks.{Side, step, after}
use Rattle.st_disk.specs.Book.{idle_calls}

first_idle : (n : ℕ) → 0 < n → Other ∷ idle_calls (n - 1) ≡ idle_calls n
first_idle zero some = absurd (omega arith)
first_idle (suc n) some = let e : suc n - 1 ≡ n = omega arith in ap (λ (k : ℕ). Other ∷ idle_calls k) e

-- one of them is written down
pub one_written : (cs : List Call) (n : ℕ) → 0 < n → (cs ++ Other ∷ []) ++ idle_calls (n - 1) ≡ cs ++ idle_calls n
one_written cs n some = append_assoc cs (Other ∷ []) (idle_calls (n - 1)) ∙ ap (λ (xs : List Call). cs ++ xs) (first_idle n some)

after_idle : (k : Kind) (s : Side) (n m : ℕ) → after k s (take m (idle_calls n)) ≡ s
after_idle k s zero zero = refl
after_idle k s zero (suc m) = refl
after_idle k s (suc n) zero = refl
after_idle k s (suc n) (suc m) = after_idle k s n m

-- they leave a folder as it was
pub until_written : (k : Kind) (s : Side) (cs : List Call) (n m : ℕ) → after k s (take (min (length cs) m) cs) ≡ after k s (take m (cs ++ idle_calls n))
until_written k s [] n m = let e : min (length {A = Call} []) m ≡ 0 = omega arith in ap (λ (j : ℕ). after k s (take j [])) e ∙ sym (after_idle k s n m)
until_written k s (c ∷ cs) n zero = let e : min (length (c ∷ cs)) 0 ≡ 0 = omega arith in ap (λ (j : ℕ). after k s (take j (c ∷ cs))) e
until_written k s (c ∷ cs) n (suc m) =
    let e : min (length (c ∷ cs)) (suc m) ≡ suc (min (length cs) m) = omega arith in
    ap (λ (j : ℕ). after k s (take j (c ∷ cs))) e ∙ until_written k (step k s c) cs n m
