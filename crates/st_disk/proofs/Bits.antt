-- A choice by bits, one change after the other.
use Rattle.std.proofs.Common.{◌≡◌, ℕ, ◌+◌, ◌-◌, ◌/◌, ◌%◌, ◌^◌, ◌<◌, ◌≤◌, List, [], ◌∷◌, length, get_or, take, drop, Bool, true, false, cond, nat_eq, refl, ◌∙◌, ap, inl, inr, arith}
use Rattle.std.proofs.lemmas.List.{take_all}
use Rattle.std.proofs.lemmas.Nat.{shr-shr}
use Rattle.st_disk.specs.declared.changes.Change.{Change}
use Rattle.st_disk.specs.Folders.{Folder, apply}
use Rattle.st_disk.specs.Disks.{SomeOf}
use Rattle.st_disk.specs.Crashes.{bit, chosen}

some_chosen : (b : Bool) (n choice : ℕ) (c : Change) (cs : List Change) (f : Folder) → ((g : Folder) → SomeOf cs g (chosen n choice cs g)) → SomeOf (c ∷ cs) f (chosen n choice cs (cond b (apply c f) f))
some_chosen true n choice c cs f rest = inr (rest (apply c f))
some_chosen false n choice c cs f rest = inl (rest f)

-- a choice makes some of the changes, in order
pub chosen_some : (n choice : ℕ) (cs : List Change) (f : Folder) → SomeOf cs f (chosen n choice cs f)
chosen_some n choice [] f = refl
chosen_some n choice (c ∷ cs) f = some_chosen (bit choice n) (n + 1) choice c cs f (chosen_some (n + 1) choice cs)

-- the first of the changes is made or not, and the choice goes on with the rest
pub chosen_rest : (n choice bits : ℕ) (cs : List Change) (c : Change) (f g : Folder) → bits ≡ choice / 2 ^ n → c ≡ get_or cs 0 c → 1 ≤ length cs
    → g ≡ cond (nat_eq (bits % 2) 1) (apply c f) f → chosen (n + 1) choice (take (length cs - 1) (drop 1 cs)) g ≡ chosen n choice cs f
chosen_rest n choice bits [] c f g e is some made = absurd (omega arith)
chosen_rest n choice bits (d ∷ ds) c f g e is some made =
    let rest : take (length (d ∷ ds) - 1) ds ≡ ds = take_all (length (d ∷ ds) - 1) ds (omega arith) in
    ap (λ (xs : List Change). chosen (n + 1) choice xs g) rest
    ∙ ap (λ (h : Folder). chosen (n + 1) choice ds h) (made ∙ ap (λ (b : ℕ). cond (nat_eq (b % 2) 1) (apply c f) f) e ∙ ap (λ (x : Change). cond (bit choice n) (apply x f) f) is)

pub halved : (n choice bits : ℕ) → bits ≡ choice / 2 ^ n → bits / 2 ≡ choice / 2 ^ (n + 1)
halved n choice bits e = ap (λ (b : ℕ). b / 2) e ∙ shr-shr choice n 1

pub rest_length : {X : Type 0} (xs : List X) → 1 ≤ length xs → length (take (length xs - 1) (drop 1 xs)) + 1 ≡ length xs
rest_length [] some = absurd (omega arith)
rest_length (x ∷ xs) some =
    let rest : take (length (x ∷ xs) - 1) xs ≡ xs = take_all (length (x ∷ xs) - 1) xs (omega arith) in
    let long = ap length rest in
    omega arith

pub none_left : {X : Type 0} (xs : List X) → length xs < 1 → xs ≡ []
none_left [] none = refl
none_left (x ∷ xs) none = absurd (omega arith)

pub rest_count : {X : Type 0} (xs : List X) (m k : ℕ) → 1 ≤ length xs → m + length xs ≡ k → m + 1 + length (take (length xs - 1) (drop 1 xs)) ≡ k
rest_count xs m k some e = let long = rest_length xs some in omega arith
