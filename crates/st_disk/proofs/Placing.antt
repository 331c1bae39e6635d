-- Names that are added in their order, one after another.
use Rattle.std.proofs.Common.{◌≡◌, ◌⊎◌, List, [], ◌∷◌, ◌<◌, length, sym, ap, subst, arith, inl, inr, ⊎_elim, Contains}
use Rattle.std.proofs.lemmas.List.Elements.{Contains-append_left, Contains-append_right, Contains-append_cases, Contains-push, Contains-push_cases}
use Rattle.st_disk.specs.declared.naming.Name.{Name}
use Rattle.st_disk.specs.Names.{AreSorted}

-- no name is among none
pub none_among : (ns : List Name) (n : Name) → length ns < 1 → Contains ns n → ⊥
none_among ns n none h = omega (arith, h.1)

-- a name is the first, or among those after it
pub first_or_rest : (ns rest : List Name) (m n : Name) → ns ≡ m ∷ rest → Contains ns n → Contains rest n ⊎ (n ≡ m)
first_or_rest ns rest m n e h =
    ⊎_elim
    (λ one. ⊎_elim (λ none. absurd (none_among [] n (omega arith) none)) (λ (s : m ≡ n). inr (sym s)) (Contains-push_cases [] m n one))
    (λ more. inl more)
    (Contains-append_cases (m ∷ []) rest n (subst (λ (xs : List Name). Contains xs n) e h))

-- and such a name is among them all
pub among_all : (ns rest : List Name) (m n : Name) → ns ≡ m ∷ rest → Contains rest n ⊎ (n ≡ m) → Contains ns n
among_all ns rest m n e h =
    subst (λ (xs : List Name). Contains xs n) (sym e)
    (⊎_elim
    (λ more. Contains-append_right (m ∷ []) rest n more)
    (λ (s : n ≡ m). Contains-append_left (m ∷ []) rest n (subst (λ (k : Name). Contains (m ∷ []) k) (sym s) (Contains-push [] m)))
    h)

-- none rise
pub none_rise : (ns : List Name) → ns ≡ [] → AreSorted ns
none_rise ns e i j d l m = let none : length ns ≡ 0 = ap length e in absurd (omega arith)
