-- What holds have of a history that goes on.
use Rattle.std.proofs.Common.{◌≡◌, ◌≤◌, ◌-◌, ℕ, zero, suc, List, [], ◌∷◌, ◌++◌, length, take, drop, Contains, refl, sym, ◌∙◌, ap, ap₂, arith, append_assoc, append-nil, length-drop}
use Rattle.std.specs.List.{remove}
use Rattle.st_disk.specs.Events.{Event, Found, Publish, Remove}
use Rattle.st_disk.specs.Pairs.{Entry, IsBelow, IsFileSet}
use Rattle.st_spool.specs.History.{entries_of, entries_after, without, MayFollow, Legal}
use Rattle.st_spool.specs.States.{held, IsWithin}
use Rattle.st_spool.specs.declared.state.Span.{Span}
use Rattle.st_answer.specs.Spools.{sets_in}

-- entries come after those that there are
entries_on : (limit : ℕ) (all set : List Entry) (h : List Event) → MayFollow limit all set h → (rest : List Entry) × (entries_after all h ≡ all ++ rest)
entries_on limit all set [] may = ([], sym (append-nil all))
entries_on limit all set (Found es ∷ h) may = absurd may
entries_on limit all set (Publish e ∷ h) may =
    let r = entries_on limit (all ++ e ∷ []) (set ++ e ∷ []) h may.1 in
    (e ∷ r.0, r.1 ∙ append_assoc all (e ∷ []) r.0)
entries_on limit all set (Remove s ∷ h) may = entries_on limit all (without s set) h may.2

entries_then : (limit : ℕ) (all set : List Entry) (h more : List Event) → MayFollow limit all set (h ++ more) → (rest : List Entry) × (entries_after all (h ++ more) ≡ entries_after all h ++ rest)
entries_then limit all set [] more may = entries_on limit all set more may
entries_then limit all set (Found es ∷ h) more may = absurd may
entries_then limit all set (Publish e ∷ h) more may = entries_then limit (all ++ e ∷ []) (set ++ e ∷ []) h more may.1
entries_then limit all set (Remove s ∷ h) more may = entries_then limit all (without s set) h more may.2

-- the entries of a history begin with those of any events that begin it
pub entries_more : (limit : ℕ) (h more : List Event) → Legal limit (h ++ more) → (rest : List Entry) × (entries_of (h ++ more) ≡ entries_of h ++ rest)
entries_more limit [] more legal = (entries_of more, refl)
entries_more limit (Found es ∷ h) more legal = entries_then limit es es h more legal.1
entries_more limit (Publish e ∷ h) more legal = absurd legal
entries_more limit (Remove s ∷ h) more legal = absurd legal

module _ {A : Type 0} where
  pub take_first : (n : ℕ) (xs ys : List A) → n ≤ length xs → take n (xs ++ ys) ≡ take n xs
  take_first zero xs ys le = refl
  take_first (suc n) [] ys le = absurd (omega (arith, le))
  take_first (suc n) (x ∷ xs) ys le = ap (λ (l : List A). x ∷ l) (take_first n xs ys (omega (arith, le)))

  drop_first : (n : ℕ) (xs ys : List A) → n ≤ length xs → drop n (xs ++ ys) ≡ drop n xs ++ ys
  drop_first zero xs ys le = refl
  drop_first (suc n) [] ys le = absurd (omega (arith, le))
  drop_first (suc n) (x ∷ xs) ys le = drop_first n xs ys (omega (arith, le))

  -- what is left after a removal was there
  pub still_in : (xs : List A) (n : ℕ) (k : A) → Contains (remove xs n) k → Contains xs k
  still_in [] zero k c = c
  still_in [] (suc n) k c = c
  still_in (x ∷ xs) zero k (j, lt, is) = (suc j, omega (arith, lt), is)
  still_in (x ∷ xs) (suc n) k (zero, lt, is) = (0, omega arith, is)
  still_in (x ∷ xs) (suc n) k (suc j, lt, is) =
      let r = still_in xs n k (j, omega (arith, lt), is) in (suc r.0, omega (arith, r.1), r.2)

-- a hold within some entries has the same pairs of them and of more
pub held_on : (k : Span) (h next : List Event) (rest : List Entry) → entries_of next ≡ entries_of h ++ rest → IsWithin (length (entries_of h)) k → held k next ≡ held k h
held_on k h next rest is (low, high) =
    let left = length-drop k.from (entries_of h) in
    ap (λ (es : List Entry). take (k.to - k.from) (drop k.from es)) is
    ∙ ap (take (k.to - k.from)) (drop_first k.from (entries_of h) rest (omega (arith, low, high)))
    ∙ take_first (k.to - k.from) (drop k.from (entries_of h)) rest (omega (arith, low, high, left))

-- the sets of holds, each of which has the same
pub sets_on : (holds : List Span) (h next : List Event) → ((k : Span) → Contains holds k → held k next ≡ held k h) → sets_in holds next ≡ sets_in holds h
sets_on [] h next each = refl
sets_on (k ∷ holds) h next each =
    ap₂ (λ (e : List Entry) (es : List (List Entry)). e ∷ es) (each k (0, omega arith, refl)) (sets_on holds h next (λ j c. each j (suc c.0, omega (arith, c.1), c.2)))

-- a part of a file set is one
below_take : (k s : ℕ) (es : List Entry) → IsBelow s es → IsBelow s (take k es)
below_take zero s es h = tt
below_take (suc k) s [] h = h
below_take (suc k) s (e ∷ es) h = (h.0, below_take k s es h.1)

pub set_drop : (k : ℕ) (es : List Entry) → IsFileSet es → IsFileSet (drop k es)
set_drop zero es h = h
set_drop (suc k) [] h = h
set_drop (suc k) (e ∷ es) h = set_drop k es h.1

pub set_take : (k : ℕ) (es : List Entry) → IsFileSet es → IsFileSet (take k es)
set_take zero es h = tt
set_take (suc k) [] h = h
set_take (suc k) (e ∷ es) h = (below_take k e.stamp es h.0, set_take k es h.1)
