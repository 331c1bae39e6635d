-- A file set with one entry more, or without its first.
use Rattle.std.proofs.Common.{◌≡◌, ℕ, List, [], ◌∷◌, ◌++◌, Option, None, Some, Bool, true, false, cond, nat_eq, refl, ◌∙◌, ap, arith}
use Rattle.std.proofs.lemmas.Bool.Decides.{nat_tests}
use Rattle.st_disk.specs.Pairs.{Entry, Files, files_of, IsFileSet, files_at}
use Rattle.st_disk.proofs.OneSet.{none_at}

head_missing : (b : Bool) (x : Files) (o : Option Files) → cond b (Some x) o ≡ None → (b ≡ false) × (o ≡ None)
head_missing true x o h = absurd (cc)
head_missing false x o h = (refl, h)

swapped : (a b : Bool) (x y z : Option Files) → (a ≡ true → b ≡ false) → cond a x (cond b y z) ≡ cond b y (cond a x z)
swapped true true x y z apart = let e : true ≡ false = apart refl in absurd (cc)
swapped true false x y z apart = refl
swapped false true x y z apart = refl
swapped false false x y z apart = refl

apart : (d e s : ℕ) → nat_eq d e ≡ false → nat_eq d s ≡ true → nat_eq e s ≡ false
apart d e s other same = grind (arith, nat_tests)

-- an entry more, of a stamp that no entry has
pub files_more : (e : Entry) (set : List Entry) (s : ℕ) → files_at e.stamp set ≡ None → files_at s (set ++ e ∷ []) ≡ cond (nat_eq e.stamp s) (Some (files_of e)) (files_at s set)
files_more e [] s none = refl
files_more e (d ∷ ds) s none =
    let head = head_missing (nat_eq d.stamp e.stamp) (files_of d) (files_at e.stamp ds) none in
    ap (λ (o : Option Files). cond (nat_eq d.stamp s) (Some (files_of d)) o) (files_more e ds s head.1)
    ∙ swapped (nat_eq d.stamp s) (nat_eq e.stamp s) (Some (files_of d)) (Some (files_of e)) (files_at s ds) (apart d.stamp e.stamp s head.0)

without_first : (b : Bool) (x o : Option Files) → (b ≡ true → o ≡ None) → o ≡ cond b None (cond b x o)
without_first true x o gone = gone refl
without_first false x o gone = refl

-- the first entry less
pub files_less : (e : Entry) (rest : List Entry) (s : ℕ) → IsFileSet (e ∷ rest) → files_at s rest ≡ cond (nat_eq e.stamp s) None (files_at s (e ∷ rest))
files_less e rest s set =
    without_first (nat_eq e.stamp s) (Some (files_of e)) (files_at s rest) (λ same. let is : s ≡ e.stamp = grind (arith, nat_tests) in ap (λ (t : ℕ). files_at t rest) is ∙ none_at e.stamp rest set.0)
