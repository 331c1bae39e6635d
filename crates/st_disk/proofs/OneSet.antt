-- A folder has one file set at most.
use Rattle.std.proofs.Common.{◌≡◌, ◌<◌, ℕ, List, [], ◌∷◌, Option, None, Some, Bool, true, false, cond, nat_eq, refl, sym, ◌∙◌, ap, arith}
use Rattle.std.proofs.lemmas.Bool.Decides.{nat_tests}
use Rattle.st_disk.specs.Pairs.{Entry, Files, files_of, IsBelow, IsFileSet, files_at, OneFileSet}

pub below_less : (s t : ℕ) (es : List Entry) → s < t → IsBelow t es → IsBelow s es
below_less s t [] lt h = tt
below_less s t (e ∷ es) lt h = let more : t < e.stamp = h.0 in (omega arith, below_less s t es lt h.1)

-- a stamp below those of all entries has no files
pub none_at : (s : ℕ) (es : List Entry) → IsBelow s es → files_at s es ≡ None
none_at s [] h = refl
none_at s (e ∷ es) h =
    let more : s < e.stamp = h.0 in
    let other : nat_eq e.stamp s ≡ false = grind (arith, nat_tests) in
    ap (λ (b : Bool). cond b (Some (files_of e)) (files_at s es)) other ∙ none_at s es h.1

pub files_here : (e : Entry) (es : List Entry) → files_at e.stamp (e ∷ es) ≡ Some (files_of e)
files_here e es =
    let same : nat_eq e.stamp e.stamp ≡ true = grind (arith, nat_tests) in
    ap (λ (b : Bool). cond b (Some (files_of e)) (files_at e.stamp es)) same

files_after : (s : ℕ) (e : Entry) (es : List Entry) → nat_eq e.stamp s ≡ false → files_at s (e ∷ es) ≡ files_at s es
files_after s e es other = ap (λ (b : Bool). cond b (Some (files_of e)) (files_at s es)) other

not_none : (x : Files) → ◌≡◌ {A = Option Files} (Some x) None → ⊥
not_none x e = cc

-- the first entry of one list stands first in the other
not_earlier : (d e : Entry) (ds es : List Entry) → IsFileSet (e ∷ es) → files_at d.stamp (d ∷ ds) ≡ files_at d.stamp (e ∷ es) → d.stamp < e.stamp → ⊥
not_earlier d e ds es h same lt =
    let none : files_at d.stamp (e ∷ es) ≡ None = none_at d.stamp (e ∷ es) (lt, below_less d.stamp e.stamp es lt h.0) in
    not_none (files_of d) (sym (files_here d ds) ∙ same ∙ none)

one_entry : (d e : Entry) → d.stamp ≡ e.stamp → ◌≡◌ {A = Option Files} (Some (files_of d)) (Some (files_of e)) → d ≡ e
one_entry d e stamp files =
    let same : files_of d ≡ files_of e = cc in
    let block : d.block ≡ e.block = ap (λ (f : Files). f.block) same in
    let index : d.index ≡ e.index = ap (λ (f : Files). f.index) same in
    λ i. record { stamp = stamp i; block = block i; index = index i }

tails : (s : ℕ) (d e : Entry) (ds es : List Entry) → d ≡ e → IsFileSet (d ∷ ds) → IsFileSet (e ∷ es) → files_at s (d ∷ ds) ≡ files_at s (e ∷ es) → (b : Bool) → nat_eq e.stamp s ≡ b → files_at s ds ≡ files_at s es
tails s d e ds es first h k same true here =
    let is : e.stamp ≡ s = grind (arith, nat_tests) in
    let was : d.stamp ≡ s = ap (λ (x : Entry). x.stamp) first ∙ is in
    rw (sym is) (none_at e.stamp ds (rw (sym (ap (λ (x : Entry). x.stamp) first)) h.0) ∙ sym (none_at e.stamp es k.0))
tails s d e ds es first h k same false there =
    let was : nat_eq d.stamp s ≡ false = ap (λ (x : Entry). nat_eq x.stamp s) first ∙ there in
    sym (files_after s d ds was) ∙ same ∙ files_after s e es there

one_list : (a b : List Entry) → IsFileSet a → IsFileSet b → ((s : ℕ) → files_at s a ≡ files_at s b) → a ≡ b
one_list [] [] h k same = refl
one_list [] (e ∷ es) h k same = absurd (not_none (files_of e) (sym (files_here e es) ∙ sym (same e.stamp)))
one_list (d ∷ ds) [] h k same = absurd (not_none (files_of d) (sym (files_here d ds) ∙ same d.stamp))
one_list (d ∷ ds) (e ∷ es) h k same =
    let earlier : d.stamp < e.stamp → ⊥ = not_earlier d e ds es k (same d.stamp) in
    let later : e.stamp < d.stamp → ⊥ = not_earlier e d es ds h (sym (same e.stamp)) in
    let stamps : d.stamp ≡ e.stamp = grind arith in
    let first : d ≡ e = one_entry d e stamps (sym (files_here d ds) ∙ same d.stamp ∙ ap (λ (s : ℕ). files_at s (e ∷ es)) stamps ∙ files_here e es) in
    let rest : ds ≡ es = one_list ds es h.1 k.1 (λ s. tails s d e ds es first h k (same s) (nat_eq e.stamp s) refl) in
    cc

pub one_file_set : OneFileSet
one_file_set folder a b mine yours = one_list a b mine.rises yours.rises (λ s. mine.each s ∙ sym (yours.each s))
