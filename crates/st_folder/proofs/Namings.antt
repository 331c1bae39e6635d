-- Each text is that of at most one name of a folder.
use Rattle.std.proofs.Common.{Option, ◌≡◌, ◌≢◌, ◌↔◌, ℕ, zero, suc, ◌/◌, ◌%◌, ◌^◌, ◌<◌, false, List, ◌∷◌, ◌++◌, Some, None, All, get_or, MatchOption, refl, sym, ap, subst, ◌∙◌, arith, codes}
use Rattle.std.proofs.lemmas.Bool.Decides.{nat_tests}
use Rattle.std.proofs.lemmas.List.{same_from_push, append_cancel_left}
use Rattle.std.proofs.lemmas.List.Elements.{All-nil, All-push, All-head}
use Rattle.std.specs.Fmt.{digit_glyph, decimal}
use Rattle.std.proofs.lemmas.Fmt.{decimal_injective}
use Rattle.st_disk.specs.declared.naming.Kind.{Kind}
use Rattle.st_disk.specs.declared.naming.Kind.TheVariants as kind
use Rattle.st_disk.specs.declared.naming.Name.{Name}
use Rattle.st_disk.specs.declared.naming.Name.TheVariants.{Block, Index, Parked, Draft}
use Rattle.st_disk.specs.Names.{number_of}
use Rattle.st_folder.specs.FileNames.{hex_text, stamp_text, IsNameIn}

-- two digits that are written alike are one
one_digit : (c d : ℕ) → c < 16 → d < 16 → digit_glyph false c ≡ digit_glyph false d → c ≡ d
one_digit c d lt lu e = grind (arith, nat_tests)

-- no digit is a dot
no_dot : (d : ℕ) → d < 16 → digit_glyph false d ≢ 46
no_dot d lt e = grind (arith, nat_tests)

no_dots : (k n : ℕ) → All (λ c. c ≢ 46) (hex_text k n)
no_dots zero n = All-nil (λ c. c ≢ 46)
no_dots (suc k) n = All-push (λ c. c ≢ 46) (hex_text k (n / 16)) (digit_glyph false (n % 16)) (no_dots k (n / 16)) (no_dot (n % 16) (omega arith))

-- the text of a stamp begins with no dot
undotted : (s : ℕ) (rest : List ℕ) → stamp_text s ≡ 46 ∷ rest → ⊥
unfolding stamp_text
undotted s rest e = All-head (λ c. c ≢ 46) 46 rest (subst (All (λ c. c ≢ 46)) e (no_dots 16 s)) refl

-- two numbers of as many digits that are written alike are one
one_hex : (k m n : ℕ) → m < 16 ^ k → n < 16 ^ k → hex_text k m ≡ hex_text k n → m ≡ n
one_hex zero m n lt lu e = omega arith
one_hex (suc k) m n lt lu e =
    let parts = same_from_push (hex_text k (m / 16)) (hex_text k (n / 16)) (digit_glyph false (m % 16)) (digit_glyph false (n % 16)) e in
    let high : m / 16 ≡ n / 16 = one_hex k (m / 16) (n / 16) (omega arith) (omega arith) parts.0 in
    let low : m % 16 ≡ n % 16 = one_digit (m % 16) (n % 16) (omega arith) (omega arith) parts.1 in
    omega (arith, high, low)

one_stamp : (m n : ℕ) → m < 2 ^ 64 → n < 2 ^ 64 → stamp_text m ≡ stamp_text n → m ≡ n
unfolding stamp_text
one_stamp m n lt lu e = one_hex 16 m n (omega arith) (omega arith) e

kinds_differ : kind.Block ≡ kind.Index → ⊥
kinds_differ e = cc

-- a parked index has not the name of a draft
prefixes_differ : (a b : List ℕ) → codes ".parked-" ++ a ≡ codes ".draft-" ++ b → ⊥
prefixes_differ a b e = omega (arith, ap (λ l. get_or l 1 0) e)

-- a text is that of one name of a folder
pub one_name : (k : Kind) (text : List ℕ) (m n : Name) → number_of m < 2 ^ 64 → number_of n < 2 ^ 64 → IsNameIn k m text → IsNameIn k n text → m ≡ n
one_name k text (Block s) (Block t) lt lu h i = ap Block (one_stamp s t lt lu (sym h.1 ∙ i.1))
one_name k text (Index s) (Index t) lt lu h i = ap Index (one_stamp s t lt lu (sym h.1 ∙ i.1))
one_name k text (Parked s) (Parked t) lt lu h i = ap Parked (one_stamp s t lt lu (append_cancel_left (codes ".parked-") (stamp_text s) (stamp_text t) (sym h.1 ∙ i.1)))
one_name k text (Draft j d) (Draft l e) lt lu h i =
    let kinds : j ≡ l = h.0 ∙ sym i.0 in
    let numbers = decimal_injective d e lt lu (append_cancel_left (codes ".draft-") (decimal d) (decimal e) (sym h.1 ∙ i.1)) in
    ap (λ (x : Kind). Draft x d) kinds ∙ ap (Draft l) numbers
one_name k text (Block s) (Index t) lt lu h i = absurd (kinds_differ (h.0 ∙ sym i.0))
one_name k text (Block s) (Parked t) lt lu h i = absurd (kinds_differ (h.0 ∙ sym i.0))
one_name k text (Index s) (Block t) lt lu h i = absurd (kinds_differ (i.0 ∙ sym h.0))
one_name k text (Parked s) (Block t) lt lu h i = absurd (kinds_differ (i.0 ∙ sym h.0))
one_name k text (Block s) (Draft j d) lt lu h i = absurd (undotted s _ (sym h.1 ∙ i.1))
one_name k text (Index s) (Draft j d) lt lu h i = absurd (undotted s _ (sym h.1 ∙ i.1))
one_name k text (Index s) (Parked t) lt lu h i = absurd (undotted s _ (sym h.1 ∙ i.1))
one_name k text (Draft j d) (Block s) lt lu h i = absurd (undotted s _ (sym i.1 ∙ h.1))
one_name k text (Draft j d) (Index s) lt lu h i = absurd (undotted s _ (sym i.1 ∙ h.1))
one_name k text (Parked t) (Index s) lt lu h i = absurd (undotted s _ (sym i.1 ∙ h.1))
one_name k text (Parked s) (Draft j d) lt lu h i = absurd (prefixes_differ _ _ (sym h.1 ∙ i.1))
one_name k text (Draft j d) (Parked s) lt lu h i = absurd (prefixes_differ _ _ (sym i.1 ∙ h.1))

-- a function of a text gives just the name whose text it is, from its two cases
pub exact_name : (k : Kind) (text : List ℕ) (r : Option Name)
    → MatchOption r ((n : Name) → number_of n < 2 ^ 64 → IsNameIn k n text → ⊥) (λ m. (number_of m < 2 ^ 64) × IsNameIn k m text)
    → (n : Name) → number_of n < 2 ^ 64 → (r ≡ Some n) ↔ IsNameIn k n text
exact_name k text None h n lt = ((λ (e : None ≡ Some n). cc), λ i. absurd (h n lt i))
exact_name k text (Some m) h n lt = (
  (λ (e : Some m ≡ Some n). let same : m ≡ n = cc in subst (λ (x : Name). IsNameIn k x text) same h.1),
  λ i. ap Some (one_name k text m n h.0 lt h.1 i),
)

-- a text with a draft's prefix and no number after it is that of no name
pub no_draft : (k : Kind) (text rest : List ℕ) → text ≡ codes ".draft-" ++ rest → ((d : ℕ) → d < 2 ^ 64 → rest ≢ decimal d)
    → (n : Name) → number_of n < 2 ^ 64 → IsNameIn k n text → ⊥
no_draft k text rest is none (Block s) lt i = undotted s _ (sym i.1 ∙ is)
no_draft k text rest is none (Index s) lt i = undotted s _ (sym i.1 ∙ is)
no_draft k text rest is none (Parked s) lt i = prefixes_differ _ _ (sym i.1 ∙ is)
no_draft k text rest is none (Draft j d) lt i = none d lt (append_cancel_left (codes ".draft-") rest (decimal d) (sym is ∙ i.1))

-- a text with a parked index's prefix and no stamp after it is that of no name
pub no_parked : (text rest : List ℕ) → text ≡ codes ".parked-" ++ rest → ((s : ℕ) → s < 2 ^ 64 → rest ≢ stamp_text s)
    → (n : Name) → number_of n < 2 ^ 64 → IsNameIn kind.Index n text → ⊥
no_parked text rest is none (Block s) lt i = kinds_differ i.0
no_parked text rest is none (Index s) lt i = undotted s _ (sym i.1 ∙ is)
no_parked text rest is none (Parked s) lt i = none s lt (append_cancel_left (codes ".parked-") rest (stamp_text s) (sym is ∙ i.1))
no_parked text rest is none (Draft j d) lt i = prefixes_differ _ _ (sym is ∙ i.1)
