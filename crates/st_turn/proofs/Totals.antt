-- Sums over lists, lists with a member changed, and beginnings of lists.
use Rattle.std.proofs.Common.{◌≡◌, ◌≢◌, ℕ, zero, suc, ◌+◌, ◌<◌, ◌≤◌, List, [], ◌∷◌, ◌++◌, length, set, Option, Some, Bool, cond, refl, sym, ◌∙◌, ap, subst, arith, append_assoc, append-nil, length-append, eq-eqb, ne_eqb}
use mathlib.Core.Option.{some, some-injective, some-ne-none}
use lib.ListN.{get_elem?}
use Rattle.st_turn.specs.Parts.{total, IsPrefix, Each, Rises, is_same, is_number, line_of}
use Rattle.st_turn.specs.declared.book.Line.{Line}

module _ {A : Type 0} where
  pub total_append : (f : A → ℕ) (xs ys : List A) → total f (xs ++ ys) ≡ total f xs + total f ys
  total_append f [] ys = omega arith
  total_append f (x ∷ xs) ys = let e = total_append f xs ys in omega arith

  pub total_set : (f : A → ℕ) (l : List A) (i : ℕ) (a b : A) → get_elem? l i ≡ some a → total f (set l i b) + f a ≡ total f l + f b
  total_set f [] i a b e = absurd (some-ne-none a (sym e))
  total_set f (x ∷ xs) zero a b e = let h : f x ≡ f a = ap f (some-injective x a e) in omega arith
  total_set f (x ∷ xs) (suc i) a b e = let h = total_set f xs i a b e in omega arith

  pub total_at : (f : A → ℕ) (l : List A) (i : ℕ) (a : A) → get_elem? l i ≡ some a → f a ≤ total f l
  total_at f [] i a e = absurd (some-ne-none a (sym e))
  total_at f (x ∷ xs) zero a e = let h : f x ≡ f a = ap f (some-injective x a e) in omega arith
  total_at f (x ∷ xs) (suc i) a e = let h = total_at f xs i a e in omega arith

  pub total_two : (f : A → ℕ) (l : List A) (i j : ℕ) (a b : A) → i ≢ j → get_elem? l i ≡ some a → get_elem? l j ≡ some b → f a + f b ≤ total f l
  total_two f [] i j a b n e h = absurd (some-ne-none a (sym e))
  total_two f (x ∷ xs) zero zero a b n e h = absurd (n refl)
  total_two f (x ∷ xs) zero (suc j) a b n e h = let k : f x ≡ f a = ap f (some-injective x a e) in let m = total_at f xs j b h in omega arith
  total_two f (x ∷ xs) (suc i) zero a b n e h = let k : f x ≡ f b = ap f (some-injective x b h) in let m = total_at f xs i a e in omega arith
  total_two f (x ∷ xs) (suc i) (suc j) a b n e h = let m = total_two f xs i j a b (λ z. n (ap suc z)) e h in omega arith

  pub total_none : (f : A → ℕ) (l : List A) → ((i : ℕ) (a : A) → get_elem? l i ≡ some a → f a ≡ 0) → total f l ≡ 0
  total_none f [] none_of = refl
  total_none f (x ∷ xs) none_of = let h = none_of 0 x refl in let k = total_none f xs (λ i a e. none_of (suc i) a e) in omega arith

  pub total_same : (f g : A → ℕ) (l : List A) → ((a : A) → f a ≡ g a) → total f l ≡ total g l
  total_same f g [] same = refl
  total_same f g (x ∷ xs) same = let h = same x in let k = total_same f g xs same in omega arith

  pub each_append : (P : A → Type 0) (xs ys : List A) → Each P xs → Each P ys → Each P (xs ++ ys)
  each_append P [] ys e f = f
  each_append P (x ∷ xs) ys e f = (e.0, each_append P xs ys e.1 f)

  pub each_on : (P Q : A → Type 0) (xs : List A) → ((x : A) → P x → Q x) → Each P xs → Each Q xs
  each_on P Q [] on e = tt
  each_on P Q (x ∷ xs) on e = (on x e.0, each_on P Q xs on e.1)

  -- what holds of a list's members, where some number of each is known to be 0
  pub each_where : (P Q : A → Type 0) (f : A → ℕ) (xs : List A) → ((x : A) → f x ≡ 0 → P x → Q x) → total f xs ≡ 0 → Each P xs → Each Q xs
  each_where P Q f [] on z e = tt
  each_where P Q f (x ∷ xs) on z e = (on x (omega arith) e.0, each_where P Q f xs on (omega arith) e.1)

  pub each_none : (P : A → Type 0) (f : A → ℕ) (xs : List A) → ((x : A) → P x → f x ≡ 0) → Each P xs → total f xs ≡ 0
  each_none P f [] none_of e = refl
  each_none P f (x ∷ xs) none_of e = let h = none_of x e.0 in let k = each_none P f xs none_of e.1 in omega arith

  -- beginnings
  pub begins_self : (xs : List A) → IsPrefix xs xs
  begins_self xs = ([], sym (append-nil xs))

  pub begins_same : (xs ys : List A) → xs ≡ ys → IsPrefix xs ys
  begins_same xs ys e = subst (λ (zs : List A). IsPrefix xs zs) e (begins_self xs)

  pub begins_on : (xs ys zs more : List A) → IsPrefix xs ys → zs ≡ ys ++ more → IsPrefix xs zs
  begins_on xs ys zs more p e = (p.0 ++ more, e ∙ ap (λ (k : List A). k ++ more) p.1 ∙ append_assoc xs p.0 more)

  pub begins_then : (xs ys zs : List A) → IsPrefix xs ys → IsPrefix ys zs → IsPrefix xs zs
  begins_then xs ys zs p q = begins_on xs ys zs q.0 p q.1

  pub begins_nil : (ys : List A) → IsPrefix [] ys
  begins_nil ys = (ys, refl)

  pub begins_length : (xs ys : List A) → IsPrefix xs ys → length xs ≤ length ys
  begins_length xs ys p = omega (arith, ap length p.1, length-append xs p.0)

  -- two beginnings of one list, of which the first is no longer
  pub begins_both : (xs ys zs : List A) → IsPrefix xs zs → IsPrefix ys zs → length xs ≤ length ys → IsPrefix xs ys
  begins_both [] ys zs p q le = (ys, refl)
  begins_both (x ∷ xs) [] zs p q le = absurd (omega arith)
  begins_both (x ∷ xs) (y ∷ ys) [] p q le = absurd (let h : [] ≡ x ∷ (xs ++ p.0) = p.1 in cc)
  begins_both (x ∷ xs) (y ∷ ys) (z ∷ zs) p q le =
      let a : z ∷ zs ≡ x ∷ (xs ++ p.0) = p.1 in
      let b : z ∷ zs ≡ y ∷ (ys ++ q.0) = q.1 in
      let tail : IsPrefix xs ys = begins_both xs ys zs (p.0, cc) (q.0, cc) (omega arith) in
      let head : x ≡ y = cc in
      let rest : ys ≡ xs ++ tail.0 = tail.1 in
      (tail.0, (cc))

-- numbers
pub same_self : (k : ℕ) → is_same k k ≡ 1
same_self k = ap (λ (b : Bool). cond b 1 0) (eq-eqb k k refl)

pub same_other : (k n : ℕ) → k ≢ n → is_same k n ≡ 0
same_other k n ne = ap (λ (b : Bool). cond b 1 0) (ne_eqb k n ne)

pub number_other : (m n : ℕ) (o : Option ℕ) → is_number m o ≡ 0 → o ≡ Some n → n ≢ m
number_other m n o z e same =
    let h : is_number m o ≡ 1 = ap (is_number m) (e ∙ ap (λ (k : ℕ). Some k) same) ∙ same_self m in omega arith

pub number_self : (m : ℕ) (o : Option ℕ) → o ≡ Some m → is_number m o ≡ 1
number_self m o e = ap (is_number m) e ∙ same_self m

pub below_none : (k n : ℕ) (own : List ℕ) → Each (λ m. m < n) own → n ≤ k → total (is_same k) own ≡ 0
below_none k n own e le = each_none (λ m. m < n) (is_same k) own (λ m lt. same_other k m (omega arith)) e

pub rises_more : (n : ℕ) (ns : List ℕ) → Rises ns → Each (λ k. k < n) ns → Rises (ns ++ n ∷ [])
rises_more n [] r e = (tt, tt)
rises_more n (m ∷ ms) r e = (each_append (λ k. m < k) ms (n ∷ []) r.0 (e.0, tt), rises_more n ms r.1 e.1)

-- lines
pub line_here : (ls : List Line) (n : ℕ) (l : Line) → n < length ls → line_of (set ls n l) n ≡ l
line_here [] n l lt = absurd (omega arith)
line_here (k ∷ ks) zero l lt = refl
line_here (k ∷ ks) (suc n) l lt = line_here ks n l (omega arith)

pub line_else : (ls : List Line) (m n : ℕ) (l : Line) → n ≢ m → line_of (set ls m l) n ≡ line_of ls n
line_else [] m n l ne = refl
line_else (k ∷ ks) zero zero l ne = absurd (ne refl)
line_else (k ∷ ks) zero (suc n) l ne = refl
line_else (k ∷ ks) (suc m) zero l ne = refl
line_else (k ∷ ks) (suc m) (suc n) l ne = line_else ks m n l (λ e. ne (ap suc e))

-- a number of a line, and the sum of all
pub line_total : (f : Line → ℕ) (ls : List Line) (n : ℕ) (l : Line) → n < length ls → total f (set ls n l) + f (line_of ls n) ≡ total f ls + f l
line_total f [] n l lt = absurd (omega arith)
line_total f (k ∷ ks) zero l lt = omega arith
line_total f (k ∷ ks) (suc n) l lt = let h = line_total f ks n l (omega arith) in omega arith

pub line_within : (f : Line → ℕ) (ls : List Line) (n : ℕ) → n < length ls → f (line_of ls n) ≤ total f ls
line_within f [] n lt = absurd (omega arith)
line_within f (k ∷ ks) zero lt = omega arith
line_within f (k ∷ ks) (suc n) lt = let h = line_within f ks n (omega arith) in omega arith
