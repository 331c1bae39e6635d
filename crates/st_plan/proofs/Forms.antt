-- What a word looks like.
use Rattle.std.proofs.Common.{◌≡◌, ℕ, true, false, not, ◌==◌, [], ◌∷◌, ◌++◌, Some, None, refl, sym, ap, ◌∙◌, subst, codes, arith, ◌+◌, suc, cond}
use Rattle.std.specs.List.{before_first, after_first, prefix_len}
use Rattle.std.specs.Str.{bytes_eq}
use Rattle.std.proofs.lemmas.Bool.Decides.{Decides-eqb}
use Rattle.clap.specs.Words.{Text}
use Rattle.clap.specs.Lexer.{long_of, short_of, has_byte}
use Rattle.st_plan.specs.Line.{is_plain}

-- `--`, a word that is no option, `--name`, `--name=value`, or a hyphen with letters
pub data Form (w : Text) : Type 0 where
  stop : w ≡ codes "--" → Form w
  plain : is_plain w ≡ true → Form w
  named : (n : Text) → w ≡ codes "--" ++ n → bytes_eq w (codes "--") ≡ false → long_of w ≡ Some (n, None) → Form w
  joined : (n v : Text) → w ≡ codes "--" ++ (n ++ 61 ∷ v) → bytes_eq w (codes "--") ≡ false → long_of w ≡ Some (n, Some v) → Form w
  letters : (y : ℕ) (more : Text) → w ≡ 45 ∷ (y ∷ more) → bytes_eq w (codes "--") ≡ false → long_of w ≡ None → short_of w ≡ Some (y ∷ more) → Form w

-- a text before and behind its first equals sign
split : (t : Text) → has_byte 61 t ≡ true → before_first (λ x. x == 61) t ++ 61 ∷ after_first (λ x. x == 61) t ≡ t
split [] h = absurd cc
split (x ∷ t) h =
    let n = prefix_len (λ c. not (c == 61)) t in
    let further : 1 + n + 1 ≡ suc (n + 1) = omega arith in
    let step : 1 + n ≡ suc n = omega arith in
    elim (x == 61) as (λ b. (x == 61) ≡ b → before_first (λ c. c == 61) (x ∷ t) ++ 61 ∷ after_first (λ c. c == 61) (x ∷ t) ≡ x ∷ t) [
      | true ↦ λ e. rw e (ap (λ y. y ∷ t) (sym ((Decides-eqb x 61).0 e)))
      | false ↦ λ e. let less = rw e at h in rw (e, further, step) (ap (λ r. x ∷ r) (split t less))
    ] refl

whole : (t : Text) → has_byte 61 t ≡ false → before_first (λ x. x == 61) t ≡ t
whole [] h = refl
whole (x ∷ t) h =
    let n = prefix_len (λ c. not (c == 61)) t in
    let step : 1 + n ≡ suc n = omega arith in
    elim (x == 61) as (λ b. (x == 61) ≡ b → before_first (λ c. c == 61) (x ∷ t) ≡ x ∷ t) [
      | true ↦ λ e. let bad = rw e at h in absurd cc
      | false ↦ λ e. let less = rw e at h in rw (e, step) (ap (λ r. x ∷ r) (whole t less))
    ] refl

double : (t : Text) → Form (45 ∷ (45 ∷ t))
double [] = stop refl
double (z ∷ t) =
    elim (has_byte 61 (z ∷ t)) as (λ b. has_byte 61 (z ∷ t) ≡ b → Form (45 ∷ (45 ∷ (z ∷ t)))) [
      | true ↦ λ e. joined (before_first (λ x. x == 61) (z ∷ t)) (after_first (λ x. x == 61) (z ∷ t))
          (ap (λ r. 45 ∷ (45 ∷ r)) (sym (split (z ∷ t) e))) refl (ap (λ b. Some (before_first (λ x. x == 61) (z ∷ t), cond b (Some (after_first (λ x. x == 61) (z ∷ t))) None)) e)
      | false ↦ λ e. named (z ∷ t) refl refl
          (ap (λ b. Some (before_first (λ x. x == 61) (z ∷ t), cond b (Some (after_first (λ x. x == 61) (z ∷ t))) None)) e ∙ ap (λ n. Some (n, None)) (whole (z ∷ t) e))
    ] refl

hyphen : (y : ℕ) (more : Text) → Form (45 ∷ (y ∷ more))
hyphen y more =
    elim (y == 45) as (λ b. (y == 45) ≡ b → Form (45 ∷ (y ∷ more))) [
      | true ↦ λ e. subst (λ c. Form (45 ∷ (c ∷ more))) (sym ((Decides-eqb y 45).0 e)) (double more)
      | false ↦ λ e. letters y more refl (rw e refl) (rw e refl) (rw e refl)
    ] refl

pub form : (w : Text) → Form w
form [] = plain refl
form (x ∷ []) = plain refl
form (x ∷ (y ∷ more)) =
    elim (x == 45) as (λ b. (x == 45) ≡ b → Form (x ∷ (y ∷ more))) [
      | true ↦ λ e. subst (λ c. Form (c ∷ (y ∷ more))) (sym ((Decides-eqb x 45).0 e)) (hyphen y more)
      | false ↦ λ e. plain (rw e refl)
    ] refl
