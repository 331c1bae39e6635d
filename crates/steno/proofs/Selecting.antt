-- Records are selected one after the other.
use Rattle.std.proofs.Common.{List, [], ◌∷◌, ◌++◌, refl, ap, inl, inr}
use Rattle.st_base.specs.Records.{Rec}
use Rattle.steno.specs.Gathering.{Selects, KeepsMatch}

pub passed : (M : Rec → Type 0) (rs kept : List Rec) (r : Rec) → Selects M rs kept → (M r → ⊥) → Selects M (rs ++ r ∷ []) kept
passed M [] kept r h other = inl (other, h)
passed M (x ∷ rs) kept r (inl h) other = inl (h.0, passed M rs kept r h.1 other)
passed M (x ∷ rs) kept r (inr h) other = inr (h.0, (h.1.0, h.1.1, passed M rs h.1.0 r h.1.2 other))

pub taken : (M : Rec → Type 0) (rs kept : List Rec) (r : Rec) → Selects M rs kept → M r → Selects M (rs ++ r ∷ []) (kept ++ r ∷ [])
taken M [] kept r h here = inr (here, ([], ap (λ ks. ks ++ r ∷ []) h, refl))
taken M (x ∷ rs) kept r (inl h) here = inl (h.0, taken M rs kept r h.1 here)
taken M (x ∷ rs) kept r (inr h) here =
    inr (h.0, (h.1.0 ++ r ∷ [], ap (λ ks. ks ++ r ∷ []) h.1.1, taken M rs h.1.0 r h.1.2 here))

-- the next record was kept where it matches
pub selects-more : (M : Rec → Type 0) (rs old new : List Rec) (r : Rec) → Selects M rs old → KeepsMatch M r old new → Selects M (rs ++ r ∷ []) new
selects-more M rs old new r h (inl k) = rw k.1 (passed M rs old r h k.0)
selects-more M rs old new r h (inr k) = rw k.1 (taken M rs old r h k.0)
