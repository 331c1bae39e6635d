-- Laws of pieces that are sent one after another.
use Rattle.std.proofs.Common.{Option, ◌≡◌, ℕ, List, [], ◌∷◌, ◌++◌, Some, None, Ok, Err, Result, take, drop, refl, sym, ap, ◌∙◌, subst, append_assoc, append-nil, take-append-drop}
use Rattle.std.specs.List.{fold}
use Rattle.std.specs.Io.KnownBytes.{Appends}
use Rattle.std.proofs.lemmas.Grind.{fold-append}
use Rattle.st_base.specs.Pieces.{Puts}
use Rattle.st_base.specs.Outlets.{IsPrefix, SentAll, SentPart, Sends}

-- a prefix of a prefix
pub prefix_trans : (xs ys zs : List ℕ) → IsPrefix xs ys → IsPrefix ys zs → IsPrefix xs zs
prefix_trans xs ys zs (m, e) (n, f) = (m ++ n, f ∙ (ap (λ k. k ++ n) e ∙ append_assoc xs m n))

module _ {S : Type 0} (after : S → List ℕ → S) (gone : S → List ℕ) (grows : (s : S) (bytes : List ℕ) → IsPrefix (gone s) (gone (after s bytes))) where
  -- what has gone out stays out
  pub grows_all : (s : S) (ps : List (List ℕ)) → IsPrefix (gone s) (gone (fold after s ps))
  grows_all s [] = ([], sym (append-nil (gone s)))
  grows_all s (p ∷ ps) = prefix_trans (gone s) (gone (after s p)) (gone (fold after (after s p) ps)) (grows s p) (grows_all (after s p) ps)

  -- all of the one and then all of the other
  pub SentAll-then : (a b c : Option S) (xs ys : List (List ℕ)) → SentAll after a b xs → SentAll after b c ys → SentAll after a c (xs ++ ys)
  SentAll-then a b c xs ys h k s e = k (fold after s xs) (h s e) ∙ ap Some (sym (fold-append after s xs ys))

  -- a part of the one is a part of both
  pub SentPart-more : (a b : Option S) (xs ys : List (List ℕ)) → SentPart after gone a b xs → SentPart after gone a b (xs ++ ys)
  SentPart-more a b xs ys h s e =
      let (t, is, low, high) = h s e in
      let more = grows_all (fold after s xs) ys in
      (t, is, low, subst (λ z. IsPrefix (gone t) (gone z)) (sym (fold-append after s xs ys)) (prefix_trans (gone t) (gone (fold after s xs)) (gone (fold after (fold after s xs) ys)) high more))

  -- all of the one and then a part of the other
  pub SentPart-then : (a b c : Option S) (xs ys : List (List ℕ)) → SentAll after a b xs → SentPart after gone b c ys → SentPart after gone a c (xs ++ ys)
  SentPart-then a b c xs ys h k s e =
      let (t, now, low, high) = k (fold after s xs) (h s e) in
      (t, now, prefix_trans (gone s) (gone (fold after s xs)) (gone t) (grows_all s xs) low, subst (λ z. IsPrefix (gone t) (gone z)) (sym (fold-append after s xs ys)) high)

  -- all of the one and then what a call made of the other
  pub Sends-then : {T E : Type 0} (a b c : Option S) (xs ys : List (List ℕ)) (r : Result T E) → SentAll after a b xs → Sends after gone b c ys r → Sends after gone a c (xs ++ ys) r
  Sends-then a b c xs ys (Ok u) h k = SentAll-then a b c xs ys h k
  Sends-then a b c xs ys (Err e) h k = SentPart-then a b c xs ys h k

-- known bytes that grew are known
appends_known : (a b : Option (List ℕ)) (s bs : List ℕ) → a ≡ Some s → Appends a b bs → b ≡ Some (s ++ bs)
appends_known None b s bs e p = cc
appends_known (Some x) None s bs e p = absurd p
appends_known (Some x) (Some y) s bs e p = cc

-- what is put into a sink is sent as it is
pub sends_put : {T E : Type 0} (a b : Option (List ℕ)) (bytes : List ℕ) (r : Result T E) → Puts a b bytes r → Sends (λ s more. s ++ more) (λ s. s) a b (bytes ∷ []) r
sends_put a b bytes (Ok u) p = λ s e. appends_known a b s bytes e p
sends_put a b bytes (Err _) (n, p) = λ s e.
    (s ++ take n bytes, appends_known a b s (take n bytes) e p, (take n bytes, refl), (drop n bytes, ap (λ k. s ++ k) (sym (take-append-drop n bytes)) ∙ sym (append_assoc s (take n bytes) (drop n bytes))))
