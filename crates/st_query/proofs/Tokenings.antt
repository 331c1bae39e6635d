-- A text begins with one list of tokens at most, of each length.
use Rattle.std.proofs.Common.{◌≡◌, ℕ, ◌+◌, List, [], ◌∷◌, ◌++◌, length, take, drop, refl, sym, ◌∙◌, ap, subst, arith, inl, inr, append-nil, length-append, ◌⊎◌}
use Rattle.std.specs.List.{prefix_len}
use Rattle.std.proofs.Math.Seq.{take-append_seam, drop-append_seam}
use Rattle.st_query.specs.declared.tokens.Token.{Token}
use Rattle.st_query.specs.Tokens.{is_space, EndsRun, IsBlank, IsPiece}
use Rattle.st_query.specs.Spelling.{Starts}
use Rattle.st_query.proofs.Pieces.{run_len, SamePiece, same_piece, piece_ends}

-- white space before a token is of one length
pub same_gap : (text gap other more rest : List ℕ) → text ≡ gap ++ more → text ≡ other ++ rest → IsBlank gap → IsBlank other → EndsRun is_space more → EndsRun is_space rest → (gap ≡ other) × (more ≡ rest)
same_gap text gap other more rest e f b c x y =
    let lengths : length gap ≡ length other = sym (run_len is_space gap more b x) ∙ ap (prefix_len is_space) (sym e ∙ f) ∙ run_len is_space other rest c y in (
      sym (take-append_seam gap more) ∙ ap (λ (n : ℕ). take n (gap ++ more)) lengths ∙ ap (take (length other)) (sym e ∙ f) ∙ take-append_seam other rest,
      sym (drop-append_seam gap more) ∙ ap (λ (n : ℕ). drop n (gap ++ more)) lengths ∙ ap (drop (length other)) (sym e ∙ f) ∙ drop-append_seam other rest,
    )

-- a text begins with one token at most, and what follows it is one
pub same_token : (text gap piece more gap2 piece2 more2 : List ℕ) (t u : Token) → text ≡ gap ++ (piece ++ more) → IsBlank gap → IsPiece t piece more → text ≡ gap2 ++ (piece2 ++ more2) → IsBlank gap2 → IsPiece u piece2 more2 → SamePiece t u piece piece2 more more2
same_token text gap piece more gap2 piece2 more2 t u e b h f c k =
    same_piece t u piece piece2 more more2 h k (same_gap text gap gap2 (piece ++ more) (piece2 ++ more2) e f b c (piece_ends t piece more h).0 (piece_ends u piece2 more2 k).0).1

-- of two lists of tokens that a text begins with, one goes on from the other
abbrev pub GoesOn : List Token → List ℕ → List Token → List ℕ → Type 0
GoesOn ts r us q = (vs : List Token) × (us ≡ ts ++ vs) × Starts r vs q

pub longer : (t u : Token) (ts us : List Token) (r q : List ℕ) → t ≡ u → GoesOn ts r us q ⊎ GoesOn us q ts r → GoesOn (t ∷ ts) r (u ∷ us) q ⊎ GoesOn (u ∷ us) q (t ∷ ts) r
longer t u ts us r q e (inl (vs, f, s)) = inl (vs, cc, s)
longer t u ts us r q e (inr (vs, f, s)) = inr (vs, cc, s)

pub together : (ts us : List Token) (text r q : List ℕ) → Starts text ts r → Starts text us q → GoesOn ts r us q ⊎ GoesOn us q ts r
together [] us text r q h k = inl (us, refl, subst (λ (x : List ℕ). Starts x us q) h k)
together (t ∷ ts) [] text r q h k = inr (t ∷ ts, refl, subst (λ (x : List ℕ). Starts x (t ∷ ts) r) k h)
together (t ∷ ts) (u ∷ us) text r q (gap, piece, more, e, b, h, starts) (gap2, piece2, more2, f, c, k, starts2) =
    let same = same_token text gap piece more gap2 piece2 more2 t u e b h f c k in
    longer t u ts us r q same.tokens (together ts us more r q starts (subst (λ (x : List ℕ). Starts x us q) (sym same.mores) starts2))

-- white space alone has no token
pub blank_none : (rest gap piece more : List ℕ) (t : Token) → IsBlank rest → rest ≡ gap ++ (piece ++ more) → IsBlank gap → IsPiece t piece more → ⊥
blank_none rest gap piece more t blank e b h =
    let all : prefix_len is_space rest ≡ length rest = ap (prefix_len is_space) (sym (append-nil rest)) ∙ run_len is_space rest [] blank tt in
    let front : prefix_len is_space rest ≡ length gap = ap (prefix_len is_space) e ∙ run_len is_space gap (piece ++ more) b (piece_ends t piece more h).0 in
    let whole : length rest ≡ length gap + (length piece + length more) = ap length e ∙ length-append gap (piece ++ more) ∙ ap (λ (n : ℕ). length gap + n) (length-append piece more) in
    let some = (piece_ends t piece more h).1 in
    omega arith

pub blank_ends : (rest : List ℕ) (vs : List Token) (q : List ℕ) → IsBlank rest → Starts rest vs q → (vs ≡ []) × (rest ≡ q)
blank_ends rest [] q blank h = (refl, h)
blank_ends rest (v ∷ vs) q blank (gap, piece, more, e, b, h, starts) = absurd (blank_none rest gap piece more v blank e b h)

-- two lists of all tokens of a text are one
pub whole_same : (text : List ℕ) (ts us : List Token) (r q : List ℕ) → Starts text ts r → Starts text us q → IsBlank r → IsBlank q → ts ≡ us
whole_same text ts us r q h k blank blank2 =
    elim (together ts us text r q h k) [
      | inl (vs, e, s) ↦ sym (append-nil ts) ∙ ap (λ (xs : List Token). ts ++ xs) (sym (blank_ends r vs q blank s).0) ∙ sym e
      | inr (vs, e, s) ↦ e ∙ ap (λ (xs : List Token). us ++ xs) (blank_ends q vs r blank2 s).0 ∙ append-nil us
    ]
