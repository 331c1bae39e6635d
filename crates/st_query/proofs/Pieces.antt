-- A text begins with one token at most.
use Rattle.std.proofs.Common.{◌≡◌, ℕ, suc, ◌<◌, nat_lt, nat_eq, Bool, true, false, if◌then◌else◌, List, [], ◌∷◌, ◌++◌, length, take, drop, Option, Some, None, MatchOption, refl, sym, ◌∙◌, ap, subst, arith, inl, inr, codes, IsTrue, All}
use Rattle.std.specs.List.{prefix_len}
use Rattle.std.specs.Str.{bytes_eq}
use Rattle.std.proofs.lemmas.Bool.Decides.{nat_tests}
use Rattle.std.proofs.lemmas.Slice.Eq.{bytes_eq-Decides}
use Rattle.std.proofs.lemmas.Bool.{false_from_ne_true}
use Rattle.std.proofs.lemmas.List.Elements.{All-head, All-tail, All-nil}
use Rattle.std.proofs.Math.Seq.{take-append_seam, drop-append_seam}
use Rattle.st_query.specs.declared.addrs.Addr.{Addr}
use Rattle.st_query.specs.declared.tokens.Token.TheVariants as token
use Rattle.st_query.specs.declared.tokens.Token.{Token}
use Rattle.st_query.specs.Tokens.{is_space, is_word_byte, EndsRun, Begins, HasMask, IsWord, IsValue, IsStray, IsPiece, keyword}
use Rattle.st_query.proofs.WordLaws.{number_unique, address_unique, net_unique, mask_unique, instant_unique, span_unique, number_not_address, number_not_net, number_not_instant, number_not_span, address_not_net, address_not_instant, address_not_span, net_not_instant, net_not_span, instant_not_span}

-- a longest run is all of the front
pub run_len : (p : ℕ → Bool) (xs ys : List ℕ) → All (λ b. IsTrue (p b)) xs → EndsRun p ys → prefix_len p (xs ++ ys) ≡ length xs
run_len p [] [] h e = refl
run_len p [] (y ∷ ys) h e = rw e refl
run_len p (x ∷ xs) ys h e =
    let here : p x ≡ true = All-head (λ b. IsTrue (p b)) x xs h in
    let more = run_len p xs ys (All-tail (λ b. IsTrue (p b)) x xs h) e in
    rw here (omega arith)

-- what a text begins with
data Shape : Type 0 where
  opens : Shape
  closes : Shape
  ands : Shape
  ors : Shape
  word : Shape
  stray : Shape

front : List ℕ → Shape × ℕ
front text =
    if bytes_eq (take 1 text) (codes "(") then (opens, 1)
    else (if bytes_eq (take 1 text) (codes ")") then (closes, 1)
    else (if bytes_eq (take 2 text) (codes "&&") then (ands, 2)
    else (if bytes_eq (take 2 text) (codes "||") then (ors, 2)
    else (if nat_lt 0 (prefix_len is_word_byte text) then (word, prefix_len is_word_byte text)
    else (stray, 1)))))

Fits : Shape → Token → List ℕ → Type 0
Fits opens t piece = t ≡ token.Open
Fits closes t piece = t ≡ token.Close
Fits ands t piece = t ≡ token.And
Fits ors t piece = t ≡ token.Or
Fits word t piece = IsWord piece t
Fits stray t piece = t ≡ token.Stray

-- a word byte is no mark
no_mark : (b m : ℕ) → IsTrue (is_word_byte b) → is_word_byte m ≡ false → nat_eq b m ≡ false
no_mark b m h not_word = elim (nat_eq b m) as (λ c. nat_eq b m ≡ c → c ≡ false) [
  | true ↦ λ e. let same : b ≡ m = grind (arith, nat_tests) in let never : true ≡ false = sym (subst (λ (x : ℕ). is_word_byte x ≡ true) same h) ∙ not_word in cc
  | false ↦ λ e. refl
] refl

no_space : (b : ℕ) → IsTrue (is_word_byte b) → is_space b ≡ false
no_space b h = rw (no_mark b 32 h refl, no_mark b 9 h refl, no_mark b 13 h refl, no_mark b 10 h refl) refl

word_front : (b : ℕ) (bs more : List ℕ) → All (λ c. IsTrue (is_word_byte c)) (b ∷ bs) → EndsRun is_word_byte more → front (b ∷ (bs ++ more)) ≡ (word, suc (length bs))
unfolding front
word_front b bs more h e =
    let here : is_word_byte b ≡ true = All-head (λ c. IsTrue (is_word_byte c)) b bs h in
    let run : prefix_len is_word_byte (b ∷ (bs ++ more)) ≡ suc (length bs) = run_len is_word_byte (b ∷ bs) more h e in
    let some : nat_lt 0 (suc (length bs)) ≡ true = grind (arith, nat_tests) in
    rw (no_mark b 40 here refl, no_mark b 41 here refl, no_mark b 38 here refl, no_mark b 124 here refl, run, some) refl

lacks : (text mark : List ℕ) → (Begins text mark → ⊥) → bytes_eq (take (length mark) text) mark ≡ false
lacks text mark h = false_from_ne_true (bytes_eq (take (length mark) text) mark) (λ e. h ((bytes_eq-Decides (take (length mark) text) mark).0 e))

stray_front : (text : List ℕ) → IsStray text → front text ≡ (stray, 1)
unfolding front
stray_front text (some, space, ends, no_open, no_close, no_and, no_or) =
    let none : prefix_len is_word_byte text ≡ 0 = run_len is_word_byte [] text (All-nil (λ b. IsTrue (is_word_byte b))) ends in
    rw (lacks text (codes "(") no_open, lacks text (codes ")") no_close, lacks text (codes "&&") no_and, lacks text (codes "||") no_or, none) refl

shape : (t : Token) (piece more : List ℕ) → IsPiece t piece more → (s : Shape) × (front (piece ++ more) ≡ (s, length piece)) × Fits s t piece
unfolding front Fits
shape t piece more (inl h) = (opens, rw h.1 refl, h.0)
shape t piece more (inr (inl h)) = (closes, rw h.1 refl, h.0)
shape t piece more (inr (inr (inl h))) = (ands, rw h.1 refl, h.0)
shape t piece more (inr (inr (inr (inl h)))) = (ors, rw h.1 refl, h.0)
shape t [] more (inr (inr (inr (inr (inl h))))) = absurd (omega (arith, h.1))
shape t (b ∷ bs) more (inr (inr (inr (inr (inl (is_word, some, bytes, ends)))))) = (word, word_front b bs more bytes ends, is_word)
shape t piece more (inr (inr (inr (inr (inr (is, one, strange)))))) = (stray, rw one (stray_front (piece ++ more) strange), is)

option_mask_unique : (a : Addr) (m n : Option ℕ) → HasMask a m → HasMask a n → m ≡ n
option_mask_unique a None None h k = refl
option_mask_unique a None (Some n) h k = absurd (h n k)
option_mask_unique a (Some m) None h k = absurd (k m h)
option_mask_unique a (Some m) (Some n) h k = ap Some (mask_unique a m n h k)

address_token : (w : List ℕ) (a b : Addr) (m n : Option ℕ) → a ≡ b → HasMask a m → HasMask b n → token.Address a m ≡ token.Address b n
address_token w a b m n e h k =
    let masks : m ≡ n = option_mask_unique b m n (subst (λ (c : Addr). HasMask c m) e h) k in
    cc

-- a word is one value at most
value_unique : (w : List ℕ) (t u : Token) → IsValue w t → IsValue w u → t ≡ u
value_unique w (token.Number m) (token.Number n) h k = ap token.Number (number_unique 10 w m n h k)
value_unique w (token.Number m) (token.Address a x) h k = absurd (number_not_address 10 w m a h k.0)
value_unique w (token.Number m) (token.Net a n) h k = absurd (number_not_net 10 w m a n h k)
value_unique w (token.Number m) (token.Instant t) h k = absurd (number_not_instant 10 w m t h k)
value_unique w (token.Number m) (token.Span n b) h k = absurd (number_not_span 10 w m n b h k)
value_unique w (token.Number m) token.Other h k = absurd (k.number m h)
value_unique w (token.Address a x) (token.Number m) h k = absurd (number_not_address 10 w m a k h.0)
value_unique w (token.Address a x) (token.Address b y) h k = address_token w a b x y (address_unique w a b h.0 k.0) h.1 k.1
value_unique w (token.Address a x) (token.Net b n) h k = absurd (address_not_net w a b n h.0 k)
value_unique w (token.Address a x) (token.Instant t) h k = absurd (address_not_instant w a t h.0 k)
value_unique w (token.Address a x) (token.Span n b) h k = absurd (address_not_span w a n b h.0 k)
value_unique w (token.Address a x) token.Other h k = absurd (k.address a h.0)
value_unique w (token.Net a m) (token.Number n) h k = absurd (number_not_net 10 w n a m k h)
value_unique w (token.Net a m) (token.Address b y) h k = absurd (address_not_net w b a m k.0 h)
value_unique w (token.Net a m) (token.Net b n) h k = let e = net_unique w a b m n h k in let x = e.0 in let y = e.1 in cc
value_unique w (token.Net a m) (token.Instant t) h k = absurd (net_not_instant w a m t h k)
value_unique w (token.Net a m) (token.Span n b) h k = absurd (net_not_span w a m n b h k)
value_unique w (token.Net a m) token.Other h k = absurd (k.net a m h)
value_unique w (token.Instant s) (token.Number n) h k = absurd (number_not_instant 10 w n s k h)
value_unique w (token.Instant s) (token.Address b y) h k = absurd (address_not_instant w b s k.0 h)
value_unique w (token.Instant s) (token.Net b n) h k = absurd (net_not_instant w b n s k h)
value_unique w (token.Instant s) (token.Instant t) h k = ap token.Instant (instant_unique w s t h k)
value_unique w (token.Instant s) (token.Span n b) h k = absurd (instant_not_span w s n b h k)
value_unique w (token.Instant s) token.Other h k = absurd (k.instant s h)
value_unique w (token.Span m b) (token.Number n) h k = absurd (number_not_span 10 w n m b k h)
value_unique w (token.Span m b) (token.Address a y) h k = absurd (address_not_span w a m b k.0 h)
value_unique w (token.Span m b) (token.Net a n) h k = absurd (net_not_span w a n m b k h)
value_unique w (token.Span m b) (token.Instant t) h k = absurd (instant_not_span w t m b k h)
value_unique w (token.Span m b) (token.Span n c) h k = let e = span_unique w m n b c h k in let x = e.0 in let y = e.1 in cc
value_unique w (token.Span m b) token.Other h k = absurd (k.span m b h)
value_unique w token.Other (token.Number n) h k = absurd (h.number n k)
value_unique w token.Other (token.Address a y) h k = absurd (h.address a k.0)
value_unique w token.Other (token.Net a n) h k = absurd (h.net a n k)
value_unique w token.Other (token.Instant t) h k = absurd (h.instant t k)
value_unique w token.Other (token.Span n b) h k = absurd (h.span n b k)
value_unique w token.Other token.Other h k = refl
value_unique w token.Stray u h k = absurd h
value_unique w token.Open u h k = absurd h
value_unique w token.Close u h k = absurd h
value_unique w token.And u h k = absurd h
value_unique w token.Or u h k = absurd h
value_unique w (token.Key x) u h k = absurd h
value_unique w t u h k = absurd k

word_unique : (w : List ℕ) (t u : Token) → IsWord w t → IsWord w u → t ≡ u
word_unique w t u h k =
    elim (keyword w) as (λ o. MatchOption o (IsValue w t) (λ x. t ≡ x) → MatchOption o (IsValue w u) (λ x. u ≡ x) → t ≡ u) [
      | None ↦ λ a b. value_unique w t u a b
      | Some x ↦ λ a b. a ∙ sym b
    ] h k

fits_unique : (s : Shape) (t u : Token) (piece : List ℕ) → Fits s t piece → Fits s u piece → t ≡ u
unfolding Fits
fits_unique opens t u piece h k = h ∙ sym k
fits_unique closes t u piece h k = h ∙ sym k
fits_unique ands t u piece h k = h ∙ sym k
fits_unique ors t u piece h k = h ∙ sym k
fits_unique word t u piece h k = word_unique piece t u h k
fits_unique stray t u piece h k = h ∙ sym k

-- a text begins with one token at most, of one piece
pub record SamePiece (t u : Token) (piece other more rest : List ℕ) : Type 0 where
  pub tokens : t ≡ u
  pub pieces : piece ≡ other
  pub mores : more ≡ rest

pub same_piece : (t u : Token) (piece other more rest : List ℕ) → IsPiece t piece more → IsPiece u other rest → piece ++ more ≡ other ++ rest → SamePiece t u piece other more rest
same_piece t u piece other more rest h k e =
    let (s, fs, ft) = shape t piece more h in
    let (r, fr, fu) = shape u other rest k in
    let fronts : (s, length piece) ≡ (r, length other) = sym fs ∙ ap front e ∙ fr in
    let shapes : s ≡ r = ap (λ (x : Shape × ℕ). x.0) fronts in
    let lengths : length piece ≡ length other = ap (λ (x : Shape × ℕ). x.1) fronts in
    let pieces : piece ≡ other = sym (take-append_seam piece more) ∙ ap (λ (n : ℕ). take n (piece ++ more)) lengths ∙ ap (take (length other)) e ∙ take-append_seam other rest in
    let mores : more ≡ rest = sym (drop-append_seam piece more) ∙ ap (λ (n : ℕ). drop n (piece ++ more)) lengths ∙ ap (drop (length other)) e ∙ drop-append_seam other rest in
    record {
      tokens = fits_unique r t u other (subst (λ (x : Shape). Fits x t other) shapes (subst (λ (p : List ℕ). Fits s t p) pieces ft)) fu;
      pieces = pieces;
      mores = mores;
    }

-- a token begins with no white space
pub piece_ends : (t : Token) (piece more : List ℕ) → IsPiece t piece more → EndsRun is_space (piece ++ more) × (0 < length piece)
piece_ends t piece more (inl h) = rw h.1 (refl, omega arith)
piece_ends t piece more (inr (inl h)) = rw h.1 (refl, omega arith)
piece_ends t piece more (inr (inr (inl h))) = rw h.1 (refl, omega arith)
piece_ends t piece more (inr (inr (inr (inl h)))) = rw h.1 (refl, omega arith)
piece_ends t [] more (inr (inr (inr (inr (inl h))))) = absurd (omega (arith, h.1))
piece_ends t (b ∷ bs) more (inr (inr (inr (inr (inl (is_word, some, bytes, ends)))))) = (no_space b (All-head (λ c. IsTrue (is_word_byte c)) b bs bytes), some)
piece_ends t piece more (inr (inr (inr (inr (inr (is, one, strange)))))) = (strange.1, omega arith)
