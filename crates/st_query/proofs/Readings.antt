-- A text has one query or one refusal.
use Rattle.std.proofs.Common.{◌≡◌, ℕ, ◌+◌, ◌<◌, List, [], ◌∷◌, ◌++◌, length, Option, Some, None, refl, sym, ◌∙◌, ap, subst, arith, inl, inr, ℤ, append_assoc, append-nil, ◌⊎◌, option_and_then}
use Rattle.st_query.specs.declared.addrs.Addr.{Addr}
use Rattle.st_query.specs.declared.addrs.Addr.TheVariants.{V4, V6}
use Rattle.st_query.specs.declared.tokens.Token.TheVariants as token
use Rattle.st_query.specs.declared.tokens.Token.{Token}
use Rattle.st_query.specs.declared.tokens.Keyword.TheVariants as key
use Rattle.st_query.specs.declared.errors.QueryErr.{QueryErr}
use Rattle.st_query.specs.declared.errors.QueryErr.TheVariants as err
use Rattle.st_query.specs.declared.nodes.Node.{Node}
use Rattle.st_query.specs.declared.automaton.Kind.{Kind}
use Rattle.st_query.specs.declared.automaton.Kind.TheVariants as kind
use Rattle.st_query.specs.declared.automaton.Want.TheVariants as want
use Rattle.st_query.specs.Trees.{Tree, tree}
use Rattle.st_query.specs.Tokens.{IsBlank, IsPiece}
use Rattle.st_query.specs.Grammar.{Query, CanGoOn, WantsNumber, WantsAddress, WantsTime, WantsItem, HasKind}
use Rattle.st_query.specs.Spelling.{Starts, IsSpelled, IsRefused, Spells, Refuses}
use Rattle.st_query.specs.Automaton.{HalfView, PhaseView, Reading, Joined, ParserState, start, step, run, kind_of}
use Rattle.st_query.specs.Parser.{error_at}
use Rattle.st_query.specs.Laws.{OneSpelling, OneRefusal, NotBoth}
use Rattle.st_query.proofs.NodeTrees.{one_node}
use Rattle.st_query.proofs.GrammarKinds.{passes, stops, run_append}
use Rattle.st_query.proofs.GrammarStates.{goes_before}
use Rattle.st_query.proofs.Tokenings.{same_token, together, blank_none, blank_ends, whole_same}

same_state : (a b : ParserState) → Some a ≡ Some b → a ≡ b
same_state a b e = cc

same_tree : (a b : Tree) → Joined a ≡ Joined b → a ≡ b
same_tree a b e = cc

-- one query of a list of tokens at most
pub query_unique : (ts : List Token) (a b : Tree) → Query 0 ts a → Query 0 ts b → a ≡ b
query_unique ts a b h k =
    let states = same_state (Joined a, []) (Joined b, []) (sym (passes ts a h) ∙ passes ts b k) in
    same_tree a b (ap (λ (s : ParserState). s.0) states)

-- a text spells one query at most
pub one_tree : (text : List ℕ) (a b : Tree) → IsSpelled text a → IsSpelled text b → a ≡ b
one_tree text a b (ts, r, starts, blank, query) (us, q, starts2, blank2, query2) =
    let same = whole_same text ts us r q starts starts2 blank blank2 in
    query_unique us a b (subst (λ (xs : List Token). Query 0 xs a) same query) query2

-- what comes behind the tokens that can go on: a token that ends them, or the end of the text
abbrev pub NextIs : List ℕ → ℕ → Option Token → Type 0
NextIs rest left None = IsBlank rest × (left ≡ 0)
NextIs rest left (Some t) = (gap : List ℕ) × (piece : List ℕ) × (more : List ℕ) × (rest ≡ gap ++ (piece ++ more)) × IsBlank gap × IsPiece t piece more × (left ≡ length piece + length more)

abbrev pub Bars : List Token → Option Token → Type 0
Bars ts None = (q : Tree) → Query 0 ts q → ⊥
Bars ts (Some t) = CanGoOn (ts ++ t ∷ []) → ⊥

next_unique : (rest : List ℕ) (l m : ℕ) (o p : Option Token) → NextIs rest l o → NextIs rest m p → (o ≡ p) × (l ≡ m)
next_unique rest l m None None h k = (refl, h.1 ∙ sym k.1)
next_unique rest l m None (Some u) h (gap, piece, more, e, b, is, left) = absurd (blank_none rest gap piece more u h.0 e b is)
next_unique rest l m (Some t) None (gap, piece, more, e, b, is, left) k = absurd (blank_none rest gap piece more t k.0 e b is)
next_unique rest l m (Some t) (Some u) (gap, piece, more, e, b, h, left) (gap2, piece2, more2, f, c, k, left2) =
    let same = same_token rest gap piece more gap2 piece2 more2 t u e b h f c k in
    let p = same.pieces in
    let q = same.mores in
    (ap Some same.tokens, left ∙ ap (λ (x : List ℕ). length x + length more) p ∙ ap (λ (x : List ℕ). length piece2 + length x) q ∙ sym left2)

-- nothing that can go on or is a query lies behind the end of a refused front
no_longer : (ts : List Token) (rest : List ℕ) (l : ℕ) (o : Option Token) (v : Token) (vs : List Token) (q : List ℕ) → NextIs rest l o → Bars ts o → Starts rest (v ∷ vs) q → CanGoOn (ts ++ v ∷ vs) → ⊥
no_longer ts rest l None v vs q h bars (gap, piece, more, e, b, is, starts) more_tokens = blank_none rest gap piece more v h.0 e b is
no_longer ts rest l (Some t) v vs q (gap, piece, more, e, b, h, left) bars (gap2, piece2, more2, f, c, k, starts) more_tokens =
    let same = same_token rest gap piece more gap2 piece2 more2 t v e b h f c k in
    bars (rw same.tokens (goes_before (ts ++ v ∷ []) vs (rw (append_assoc ts (v ∷ []) vs) more_tokens)))

-- the state of the pass behind tokens that can go on
has_state : (ts : List Token) → CanGoOn ts → (x : ParserState) × (run [] start ts ≡ Some x)
has_state ts (more, q, query) =
    let whole = sym (run_append ts more [] start) ∙ passes (ts ++ more) q query in
    elim (run [] start ts) as (λ o. option_and_then (λ (x : ParserState). run x.1 x.0 more) o ≡ Some (Joined q, []) → (x : ParserState) × (o ≡ Some x)) [
      | None ↦ λ e. absurd (cc)
      | Some x ↦ λ e. (x, refl)
    ] whole

-- the kind of what is wanted
abbrev pub kind_at : PhaseView → Kind
kind_at (Reading w half) = kind_of w
kind_at (Joined q) = kind.Syntax

number_at : (hs : List (Option HalfView)) (s : PhaseView) (n : ℕ) → (step hs s (token.Number n) ≡ None → ⊥) → kind_at s ≡ kind.Number
number_at hs (Joined q) n h = absurd (h refl)
number_at hs (Reading want.Port half) n h = refl
number_at hs (Reading want.Proto half) n h = refl
number_at hs (Reading want.Vlan half) n h = refl
number_at hs (Reading want.Mpls half) n h = refl
number_at hs (Reading (want.MaskOf (V4 a)) half) n h = absurd (h refl)
number_at hs (Reading (want.MaskOf (V6 a)) half) n h = absurd (h refl)
number_at hs (Reading w half) n h = absurd (h refl)

address_at : (hs : List (Option HalfView)) (s : PhaseView) (a : Addr) (m : Option ℕ) → (step hs s (token.Address a m) ≡ None → ⊥) → kind_at s ≡ kind.Address
address_at hs (Joined q) a m h = absurd (h refl)
address_at hs (Reading want.Host half) a m h = refl
address_at hs (Reading want.Net half) a m h = refl
address_at hs (Reading (want.MaskOf b) half) a m h = refl
address_at hs (Reading w half) a m h = absurd (h refl)

time_at : (hs : List (Option HalfView)) (s : PhaseView) (t : ℤ) → (step hs s (token.Instant t) ≡ None → ⊥) → kind_at s ≡ kind.Time
time_at hs (Joined q) t h = absurd (h refl)
time_at hs (Reading want.Before half) t h = refl
time_at hs (Reading want.After half) t h = refl
time_at hs (Reading (want.MaskOf (V4 a)) half) t h = absurd (h refl)
time_at hs (Reading (want.MaskOf (V6 a)) half) t h = absurd (h refl)
time_at hs (Reading w half) t h = absurd (h refl)

item_at : (hs : List (Option HalfView)) (s : PhaseView) → (step hs s (token.Key key.Icmp) ≡ None → ⊥) → kind_at s ≡ kind.Syntax
item_at hs (Joined q) h = refl
item_at hs (Reading want.Item half) h = refl
item_at hs (Reading (want.MaskOf (V4 a)) half) h = absurd (h refl)
item_at hs (Reading (want.MaskOf (V6 a)) half) h = absurd (h refl)
item_at hs (Reading w half) h = absurd (h refl)

wants_number : (ts : List Token) (x : ParserState) → run [] start ts ≡ Some x → WantsNumber ts → kind_at x.0 ≡ kind.Number
wants_number ts x e (n, more) = number_at x.1 x.0 n (λ none. stops ts (token.Number n) x.1 x.0 e none more)

wants_address : (ts : List Token) (x : ParserState) → run [] start ts ≡ Some x → WantsAddress ts → kind_at x.0 ≡ kind.Address
wants_address ts x e (a, m, more) = address_at x.1 x.0 a m (λ none. stops ts (token.Address a m) x.1 x.0 e none more)

wants_time : (ts : List Token) (x : ParserState) → run [] start ts ≡ Some x → WantsTime ts → kind_at x.0 ≡ kind.Time
wants_time ts x e (t, more) = time_at x.1 x.0 t (λ none. stops ts (token.Instant t) x.1 x.0 e none more)

wants_item : (ts : List Token) (x : ParserState) → run [] start ts ≡ Some x → WantsItem ts → kind_at x.0 ≡ kind.Syntax
wants_item ts x e more = item_at x.1 x.0 (λ none. stops ts (token.Key key.Icmp) x.1 x.0 e none more)

abbrev Says : ParserState → Option Token → Kind → Type 0
Says x o kind.Number = (kind_at x.0 ≡ kind.Number) × (o ≡ Some token.Stray → ⊥)
Says x o kind.Address = (kind_at x.0 ≡ kind.Address) × (o ≡ Some token.Stray → ⊥)
Says x o kind.Time = (kind_at x.0 ≡ kind.Time) × (o ≡ Some token.Stray → ⊥)
Says x o kind.Deep = (kind_at x.0 ≡ kind.Syntax) × (o ≡ Some token.Open)
Says x o kind.Syntax = Unit {0}

-- a refusal that is no plain syntax says what was wanted
says : (ts : List Token) (x : ParserState) (o : Option Token) (k : Kind) → run [] start ts ≡ Some x → HasKind ts o k → Says x o k
says ts x o kind.Number e h = (wants_number ts x e h.1, h.0)
says ts x o kind.Address e h = (wants_address ts x e h.1, h.0)
says ts x o kind.Time e h = (wants_time ts x e h.1, h.0)
says ts x o kind.Deep e h = (wants_item ts x e h.1, h.0)
says ts x o kind.Syntax e h = tt

plain_syntax : (ts : List Token) (o : Option Token) (k : Kind) → HasKind ts o kind.Syntax → HasKind ts o k → k ≡ kind.Syntax
plain_syntax ts o kind.Number (inl s) h = absurd (h.0 s)
plain_syntax ts o kind.Address (inl s) h = absurd (h.0 s)
plain_syntax ts o kind.Time (inl s) h = absurd (h.0 s)
plain_syntax ts o kind.Deep (inl s) h = let never : Some token.Stray ≡ Some token.Open = sym s ∙ h.0 in cc
plain_syntax ts o kind.Number (inr none) h = absurd (none.0 h.1)
plain_syntax ts o kind.Address (inr none) h = absurd (none.1 h.1)
plain_syntax ts o kind.Time (inr none) h = absurd (none.2 h.1)
plain_syntax ts o kind.Deep (inr none) h = absurd (none.3 h.0 h.1)
plain_syntax ts o kind.Syntax s h = refl

kind_unique : (ts : List Token) (x : ParserState) (o : Option Token) (k j : Kind) → run [] start ts ≡ Some x → HasKind ts o k → HasKind ts o j → k ≡ j
kind_unique ts x o kind.Syntax j e h i = sym (plain_syntax ts o j h i)
kind_unique ts x o k kind.Syntax e h i = plain_syntax ts o k i h
kind_unique ts x o kind.Number kind.Number e h i = refl
kind_unique ts x o kind.Address kind.Address e h i = refl
kind_unique ts x o kind.Time kind.Time e h i = refl
kind_unique ts x o kind.Deep kind.Deep e h i = refl
kind_unique ts x o k j e h i =
    let a = (says ts x o k e h).0 in
    let b = (says ts x o j e i).0 in
    cc

-- a refusal, whether of a token or of the end
pub record Stop (text : List ℕ) (place : ℕ) (k : Kind) : Type 0 where
  pub ts : List Token
  pub rest : List ℕ
  pub left : ℕ
  pub next : Option Token
  pub starts : Starts text ts rest
  pub goes_on : CanGoOn ts
  pub at : place + left ≡ length text
  pub next_is : NextIs rest left next
  pub bars : Bars ts next
  pub has_kind : HasKind ts next k

pub stop_of : (text : List ℕ) (place : ℕ) (k : Kind) → IsRefused text place k → Stop text place k
stop_of text place k (short, (ts, rest, left, starts, goes_on, at, inl s)) = record {
  ts = ts;
  rest = rest;
  left = left;
  next = Some s.token;
  starts = starts;
  goes_on = goes_on;
  at = at;
  next_is = (s.gap, s.piece, s.more, s.split, s.blank, s.is_piece, s.place);
  bars = s.stops;
  has_kind = s.has_kind;
}
stop_of text place k (short, (ts, rest, left, starts, goes_on, at, inr s)) = record {
  ts = ts;
  rest = rest;
  left = left;
  next = None;
  starts = starts;
  goes_on = goes_on;
  at = at;
  next_is = (s.blank, s.place);
  bars = s.unfinished;
  has_kind = s.has_kind;
}

-- the tokens in front of a refusal are no front of others that go on
ends_there : (ts us vs : List Token) (r q : List ℕ) (l : ℕ) (o : Option Token) → us ≡ ts ++ vs → Starts r vs q → NextIs r l o → Bars ts o → CanGoOn us → (ts ≡ us) × (r ≡ q)
ends_there ts us [] r q l o e s next bars more = (sym (e ∙ append-nil ts), s)
ends_there ts us (v ∷ vs) r q l o e s next bars more = absurd (no_longer ts r l o v vs q next bars s (rw e at more))

same_front : (text : List ℕ) (p q : ℕ) (k j : Kind) → (a : Stop text p k) → (b : Stop text q j) → (a.ts ≡ b.ts) × (a.rest ≡ b.rest)
same_front text p q k j a b =
    elim (together a.ts b.ts text a.rest b.rest a.starts b.starts) [
      | inl (vs, e, s) ↦ ends_there a.ts b.ts vs a.rest b.rest a.left a.next e s a.next_is a.bars b.goes_on
      | inr (vs, e, s) ↦ let f = ends_there b.ts a.ts vs b.rest a.rest b.left b.next e s b.next_is b.bars a.goes_on in (sym f.0, sym f.1)
    ]

-- a text is refused at one place and with one kind at most
pub one_stop : (text : List ℕ) (p q : ℕ) (k j : Kind) → IsRefused text p k → IsRefused text q j → (p ≡ q) × (k ≡ j)
one_stop text p q k j h i =
    let a = stop_of text p k h in
    let b = stop_of text q j i in
    let same = same_front text p q k j a b in
    let next = next_unique b.rest a.left b.left a.next b.next (rw same.1 at a.next_is) b.next_is in
    let state = has_state b.ts b.goes_on in
    let lefts = next.1 in (
      omega (arith, a.at, b.at, lefts),
      kind_unique b.ts state.0 b.next k j state.1 (subst (λ (o : Option Token). HasKind b.ts o k) next.0 (rw same.0 at a.has_kind)) b.has_kind,
    )

-- where the whole text is a query it isn't refused
spelled_front : (ts us : List Token) (r q : List ℕ) (l : ℕ) (o : Option Token) (t : Tree) → ts ≡ us → r ≡ q → NextIs r l o → Bars ts o → IsBlank q → Query 0 us t → ⊥
spelled_front ts us r q l None t e f next bars blank query = bars t (rw e query)
spelled_front ts us r q l (Some u) t e f (gap, piece, more, split, b, is, left) bars blank query = blank_none q gap piece more u blank (sym f ∙ split) b is

-- no text is both spelled and refused
pub not_spelled : (text : List ℕ) (q : Tree) (p : ℕ) (k : Kind) → IsSpelled text q → IsRefused text p k → ⊥
not_spelled text q p k (ts, rest, starts, blank, query) h =
    let a = stop_of text p k h in
    let go : CanGoOn ts = ([], q, rw (append-nil ts) query) in
    elim (together a.ts ts text a.rest rest a.starts starts) [
      | inl (vs, e, s) ↦ let f = ends_there a.ts ts vs a.rest rest a.left a.next e s a.next_is a.bars go in spelled_front a.ts ts a.rest rest a.left a.next q f.0 f.1 a.next_is a.bars blank query
      | inr (vs, e, s) ↦ let f = blank_ends rest vs a.rest blank s in spelled_front a.ts ts a.rest rest a.left a.next q (e ∙ ap (λ (xs : List Token). ts ++ xs) f.0 ∙ append-nil ts) (sym f.1) a.next_is a.bars blank query
    ]

-- a refusal by its place and kind, or as too long
Parts : List ℕ → QueryErr → Type 0
Parts text e =
    ((4096 < length text) × (e ≡ err.Long (length text)))
    ⊎ ((place : ℕ) × (k : Kind) × IsRefused text place k × (e ≡ error_at k place))

parts : (text : List ℕ) (e : QueryErr) → Refuses text e → Parts text e
unfolding Parts
parts text (err.Long len) h = inl (h.0, ap err.Long h.1)
parts text (err.Syntax place) h = inr (place, kind.Syntax, h, refl)
parts text (err.Number place) h = inr (place, kind.Number, h, refl)
parts text (err.Address place) h = inr (place, kind.Address, h, refl)
parts text (err.Time place) h = inr (place, kind.Time, h, refl)
parts text (err.Deep place) h = inr (place, kind.Deep, h, refl)
parts text err.NoMemory h = absurd h

same_parts : (text : List ℕ) (d e : QueryErr) → Parts text d → Parts text e → d ≡ e
unfolding Parts
same_parts text d e (inl h) (inl i) = h.1 ∙ sym i.1
same_parts text d e (inl h) (inr (p, k, short, i)) = absurd (omega (arith, h.0, short.0))
same_parts text d e (inr (p, k, short, i)) (inl h) = absurd (omega (arith, h.0, short.0))
same_parts text d e (inr (p, k, h, a)) (inr (q, j, i, b)) =
    let (places, kinds) = one_stop text p q k j h i in
    a ∙ ap (λ (n : ℕ). error_at k n) places ∙ ap (λ (x : Kind). error_at x q) kinds ∙ sym b

pub one_spelling : OneSpelling
one_spelling text p q h k = one_node p q (one_tree text (tree p) (tree q) h.1 k.1)

pub one_refusal : OneRefusal
one_refusal text d e h k = same_parts text d e (parts text d h) (parts text e k)

never : (text : List ℕ) (q : Node) (e : QueryErr) → Spells text q → Parts text e → ⊥
unfolding Parts
never text q e h (inl i) = omega (arith, h.0, i.0)
never text q e h (inr (p, k, i, a)) = not_spelled text (tree q) p k h.1 i

pub not_both : NotBoth
not_both text q e h k = never text q e h (parts text e k)
