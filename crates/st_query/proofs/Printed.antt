-- The printed form's tokens make the query again.
use Rattle.std.proofs.Common.{ℕ, suc, ◌+◌, ◌≤◌, ◌<◌, ◌^◌, Bool, true, if◌then◌else◌, List, [], ◌∷◌, ◌++◌, refl, subst, arith, codes, decimal, IsTrue, append-nil}
use Rattle.std.proofs.lemmas.List.Elements.{All-nil}
use Rattle.st_query.specs.declared.addrs.Addr.{Addr}
use Rattle.st_query.specs.declared.tokens.Token.TheVariants as token
use Rattle.st_query.specs.declared.tokens.Token.{Token}
use Rattle.st_query.specs.declared.tokens.Keyword.TheVariants as key
use Rattle.st_query.specs.declared.nodes.When.TheVariants as when
use Rattle.st_query.specs.declared.nodes.Primitive.{Primitive}
use Rattle.st_query.specs.declared.nodes.Primitive.TheVariants as prim
use Rattle.st_query.specs.PrintedWords.{address_text, instant_text}
use Rattle.st_query.specs.Tokens.{is_space}
use Rattle.st_query.specs.Spelling.{Starts, IsSpelled}
use Rattle.st_query.specs.Trees.{Tree, both, either, one, FitsPrimitive, InRange, is_joined, inside, depth, IsSound}
use Rattle.st_query.specs.PrintedForm.{when_text, primitive_text, wrapped, printed}
use Rattle.st_query.specs.Grammar.{Prim, host, net, port, proto, vlan, mpls, before_at, before_ago, after_at, after_ago, Item, primitive, paren, Query, item, and, or}
use Rattle.st_query.proofs.PrintedTokens.{Firm, firm_append, TextWord, firm_word, firm_space, apart_space, firm_open, word_host, word_net, word_port, word_ip, word_proto, word_vlan, word_mpls, word_before, word_after, word_ago, word_and, word_or, word_number, some_mask, word_address, value_net, word_instant, word_span}

-- the primitives

abbrev Made : Primitive → Type 0
Made p = (t : Token) × (ts : List Token) × Firm (primitive_text p) (t ∷ ts) × Prim (t ∷ ts) p

-- two words, with a space between them
two_words : (a c : List ℕ) (t u : Token) → TextWord a t → TextWord c u → Firm (a ++ (codes " " ++ c)) (t ∷ u ∷ [])
two_words a c t u h k = firm_append a (codes " " ++ c) (t ∷ []) (u ∷ []) (firm_word a t h) (firm_space c u [] (firm_word c u k)) (apart_space c)

three_words : (a c e : List ℕ) (t u v : Token) → TextWord a t → TextWord c u → TextWord e v → Firm (a ++ (codes " " ++ (c ++ (codes " " ++ e)))) (t ∷ u ∷ v ∷ [])
three_words a c e t u v h k l =
    firm_append a (codes " " ++ (c ++ (codes " " ++ e))) (t ∷ []) (u ∷ v ∷ []) (firm_word a t h)
    (firm_space (c ++ (codes " " ++ e)) u (v ∷ []) (two_words c e u v k l)) (apart_space (c ++ (codes " " ++ e)))

-- a keyword, a span and `ago`
ago_words : (w : List ℕ) (t : Token) (n : ℕ) (hours : Bool) → TextWord w t → n < 2 ^ 32 → Firm (w ++ (codes " " ++ when_text (when.Ago n hours))) (t ∷ token.Span n hours ∷ token.Key key.Ago ∷ [])
ago_words w t n hours h fits =
    let span = decimal n ++ (if hours then codes "h" else codes "m") in
    three_words w span (codes "ago") t (token.Span n hours) (token.Key key.Ago) h (word_span n hours fits) word_ago

make_prim : (p : Primitive) → FitsPrimitive p → Made p
make_prim (prim.Host a) h =
    let m = some_mask a in
    (token.Key key.Host, token.Address a m.0 ∷ [], two_words (codes "host") (address_text a) (token.Key key.Host) (token.Address a m.0) word_host (word_address a m.0 h m.1), host {a = a} {m = m.0} refl)
make_prim (prim.Net a n) h = (
  token.Key key.Net,
  token.Net a n ∷ [],
  two_words (codes "net") (address_text a ++ codes "/" ++ decimal n) (token.Key key.Net) (token.Net a n) word_net (value_net a n h.0 h.1),
  subst (λ (b : Addr). Prim (token.Key key.Net ∷ token.Net a n ∷ []) (prim.Net b n)) h.2 (net {a = a} {n = n} refl),
)
make_prim (prim.Port n) h =
    (token.Key key.Port, token.Number n ∷ [], two_words (codes "port") (decimal n) (token.Key key.Port) (token.Number n) word_port (word_number n (omega arith)), port h refl)
make_prim (prim.Proto n) h =
    (token.Key key.Ip, token.Key key.Proto ∷ token.Number n ∷ [], three_words (codes "ip") (codes "proto") (decimal n) (token.Key key.Ip) (token.Key key.Proto) (token.Number n) word_ip word_proto (word_number n (omega arith)), proto h refl)
make_prim (prim.Vlan n) h =
    (token.Key key.Vlan, token.Number n ∷ [], two_words (codes "vlan") (decimal n) (token.Key key.Vlan) (token.Number n) word_vlan (word_number n (omega arith)), vlan h refl)
make_prim (prim.Mpls n) h =
    (token.Key key.Mpls, token.Number n ∷ [], two_words (codes "mpls") (decimal n) (token.Key key.Mpls) (token.Number n) word_mpls (word_number n (omega arith)), mpls h refl)
make_prim (prim.Before (when.At second)) h =
    (token.Key key.Before, token.Instant second ∷ [], two_words (codes "before") (instant_text second) (token.Key key.Before) (token.Instant second) word_before (word_instant second h), before_at refl)
make_prim (prim.After (when.At second)) h =
    (token.Key key.After, token.Instant second ∷ [], two_words (codes "after") (instant_text second) (token.Key key.After) (token.Instant second) word_after (word_instant second h), after_at refl)
make_prim (prim.Before (when.Ago n hours)) h =
    (token.Key key.Before, token.Span n hours ∷ token.Key key.Ago ∷ [], ago_words (codes "before") (token.Key key.Before) n hours word_before h, before_ago refl)
make_prim (prim.After (when.Ago n hours)) h =
    (token.Key key.After, token.Span n hours ∷ token.Key key.Ago ∷ [], ago_words (codes "after") (token.Key key.After) n hours word_after h, after_ago refl)

-- the query

abbrev IsMade : ℕ → Tree → Type 0
IsMade d q = (t : Token) × (ts : List Token) × Firm (printed q) (t ∷ ts) × Query d (t ∷ ts) q

abbrev IsSide : ℕ → Tree → Type 0
IsSide d q = (t : Token) × (ts : List Token) × Firm (wrapped (is_joined q) (printed q)) (t ∷ ts) × Item d (t ∷ ts) q

in_parentheses : (d : ℕ) (q : Tree) → d < 64 → IsMade (suc d) q → (t : Token) × (ts : List Token) × Firm (wrapped true (printed q)) (t ∷ ts) × Item d (t ∷ ts) q
in_parentheses d q room (t, ts, firm, query) =
    (token.Open, (t ∷ ts) ++ token.Close ∷ [], firm_open (printed q) (t ∷ ts) firm, paren room query refl)

make_side : (d : ℕ) (q : Tree) → InRange q → inside (depth q) q + d ≤ 64 → ((e : ℕ) → depth q + e ≤ 64 → IsMade e q) → IsSide d q
make_side d (one p) range h make = let (t, ts, firm, made) = make_prim p range in (t, ts, firm, primitive made)
make_side d (both a b) range h make = in_parentheses d (both a b) (omega arith) (make (suc d) (omega arith))
make_side d (either a b) range h make = in_parentheses d (either a b) (omega arith) (make (suc d) (omega arith))

-- a side following a joiner
joined_firm : (a b word : List ℕ) (joiner t u : Token) (ts us : List Token) → Firm a (t ∷ ts) → TextWord word joiner → Firm b (u ∷ us) → Firm (a ++ (codes " " ++ (word ++ (codes " " ++ b)))) ((t ∷ ts) ++ joiner ∷ (u ∷ us))
joined_firm a b word joiner t u ts us f w g =
    firm_append a (codes " " ++ (word ++ (codes " " ++ b))) (t ∷ ts) (joiner ∷ (u ∷ us)) f
    (firm_space (word ++ (codes " " ++ b)) joiner (u ∷ us)
    (firm_append word (codes " " ++ b) (joiner ∷ []) (u ∷ us) (firm_word word joiner w) (firm_space b u us g) (apart_space b)))
    (apart_space (word ++ (codes " " ++ b)))

both_made : (d : ℕ) (a b : Tree) → IsMade d a → IsSide d b → IsMade d (both a b)
both_made d a b (t, ts, firm, query) (u, us, side, made) = (
  t,
  ts ++ token.And ∷ (u ∷ us),
  joined_firm (printed a) (wrapped (is_joined b) (printed b)) (codes "and") token.And t u ts us firm word_and side,
  and query made refl,
)

either_made : (d : ℕ) (a b : Tree) → IsMade d a → IsSide d b → IsMade d (either a b)
either_made d a b (t, ts, firm, query) (u, us, side, made) = (
  t,
  ts ++ token.Or ∷ (u ∷ us),
  joined_firm (printed a) (wrapped (is_joined b) (printed b)) (codes "or") token.Or t u ts us firm word_or side,
  or query made refl,
)

makes : (q : Tree) (d : ℕ) → InRange q → depth q + d ≤ 64 → IsMade d q
makes (one p) d range h = let (t, ts, firm, made) = make_prim p range in (t, ts, firm, item (primitive made))
makes (both a b) d (left, right) h =
    both_made d a b (makes a d left (omega arith)) (make_side d b right (omega arith) (λ e k. makes b e right k))
makes (either a b) d (left, right) h =
    either_made d a b (makes a d left (omega arith)) (make_side d b right (omega arith) (λ e k. makes b e right k))

-- the printed form of a sound query spells it
pub printed_spells : (q : Tree) → IsSound q → IsSpelled (printed q) q
unfolding Firm
printed_spells q h =
    let (t, ts, firm, query) = makes q 0 h.in_range (omega (arith, h.shallow)) in
    (t ∷ ts, [], subst (λ (text : List ℕ). Starts text (t ∷ ts) []) (append-nil (printed q)) (firm [] tt), All-nil (λ b. IsTrue (is_space b)), query)
