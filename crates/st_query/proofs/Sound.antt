-- What a text spells is in range, and its printed form doesn't go too deep.
use Rattle.std.proofs.Common.{◌≡◌, ℕ, suc, ◌+◌, ◌≤◌, ◌<◌, ◌^◌, Bool, true, false, if◌then◌else◌, List, [], ◌∷◌, ◌++◌, Option, Some, None, arith, inl, inr, codes, MatchOption}
use Rattle.std.specs.Prelude.{⊤}
use Rattle.std.specs.Str.{bytes_eq}
use Rattle.st_query.specs.declared.addrs.Addr.{Addr}
use Rattle.st_query.specs.declared.addrs.Addr.TheVariants.{V4, V6}
use Rattle.st_query.specs.declared.tokens.Token.TheVariants as token
use Rattle.st_query.specs.declared.tokens.Token.{Token}
use Rattle.st_query.specs.declared.tokens.Keyword.TheVariants as key
use Rattle.st_query.specs.declared.nodes.Primitive.{Primitive}
use Rattle.st_query.specs.Words.{network, width, FitsAddr}
use Rattle.st_query.specs.Times.{IsInYears}
use Rattle.st_query.specs.Tokens.{keyword, IsValue, IsWord, IsPiece}
use Rattle.st_query.specs.Spelling.{Starts, IsSpelled}
use Rattle.st_query.specs.Trees.{Tree, FitsPrimitive, InRange, is_joined, inside, depth, IsSound}
use Rattle.st_query.specs.Grammar.{Prim, host, net, masked, port, proto, vlan, mpls, icmp, tcp, udp, before_at, before_ago, after_at, after_ago, Item, primitive, paren, Query, item, and, or}
use Rattle.st_query.proofs.WordLaws.{address_fits, network_fits, network_twice, width_network, instant_in_years}

-- the numbers of a token are in their ranges
abbrev pub FitsToken : Token → Type 0
FitsToken (token.Address a None) = FitsAddr a × ⊤
FitsToken (token.Address a (Some n)) = FitsAddr a × (n ≤ width a)
FitsToken (token.Net a n) = FitsAddr a × (n ≤ width a)
FitsToken (token.Instant t) = IsInYears t
FitsToken (token.Span n h) = n < 2 ^ 32
FitsToken _ = ⊤

abbrev pub EachFits : List Token → Type 0
EachFits [] = ⊤
EachFits (t ∷ ts) = FitsToken t × EachFits ts

pub each_front : (ts us : List Token) → EachFits (ts ++ us) → EachFits ts
each_front [] us h = tt
each_front (t ∷ ts) us (a, b) = (a, each_front ts us b)

pub each_back : (ts us : List Token) → EachFits (ts ++ us) → EachFits us
each_back [] us h = h
each_back (t ∷ ts) us (a, b) = each_back ts us b

abbrev KeyFits : Option Token → Type 0
KeyFits None = ⊤
KeyFits (Some t) = FitsToken t

key_or : (b : Bool) (t : Token) (o : Option Token) → FitsToken t → KeyFits o → KeyFits (if b then Some t else o)
key_or true t o h k = h
key_or false t o h k = k

keyword_fits : (w : List ℕ) → KeyFits (keyword w)
keyword_fits w =
    key_or (bytes_eq w (codes "and")) token.And _ tt
    (key_or (bytes_eq w (codes "or")) token.Or _ tt
    (key_or (bytes_eq w (codes "host")) (token.Key key.Host) _ tt
    (key_or (bytes_eq w (codes "net")) (token.Key key.Net) _ tt
    (key_or (bytes_eq w (codes "mask")) (token.Key key.Mask) _ tt
    (key_or (bytes_eq w (codes "port")) (token.Key key.Port) _ tt
    (key_or (bytes_eq w (codes "ip")) (token.Key key.Ip) _ tt
    (key_or (bytes_eq w (codes "proto")) (token.Key key.Proto) _ tt
    (key_or (bytes_eq w (codes "vlan")) (token.Key key.Vlan) _ tt
    (key_or (bytes_eq w (codes "mpls")) (token.Key key.Mpls) _ tt
    (key_or (bytes_eq w (codes "icmp")) (token.Key key.Icmp) _ tt
    (key_or (bytes_eq w (codes "tcp")) (token.Key key.Tcp) _ tt
    (key_or (bytes_eq w (codes "udp")) (token.Key key.Udp) _ tt
    (key_or (bytes_eq w (codes "before")) (token.Key key.Before) _ tt
    (key_or (bytes_eq w (codes "after")) (token.Key key.After) _ tt
    (key_or (bytes_eq w (codes "ago")) (token.Key key.Ago) None tt tt)))))))))))))))

value_fits : (w : List ℕ) (t : Token) → IsValue w t → FitsToken t
value_fits w (token.Address a None) (h, k) = (address_fits w a h, tt)
value_fits w (token.Address (V4 a) (Some n)) (h, k) = (address_fits w (V4 a) h, k.0)
value_fits w (token.Address (V6 a) (Some n)) (h, k) = (address_fits w (V6 a) h, k.0)
value_fits w (token.Net a n) (address, digits, split, h, k, most) = (address_fits address a h, most)
value_fits w (token.Instant t) h = instant_in_years w t h
value_fits w (token.Span n hours) (digits, split, number, most) = most
value_fits w _ h = tt

word_fits : (w : List ℕ) (t : Token) → IsWord w t → FitsToken t
word_fits w t h =
    elim (keyword w) as (λ o. KeyFits o → MatchOption o (IsValue w t) (λ k. t ≡ k) → FitsToken t) [
      | None ↦ λ a b. value_fits w t b
      | Some k ↦ λ a b. rw b a
    ] (keyword_fits w) h

piece_fits : (t : Token) (piece more : List ℕ) → IsPiece t piece more → FitsToken t
piece_fits t piece more (inl h) = rw h.0 tt
piece_fits t piece more (inr (inl h)) = rw h.0 tt
piece_fits t piece more (inr (inr (inl h))) = rw h.0 tt
piece_fits t piece more (inr (inr (inr (inl h)))) = rw h.0 tt
piece_fits t piece more (inr (inr (inr (inr (inl h))))) = word_fits piece t h.0
piece_fits t piece more (inr (inr (inr (inr (inr h))))) = rw h.0 tt

-- (all tokens of a text)
pub starts_fit : (text : List ℕ) (ts : List Token) (rest : List ℕ) → Starts text ts rest → EachFits ts
starts_fit text [] rest h = tt
starts_fit text (t ∷ ts) rest (gap, piece, more, split, blank, is_piece, starts) = (piece_fits t piece more is_piece, starts_fit more ts rest starts)

net_fits : (a : Addr) (n : ℕ) → FitsAddr a → n ≤ width a → FitsAddr (network a n) × (n ≤ width (network a n)) × (network (network a n) n ≡ network a n)
net_fits a n h k = (network_fits a n h, rw (width_network a n) k, network_twice a n)

prim_fits : {us : List Token} {p : Primitive} → Prim us p → EachFits us → FitsPrimitive p
prim_fits (host {a = a} {m = None} e) h = (rw e at h).1.0.0
prim_fits (host {a = a} {m = Some n} e) h = (rw e at h).1.0.0
prim_fits (net {a = a} {n = n} e) h = let f = rw e at h in net_fits a n f.1.0.0 f.1.0.1
prim_fits (masked {a = V4 x} {b = V4 y} {m = None} {n = n} s e) h = let f = rw e at h in net_fits (V4 x) n f.1.0.0 f.1.1.1.0.1
prim_fits (masked {a = V4 x} {b = V4 y} {m = Some k} {n = n} s e) h = let f = rw e at h in net_fits (V4 x) n f.1.0.0 f.1.1.1.0.1
prim_fits (masked {a = V6 x} {b = V6 y} {m = None} {n = n} s e) h = let f = rw e at h in net_fits (V6 x) n f.1.0.0 f.1.1.1.0.1
prim_fits (masked {a = V6 x} {b = V6 y} {m = Some k} {n = n} s e) h = let f = rw e at h in net_fits (V6 x) n f.1.0.0 f.1.1.1.0.1
prim_fits (masked {a = V4 x} {b = V6 y} s e) h = absurd s
prim_fits (masked {a = V6 x} {b = V4 y} s e) h = absurd s
prim_fits (port r e) h = r
prim_fits (proto r e) h = r
prim_fits (vlan r e) h = r
prim_fits (mpls r e) h = r
prim_fits (icmp e) h = omega arith
prim_fits (tcp e) h = omega arith
prim_fits (udp e) h = omega arith
prim_fits (before_at e) h = (rw e at h).1.0
prim_fits (before_ago e) h = (rw e at h).1.0
prim_fits (after_at e) h = (rw e at h).1.0
prim_fits (after_ago e) h = (rw e at h).1.0

-- what the tokens in front of and behind a joiner keep
sides : (ts : List Token) (t : Token) (us ws : List Token) → ws ≡ ts ++ (t ∷ us) → EachFits ws → EachFits ts × EachFits us
sides ts t us ws e h = let f = rw e at h in (each_front ts (t ∷ us) f, (each_back ts (t ∷ us) f).1)

mutual
  pub item_fits : {d : ℕ} {us : List Token} {q : Tree} → Item d us q → EachFits us → InRange q
  item_fits (primitive p) h = prim_fits p h
  item_fits (paren {ts = ts} {us = us} room query e) h =
      let f = rw e at h in query_fits query (each_front ts (token.Close ∷ []) f.1)

  pub query_fits : {d : ℕ} {us : List Token} {q : Tree} → Query d us q → EachFits us → InRange q
  query_fits (item i) h = item_fits i h
  query_fits (and {ts = ts} {us = us} {ws = ws} left right e) h =
      let f = sides ts token.And us ws e h in (query_fits left f.0, item_fits right f.1)
  query_fits (or {ts = ts} {us = us} {ws = ws} left right e) h =
      let f = sides ts token.Or us ws e h in (query_fits left f.0, item_fits right f.1)

inside_most : (n d : ℕ) (q : Tree) → suc n + d ≤ 64 → inside n q + d ≤ 64
inside_most n d q h =
    elim (is_joined q) as (λ b. (if b then suc n else n) + d ≤ 64) [ true ↦ h | false ↦ omega arith ]

less_inside : (n d : ℕ) (q : Tree) → inside n q + d ≤ 64 → n + d ≤ 64
less_inside n d q =
    elim (is_joined q) as (λ b. (if b then suc n else n) + d ≤ 64 → n + d ≤ 64) [ true ↦ λ h. omega arith | false ↦ λ h. h ]

mutual
  pub item_depth : {d : ℕ} {us : List Token} {q : Tree} → d ≤ 64 → Item d us q → inside (depth q) q + d ≤ 64
  item_depth h (primitive p) = omega arith
  item_depth h (paren {d = d} {q = q} room query e) =
      let deep = query_depth {d = suc d} {q = q} (omega arith) query in
      inside_most (depth q) d q (omega (arith, deep))

  pub query_depth : {d : ℕ} {us : List Token} {q : Tree} → d ≤ 64 → Query d us q → depth q + d ≤ 64
  query_depth {d = d} {q = q} h (item i) = less_inside (depth q) d q (item_depth {d = d} {q = q} h i)
  query_depth h (and {d = d} {a = a} {b = b} left right e) =
      let x = query_depth {d = d} {q = a} h left in
      let y = item_depth {d = d} {q = b} h right in
      omega (arith, x, y)
  query_depth h (or {d = d} {a = a} {b = b} left right e) =
      let x = query_depth {d = d} {q = a} h left in
      let y = item_depth {d = d} {q = b} h right in
      omega (arith, x, y)

pub sound : (text : List ℕ) (q : Tree) → IsSpelled text q → IsSound q
sound text q (ts, rest, starts, blank, query) = record {
  in_range = query_fits query (starts_fit text ts rest starts);
  shallow = omega (arith, query_depth {d = 0} {q = q} (omega arith) query);
}
