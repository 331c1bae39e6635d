-- What the state of the pass says of the tokens so far: they can always go on to a query.
use Rattle.std.proofs.Common.{◌≡◌, ℕ, suc, ◌≤◌, ◌<◌, nat_le, nat_lt, Bool, true, false, if◌then◌else◌, List, [], ◌∷◌, ◌++◌, length, Option, Some, None, refl, sym, subst, arith, append_assoc, append-nil, option_and_then}
use Rattle.std.specs.Prelude.{⊤}
use Rattle.std.proofs.lemmas.Bool.Decides.{nat_tests}
use Rattle.st_query.specs.declared.addrs.Addr.TheVariants.{V4, V6}
use Rattle.st_query.specs.declared.tokens.Token.TheVariants as token
use Rattle.st_query.specs.declared.tokens.Token.{Token}
use Rattle.st_query.specs.declared.tokens.Keyword.TheVariants as key
use Rattle.st_query.specs.declared.nodes.Primitive.{Primitive}
use Rattle.st_query.specs.declared.nodes.Primitive.TheVariants as prim
use Rattle.st_query.specs.declared.automaton.Want.{Want}
use Rattle.st_query.specs.declared.automaton.Want.TheVariants as want
use Rattle.st_query.specs.declared.automaton.Effect.{Effect}
use Rattle.st_query.specs.declared.automaton.Effect.TheVariants as effect
use Rattle.st_query.specs.Words.{network}
use Rattle.st_query.specs.Trees.{Tree, both, either, one}
use Rattle.st_query.specs.Grammar.{Prim, host, net, masked, port, proto, vlan, mpls, icmp, tcp, udp, before_at, before_ago, after_at, after_ago, Item, primitive, paren, Query, item, and, or, CanGoOn}
use Rattle.st_query.specs.Automaton.{at_most, read, HalfView, PhaseView, Reading, Joined, join, ParserState, start, after, step, run}

-- the tokens of a primitive that were taken where this is wanted
abbrev pub IsSoFar : Want → List Token → Type 0
IsSoFar want.Item us = us ≡ []
IsSoFar want.Host us = us ≡ token.Key key.Host ∷ []
IsSoFar want.Net us = us ≡ token.Key key.Net ∷ []
IsSoFar (want.MaskWord a) us = (m : Option ℕ) × (us ≡ token.Key key.Net ∷ token.Address a m ∷ [])
IsSoFar (want.MaskOf a) us = (m : Option ℕ) × (us ≡ token.Key key.Net ∷ token.Address a m ∷ token.Key key.Mask ∷ [])
IsSoFar want.Port us = us ≡ token.Key key.Port ∷ []
IsSoFar want.ProtoWord us = us ≡ token.Key key.Ip ∷ []
IsSoFar want.Proto us = us ≡ token.Key key.Ip ∷ token.Key key.Proto ∷ []
IsSoFar want.Vlan us = us ≡ token.Key key.Vlan ∷ []
IsSoFar want.Mpls us = us ≡ token.Key key.Mpls ∷ []
IsSoFar want.Before us = us ≡ token.Key key.Before ∷ []
IsSoFar want.After us = us ≡ token.Key key.After ∷ []
IsSoFar (want.BeforeAgo n h) us = us ≡ token.Key key.Before ∷ token.Span n h ∷ []
IsSoFar (want.AfterAgo n h) us = us ≡ token.Key key.After ∷ token.Span n h ∷ []

abbrev pub Took : Effect → List Token → Type 0
Took (effect.Go w) vs = IsSoFar w vs
Took (effect.Done p) vs = Prim vs p
Took effect.Deeper vs = vs ≡ token.Open ∷ []
Took effect.Refused vs = ⊤

took_most : (most n : ℕ) (p : Primitive) (vs : List Token) → (n ≤ most → Prim vs p) → Took (at_most most n p) vs
took_most most n p vs h =
    elim (nat_le n most) as (λ b. nat_le n most ≡ b → Took (if b then effect.Done p else effect.Refused) vs) [
      | true ↦ λ e. h (grind (arith, nat_tests))
      | false ↦ λ e. tt
    ] refl

pub took : (w : Want) (t : Token) (us : List Token) → IsSoFar w us → Took (read w t) (us ++ t ∷ [])
took want.Item token.Open us h = rw h refl
took want.Item (token.Key key.Host) us h = rw h refl
took want.Item (token.Key key.Net) us h = rw h refl
took want.Item (token.Key key.Port) us h = rw h refl
took want.Item (token.Key key.Ip) us h = rw h refl
took want.Item (token.Key key.Vlan) us h = rw h refl
took want.Item (token.Key key.Mpls) us h = rw h refl
took want.Item (token.Key key.Icmp) us h = icmp (rw h refl)
took want.Item (token.Key key.Tcp) us h = tcp (rw h refl)
took want.Item (token.Key key.Udp) us h = udp (rw h refl)
took want.Item (token.Key key.Before) us h = rw h refl
took want.Item (token.Key key.After) us h = rw h refl
took want.Host (token.Address a m) us h = host {m = m} (rw h refl)
took want.Net (token.Net a n) us h = net (rw h refl)
took want.Net (token.Address a m) us h = (m, rw h refl)
took (want.MaskWord a) (token.Key key.Mask) us (m, h) = (m, rw h refl)
took (want.MaskOf (V4 a)) (token.Address (V4 b) (Some n)) us (m, h) = masked {a = V4 a} {b = V4 b} {m = m} {n = n} tt (rw h refl)
took (want.MaskOf (V6 a)) (token.Address (V6 b) (Some n)) us (m, h) = masked {a = V6 a} {b = V6 b} {m = m} {n = n} tt (rw h refl)
took want.Port (token.Number n) us h = took_most 65535 n (prim.Port n) (us ++ token.Number n ∷ []) (λ r. port r (rw h refl))
took want.ProtoWord (token.Key key.Proto) us h = rw h refl
took want.Proto (token.Number n) us h = took_most 255 n (prim.Proto n) (us ++ token.Number n ∷ []) (λ r. proto r (rw h refl))
took want.Vlan (token.Number n) us h = took_most 4095 n (prim.Vlan n) (us ++ token.Number n ∷ []) (λ r. vlan r (rw h refl))
took want.Mpls (token.Number n) us h = took_most 1048575 n (prim.Mpls n) (us ++ token.Number n ∷ []) (λ r. mpls r (rw h refl))
took want.Before (token.Instant t) us h = before_at (rw h refl)
took want.Before (token.Span n k) us h = rw h refl
took (want.BeforeAgo n k) (token.Key key.Ago) us h = before_ago (rw h refl)
took want.After (token.Instant t) us h = after_at (rw h refl)
took want.After (token.Span n k) us h = rw h refl
took (want.AfterAgo n k) (token.Key key.Ago) us h = after_ago (rw h refl)
took _ _ us h = tt

-- some tokens make a primitive of it
abbrev pub Ends : List Token → Type 0
Ends us = (vs : List Token) × (p : Primitive) × Prim (us ++ vs) p

pub finish : (w : Want) (us : List Token) → IsSoFar w us → Ends us
finish want.Item us h = (token.Key key.Icmp ∷ [], prim.Proto 1, icmp (rw h refl))
finish want.Host us h = (token.Address (V4 0) None ∷ [], prim.Host (V4 0), host {m = None} (rw h refl))
finish want.Net us h = (token.Net (V4 0) 0 ∷ [], prim.Net (network (V4 0) 0) 0, net {a = V4 0} {n = 0} (rw h refl))
finish (want.MaskWord (V4 a)) us (m, h) = (token.Key key.Mask ∷ token.Address (V4 0) (Some 0) ∷ [], prim.Net (network (V4 a) 0) 0, masked {a = V4 a} {b = V4 0} {m = m} {n = 0} tt (rw h refl))
finish (want.MaskWord (V6 a)) us (m, h) = (token.Key key.Mask ∷ token.Address (V6 0) (Some 0) ∷ [], prim.Net (network (V6 a) 0) 0, masked {a = V6 a} {b = V6 0} {m = m} {n = 0} tt (rw h refl))
finish (want.MaskOf (V4 a)) us (m, h) = (token.Address (V4 0) (Some 0) ∷ [], prim.Net (network (V4 a) 0) 0, masked {a = V4 a} {b = V4 0} {m = m} {n = 0} tt (rw h refl))
finish (want.MaskOf (V6 a)) us (m, h) = (token.Address (V6 0) (Some 0) ∷ [], prim.Net (network (V6 a) 0) 0, masked {a = V6 a} {b = V6 0} {m = m} {n = 0} tt (rw h refl))
finish want.Port us h = (token.Number 0 ∷ [], prim.Port 0, port (omega arith) (rw h refl))
finish want.ProtoWord us h = (token.Key key.Proto ∷ token.Number 0 ∷ [], prim.Proto 0, proto (omega arith) (rw h refl))
finish want.Proto us h = (token.Number 0 ∷ [], prim.Proto 0, proto (omega arith) (rw h refl))
finish want.Vlan us h = (token.Number 0 ∷ [], prim.Vlan 0, vlan (omega arith) (rw h refl))
finish want.Mpls us h = (token.Number 0 ∷ [], prim.Mpls 0, mpls (omega arith) (rw h refl))
finish want.Before us h = (token.Span 0 true ∷ token.Key key.Ago ∷ [], _, before_ago {n = 0} {h = true} (rw h refl))
finish want.After us h = (token.Span 0 true ∷ token.Key key.Ago ∷ [], _, after_ago {n = 0} {h = true} (rw h refl))
finish (want.BeforeAgo n k) us h = (token.Key key.Ago ∷ [], _, before_ago {n = n} {h = k} (rw h refl))
finish (want.AfterAgo n k) us h = (token.Key key.Ago ∷ [], _, after_ago {n = n} {h = k} (rw h refl))

abbrev pub joiner : Bool → Token
joiner b = if b then token.And else token.Or

-- the tokens behind the innermost open parenthesis, where an item is wanted behind this half
abbrev pub Level : ℕ → Option HalfView → List Token → Type 0
Level d None us = us ≡ []
Level d (Some half) us = (vs : List Token) × Query d vs half.left × (us ≡ vs ++ joiner half.and ∷ [])

-- an item is wanted, behind this half
abbrev pub AtItem : List (Option HalfView) → Option HalfView → List Token → Type 0
AtItem [] half ts = Level 0 half ts
AtItem (f ∷ hs) half ts =
    (outer : List Token) × (us : List Token) × AtItem hs f outer × (length hs < 64) × Level (suc (length hs)) half us
    × (ts ≡ outer ++ token.Open ∷ us)

-- a query ends here
abbrev pub AtJoin : List (Option HalfView) → Tree → List Token → Type 0
AtJoin [] q ts = Query 0 ts q
AtJoin (f ∷ hs) q ts =
    (outer : List Token) × (us : List Token) × AtItem hs f outer × (length hs < 64) × Query (suc (length hs)) us q
    × (ts ≡ outer ++ token.Open ∷ us)

abbrev pub LeadTo : List (Option HalfView) → PhaseView → List Token → Type 0
LeadTo hs (Reading w half) ts =
    (outer : List Token) × (us : List Token) × AtItem hs half outer × IsSoFar w us × (ts ≡ outer ++ us)
LeadTo hs (Joined q) ts = AtJoin hs q ts

level_item : (d : ℕ) (half : Option HalfView) (us vs : List Token) (q : Tree) → Level d half us → Item d vs q → Query d (us ++ vs) (join half q)
level_item d None us vs q h i = rw h (item i)
level_item d (Some half) us vs q (ws, query, e) i =
    elim (half.and) as (λ b. (us ≡ ws ++ joiner b ∷ []) → Query d (us ++ vs) (if b then both half.left q else either half.left q)) [
      | true ↦ λ k. and query i (rw k (append_assoc ws (token.And ∷ []) vs))
      | false ↦ λ k. or query i (rw k (append_assoc ws (token.Or ∷ []) vs))
    ] e

-- behind an item a query ends
pub add : (hs : List (Option HalfView)) (half : Option HalfView) (ts us : List Token) (q : Tree) → AtItem hs half ts → Item (length hs) us q → AtJoin hs (join half q) (ts ++ us)
add [] half ts us q h i = level_item 0 half ts us q h i
add (f ∷ hs) half ts us q (outer, inner, at, room, level, e) i =
    (outer, inner ++ us, at, room, level_item (suc (length hs)) half inner us q level i, rw e (append_assoc outer (token.Open ∷ inner) us))

pub close : (f : Option HalfView) (hs : List (Option HalfView)) (q : Tree) (ts : List Token) → AtJoin (f ∷ hs) q ts → AtJoin hs (join f q) (ts ++ token.Close ∷ [])
close f hs q ts (outer, us, at, room, query, e) =
    let whole : ts ++ token.Close ∷ [] ≡ outer ++ (token.Open ∷ (us ++ token.Close ∷ [])) = rw e (append_assoc outer (token.Open ∷ us) (token.Close ∷ [])) in
    rw whole (add hs f outer (token.Open ∷ (us ++ token.Close ∷ [])) q at (paren room query refl))

pub join_on : (hs : List (Option HalfView)) (q : Tree) (b : Bool) (ts : List Token) → AtJoin hs q ts → AtItem hs (Some (record { left = q; and = b })) (ts ++ joiner b ∷ [])
join_on [] q b ts h = (ts, h, refl)
join_on (f ∷ hs) q b ts (outer, us, at, room, query, e) =
    (outer, us ++ joiner b ∷ [], at, room, (us, query, refl), rw e (append_assoc outer (token.Open ∷ us) (joiner b ∷ [])))

abbrev pub Kept : Option ParserState → List Token → Type 0
Kept None ts = ⊤
Kept (Some x) ts = LeadTo x.1 x.0 ts

kept_deeper : (hs : List (Option HalfView)) (half : Option HalfView) (ts : List Token) → AtItem hs half ts → Kept (after hs half effect.Deeper) (ts ++ token.Open ∷ [])
kept_deeper hs half ts at =
    elim (nat_lt (length hs) 64) as (λ b. nat_lt (length hs) 64 ≡ b → Kept (if b then Some (start, half ∷ hs) else None) (ts ++ token.Open ∷ [])) [
      | true ↦ λ e. let room : length hs < 64 = grind (arith, nat_tests) in
          (ts ++ token.Open ∷ [], [], (ts, [], at, room, refl, refl), refl, sym (append-nil (ts ++ token.Open ∷ [])))
      | false ↦ λ e. tt
    ] refl

kept_after : (hs : List (Option HalfView)) (half : Option HalfView) (outer vs : List Token) (k : Effect) → AtItem hs half outer → Took k vs → Kept (after hs half k) (outer ++ vs)
kept_after hs half outer vs (effect.Go w) at h = (outer, vs, at, h, refl)
kept_after hs half outer vs (effect.Done p) at h = add hs half outer vs (one p) at (primitive h)
kept_after hs half outer vs effect.Deeper at h = rw h (kept_deeper hs half outer at)
kept_after hs half outer vs effect.Refused at h = tt

pub keeps : (hs : List (Option HalfView)) (s : PhaseView) (ts : List Token) (t : Token) → LeadTo hs s ts → Kept (step hs s t) (ts ++ t ∷ [])
keeps hs (Reading w half) ts t (outer, us, at, sofar, e) =
    let whole : ts ++ t ∷ [] ≡ outer ++ (us ++ t ∷ []) = rw e (append_assoc outer us (t ∷ [])) in
    rw whole (kept_after hs half outer (us ++ t ∷ []) (read w t) at (took w t us sofar))
keeps hs (Joined q) ts token.And h = (ts ++ token.And ∷ [], [], join_on hs q true ts h, refl, sym (append-nil (ts ++ token.And ∷ [])))
keeps hs (Joined q) ts token.Or h = (ts ++ token.Or ∷ [], [], join_on hs q false ts h, refl, sym (append-nil (ts ++ token.Or ∷ [])))
keeps (f ∷ hs) (Joined q) ts token.Close h = close f hs q ts h
keeps hs (Joined q) ts _ h = tt

pub goes_before : (ts us : List Token) → CanGoOn (ts ++ us) → CanGoOn ts
goes_before ts us (more, q, h) = (us ++ more, q, subst (λ (ws : List Token). Query 0 ws q) (append_assoc ts us more) h)

join_ends : (hs : List (Option HalfView)) (q : Tree) (ts : List Token) → AtJoin hs q ts → CanGoOn ts
join_ends [] q ts h = ([], q, rw (append-nil ts) h)
join_ends (f ∷ hs) q ts h = goes_before ts (token.Close ∷ []) (join_ends hs (join f q) (ts ++ token.Close ∷ []) (close f hs q ts h))

-- wherever the pass lead_to, the tokens so far can go on to a query
pub can_go_on : (hs : List (Option HalfView)) (s : PhaseView) (ts : List Token) → LeadTo hs s ts → CanGoOn ts
can_go_on hs (Reading w half) ts (outer, us, at, sofar, e) =
    let ends = finish w us sofar in
    let whole : ts ++ ends.0 ≡ outer ++ (us ++ ends.0) = rw e (append_assoc outer us ends.0) in
    goes_before ts ends.0 (rw whole (join_ends hs (join half (one ends.1)) (outer ++ (us ++ ends.0)) (add hs half outer (us ++ ends.0) (one ends.1) at (primitive ends.2))))
can_go_on hs (Joined q) ts h = join_ends hs q ts h

pub begin : LeadTo [] start []
begin = ([], [], refl, refl, refl)

pub run_kept : (ts : List Token) (hs : List (Option HalfView)) (s : PhaseView) (before : List Token) → LeadTo hs s before → Kept (run hs s ts) (before ++ ts)
run_kept [] hs s before h = rw (append-nil before) h
run_kept (t ∷ ts) hs s before h =
    elim (step hs s t) as (λ o. Kept o (before ++ t ∷ []) → Kept (option_and_then (λ (x : ParserState). run x.1 x.0 ts) o) (before ++ (t ∷ ts))) [
      | None ↦ λ k. tt
      | Some x ↦ λ k. subst (λ (ws : List Token). Kept (run x.1 x.0 ts) ws) (append_assoc before (t ∷ []) ts) (run_kept ts x.1 x.0 (before ++ t ∷ []) k)
    ] (keeps hs s before t h)
