-- The pass goes through whatever the grammar derives.
use Rattle.std.proofs.Common.{◌≡◌, ℕ, suc, ◌≤◌, ◌<◌, nat_le, nat_lt, true, false, List, [], ◌∷◌, ◌++◌, length, Option, Some, None, refl, ◌∙◌, ap, arith, append_assoc}
use Rattle.st_query.specs.declared.addrs.Addr.TheVariants.{V4, V6}
use Rattle.st_query.specs.declared.tokens.Token.TheVariants as token
use Rattle.st_query.specs.declared.tokens.Token.{Token}
use Rattle.st_query.specs.declared.nodes.Primitive.{Primitive}
use Rattle.st_query.specs.declared.automaton.Want.TheVariants as want
use Rattle.st_query.specs.Trees.{Tree, one}
use Rattle.st_query.specs.Grammar.{Prim, host, net, masked, port, proto, vlan, mpls, icmp, tcp, udp, before_at, before_ago, after_at, after_ago, Item, primitive, paren, Query, item, and, or}
use Rattle.st_query.specs.Automaton.{HalfView, Reading, Joined, join, start, run}
use Rattle.std.proofs.lemmas.Bool.Decides.{nat_tests}

-- a test that holds
pub le_true : (n most : ℕ) → n ≤ most → nat_le n most ≡ true
le_true n most h = grind (arith, nat_tests)

pub lt_true : (n most : ℕ) → n < most → nat_lt n most ≡ true
lt_true n most h = grind (arith, nat_tests)

pub prim_runs : {us : List Token} {p : Primitive} → Prim us p → (hs : List (Option HalfView)) (half : Option HalfView) (rest : List Token) → run hs (Reading want.Item half) (us ++ rest) ≡ run hs (Joined (join half (one p))) rest
prim_runs (host e) hs half rest = rw e refl
prim_runs (net e) hs half rest = rw e refl
prim_runs (masked {a = V4 x} {b = V4 y} s e) hs half rest = rw e refl
prim_runs (masked {a = V6 x} {b = V6 y} s e) hs half rest = rw e refl
prim_runs (masked {a = V4 x} {b = V6 y} s e) hs half rest = absurd s
prim_runs (masked {a = V6 x} {b = V4 y} s e) hs half rest = absurd s
prim_runs (port {n = n} h e) hs half rest = rw (e, le_true n 65535 h) refl
prim_runs (proto {n = n} h e) hs half rest = rw (e, le_true n 255 h) refl
prim_runs (vlan {n = n} h e) hs half rest = rw (e, le_true n 4095 h) refl
prim_runs (mpls {n = n} h e) hs half rest = rw (e, le_true n 1048575 h) refl
prim_runs (icmp e) hs half rest = rw e refl
prim_runs (tcp e) hs half rest = rw e refl
prim_runs (udp e) hs half rest = rw e refl
prim_runs (before_at e) hs half rest = rw e refl
prim_runs (before_ago e) hs half rest = rw e refl
prim_runs (after_at e) hs half rest = rw e refl
prim_runs (after_ago e) hs half rest = rw e refl

-- an open parenthesis is taken where fewer than 64 are open
pub opens : (hs : List (Option HalfView)) (half : Option HalfView) (ts : List Token) → length hs < 64 → run hs (Reading want.Item half) (token.Open ∷ ts) ≡ run (half ∷ hs) start ts
opens hs half ts h = rw (lt_true (length hs) 64 h) refl

mutual
  pub item_runs : {d : ℕ} {us : List Token} {q : Tree} → Item d us q → (hs : List (Option HalfView)) → length hs ≡ d → (half : Option HalfView) (rest : List Token) → run hs (Reading want.Item half) (us ++ rest) ≡ run hs (Joined (join half q)) rest
  item_runs (primitive p) hs e half rest = prim_runs p hs half rest
  item_runs (paren {d = d} {ts = ts} {us = us} h inside eq) hs e half rest =
      let shape : us ++ rest ≡ token.Open ∷ (ts ++ (token.Close ∷ rest)) = rw eq (ap (λ xs. token.Open ∷ xs) (append_assoc ts (token.Close ∷ []) rest)) in
      let open_here : length hs < 64 = omega arith in
      let deeper : length (half ∷ hs) ≡ suc d = ap suc e in
      rw shape (opens hs half (ts ++ (token.Close ∷ rest)) open_here ∙ query_runs inside (half ∷ hs) deeper (token.Close ∷ rest))

  pub query_runs : {d : ℕ} {us : List Token} {q : Tree} → Query d us q → (hs : List (Option HalfView)) → length hs ≡ d → (rest : List Token) → run hs start (us ++ rest) ≡ run hs (Joined q) rest
  query_runs (item i) hs e rest = item_runs i hs e None rest
  query_runs (and {ts = ts} {us = us} {ws = ws} {a = a} left right eq) hs e rest =
      let shape : ws ++ rest ≡ ts ++ (token.And ∷ (us ++ rest)) = rw eq (append_assoc ts (token.And ∷ us) rest) in
      rw shape (query_runs left hs e (token.And ∷ (us ++ rest)) ∙ item_runs right hs e (Some (record { left = a; and = true })) rest)
  query_runs (or {ts = ts} {us = us} {ws = ws} {a = a} left right eq) hs e rest =
      let shape : ws ++ rest ≡ ts ++ (token.Or ∷ (us ++ rest)) = rw eq (append_assoc ts (token.Or ∷ us) rest) in
      rw shape (query_runs left hs e (token.Or ∷ (us ++ rest)) ∙ item_runs right hs e (Some (record { left = a; and = false })) rest)
