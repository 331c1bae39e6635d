-- The grammar: which tokens make a query, and how a list of tokens is refused.
--
--     query   = item { joiner item }       equal precedence, the chain nests to the left
--     joiner  = "and" | "&&" | "or" | "||"
--     item    = "(" query ")" | primitive
use Rattle.std.specs.Prelude.{◌≡◌, ℕ, suc, ℤ, ◌≤◌, ◌<◌, Bool, List, [], ◌∷◌, ◌++◌, Option, Some, ◌⊎◌}
use Rattle.st_query.specs.declared.addrs.Addr.{Addr}
use Rattle.st_query.specs.declared.addrs.Addr.TheVariants.{V4, V6}
use Rattle.st_query.specs.declared.tokens.Token.TheVariants as token
use Rattle.st_query.specs.declared.tokens.Token.{Token}
use Rattle.st_query.specs.declared.tokens.Keyword.TheVariants as key
use Rattle.st_query.specs.declared.limits.TheConstants.{MAX_OPEN, MAX_PORT, MAX_PROTO, MAX_VLAN, MAX_LABEL}
use Rattle.st_query.specs.declared.nodes.When.TheVariants as when
use Rattle.st_query.specs.declared.nodes.Primitive.{Primitive}
use Rattle.st_query.specs.declared.nodes.Primitive.TheVariants as prim
use Rattle.st_query.specs.declared.automaton.Kind.{Kind}
use Rattle.st_query.specs.declared.automaton.Kind.TheVariants as kind
use Rattle.st_query.specs.Words.{network}
use Rattle.st_query.specs.Trees.{Tree, both, either, one}

-- two addresses of one family
abbrev pub SameFamily : Addr → Addr → Type 0
SameFamily (V4 a) (V4 b) = Unit {0}
SameFamily (V6 a) (V6 b) = Unit {0}
SameFamily _ _ = ⊥

-- the tokens are this primitive
pub data Prim : List Token → Primitive → Type 0 where
  host : {us : List Token} {a : Addr} {m : Option ℕ}
      → us ≡ token.Key key.Host ∷ token.Address a m ∷ [] → Prim us (prim.Host a)
  net : {us : List Token} {a : Addr} {n : ℕ} → us ≡ token.Key key.Net ∷ token.Net a n ∷ []
      → Prim us (prim.Net (network a n) n)
  masked : {us : List Token} {a b : Addr} {m : Option ℕ} {n : ℕ} → SameFamily a b
      → us ≡ token.Key key.Net ∷ token.Address a m ∷ token.Key key.Mask ∷ token.Address b (Some n)
      ∷ [] → Prim us (prim.Net (network a n) n)
  port : {us : List Token} {n : ℕ} → n ≤ MAX_PORT → us ≡ token.Key key.Port ∷ token.Number n ∷ []
      → Prim us (prim.Port n)
  proto : {us : List Token} {n : ℕ} → n ≤ MAX_PROTO
      → us ≡ token.Key key.Ip ∷ token.Key key.Proto ∷ token.Number n ∷ [] → Prim us (prim.Proto n)
  vlan : {us : List Token} {n : ℕ} → n ≤ MAX_VLAN → us ≡ token.Key key.Vlan ∷ token.Number n ∷ []
      → Prim us (prim.Vlan n)
  mpls : {us : List Token} {n : ℕ} → n ≤ MAX_LABEL → us ≡ token.Key key.Mpls ∷ token.Number n ∷ []
      → Prim us (prim.Mpls n)
  icmp : {us : List Token} → us ≡ token.Key key.Icmp ∷ [] → Prim us (prim.Proto 1)
  tcp : {us : List Token} → us ≡ token.Key key.Tcp ∷ [] → Prim us (prim.Proto 6)
  udp : {us : List Token} → us ≡ token.Key key.Udp ∷ [] → Prim us (prim.Proto 17)
  before_at : {us : List Token} {t : ℤ} → us ≡ token.Key key.Before ∷ token.Instant t ∷ []
      → Prim us (prim.Before (when.At t))
  before_ago : {us : List Token} {n : ℕ} {h : Bool}
      → us ≡ token.Key key.Before ∷ token.Span n h ∷ token.Key key.Ago ∷ []
      → Prim us (prim.Before (when.Ago n h))
  after_at : {us : List Token} {t : ℤ} → us ≡ token.Key key.After ∷ token.Instant t ∷ []
      → Prim us (prim.After (when.At t))
  after_ago : {us : List Token} {n : ℕ} {h : Bool}
      → us ≡ token.Key key.After ∷ token.Span n h ∷ token.Key key.Ago ∷ []
      → Prim us (prim.After (when.Ago n h))

-- the tokens are this item, or this query, inside d open parentheses
mutual
  pub data Item : ℕ → List Token → Tree → Type 0 where
    primitive : {d : ℕ} {us : List Token} {l : Primitive} → Prim us l → Item d us (one l)
    paren : {d : ℕ} {ts us : List Token} {q : Tree} → d < MAX_OPEN → Query (suc d) ts q
        → us ≡ token.Open ∷ (ts ++ token.Close ∷ []) → Item d us q

  pub data Query : ℕ → List Token → Tree → Type 0 where
    item : {d : ℕ} {us : List Token} {q : Tree} → Item d us q → Query d us q
    and : {d : ℕ} {ts us ws : List Token} {a b : Tree} → Query d ts a → Item d us b
        → ws ≡ ts ++ (token.And ∷ us) → Query d ws (both a b)
    or : {d : ℕ} {ts us ws : List Token} {a b : Tree} → Query d ts a → Item d us b
        → ws ≡ ts ++ (token.Or ∷ us) → Query d ws (either a b)

-- some further tokens make these a query
abbrev pub CanGoOn : List Token → Type 0
CanGoOn ts = (more : List Token) × (q : Tree) × Query 0 (ts ++ more) q

-- a number is wanted: some number may come next
abbrev pub WantsNumber : List Token → Type 0
WantsNumber ts = (n : ℕ) × CanGoOn (ts ++ token.Number n ∷ [])

-- an address is wanted: some address may come next
abbrev pub WantsAddress : List Token → Type 0
WantsAddress ts = (a : Addr) × (m : Option ℕ) × CanGoOn (ts ++ token.Address a m ∷ [])

-- a time is wanted: some instant may come next
abbrev pub WantsTime : List Token → Type 0
WantsTime ts = (t : ℤ) × CanGoOn (ts ++ token.Instant t ∷ [])

-- an item is wanted: `icmp` may come next
abbrev pub WantsItem : List Token → Type 0
WantsItem ts = CanGoOn (ts ++ token.Key key.Icmp ∷ [])

-- after these tokens, a refusal of the next token, or of the end of the text, has this kind
abbrev pub HasKind : List Token → Option Token → Kind → Type 0
HasKind ts t kind.Number = (t ≡ Some token.Stray → ⊥) × WantsNumber ts
HasKind ts t kind.Address = (t ≡ Some token.Stray → ⊥) × WantsAddress ts
HasKind ts t kind.Time = (t ≡ Some token.Stray → ⊥) × WantsTime ts
HasKind ts t kind.Deep = (t ≡ Some token.Open) × WantsItem ts
HasKind ts t kind.Syntax =
    (t ≡ Some token.Stray)
    ⊎ ((WantsNumber ts → ⊥) × (WantsAddress ts → ⊥) × (WantsTime ts → ⊥)
    × (t ≡ Some token.Open → WantsItem ts → ⊥))
