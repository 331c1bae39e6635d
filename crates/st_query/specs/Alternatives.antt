-- What the calls of the module `alternatives` ensure: the alternatives of a chain joined by `or`,
-- and the keys that they ask for, as groups of numbers in ascending order.
use Rattle.std.specs.Prelude.{◌≡◌, ℕ, zero, suc, ◌-◌, ◌/◌, ◌^◌, ◌↔◌, List, Contains, Option, Some, None, ⊤}
use Rattle.st_base.specs.Records.{Rec}
use Rattle.st_walk.specs.Walk.{FrameHas}
use Rattle.st_walk.specs.declared.text.Key.{Key}
use Rattle.st_walk.specs.declared.text.Key.TheVariants as key
use Rattle.st_query.specs.declared.limits.TheConstants.{V4_BITS, V6_BITS}
use Rattle.st_query.specs.declared.addrs.Addr.{Addr}
use Rattle.st_query.specs.declared.addrs.Addr.TheVariants.{V4, V6}
use Rattle.st_query.specs.declared.patterns.KeyKind.{KeyKind}
use Rattle.st_query.specs.declared.patterns.KeyKind.TheVariants as kind
use Rattle.st_query.specs.declared.patterns.Pattern.{Pattern}
use Rattle.st_query.specs.declared.patterns.Group.{Group}
use Rattle.st_query.specs.declared.patterns.Chain.{Chain}
use Rattle.st_query.specs.declared.nodes.Node.{Node}
use Rattle.st_query.specs.declared.nodes.Primitive.{Primitive}
use Rattle.st_query.specs.declared.nodes.Primitive.TheVariants as prim
use Rattle.st_query.specs.Meaning.{addr_key, MatchesTree}
use Rattle.st_query.specs.Trees.{Tree, both, either, one, tree}

-- the kind of a key
abbrev pub kind_of : Key → KeyKind
kind_of (key.Proto n) = kind.Proto
kind_of (key.Port n) = kind.Port
kind_of (key.Vlan n) = kind.Vlan
kind_of (key.V4 n) = kind.V4
kind_of (key.Mpls n) = kind.Mpls
kind_of (key.V6 n) = kind.V6
kind_of (key.Second n) = kind.Second

-- the number of a key
abbrev pub number_of : Key → ℕ
number_of (key.Proto n) = n
number_of (key.Port n) = n
number_of (key.Vlan n) = n
number_of (key.V4 n) = n
number_of (key.Mpls n) = n
number_of (key.V6 n) = n
number_of (key.Second n) = n

-- the key is of the pattern's kind, and its number, without its last bits, is the pattern's
abbrev pub Fits : Pattern → Key → Type 0
Fits p k = (kind_of k ≡ p.kind) × (number_of k / 2 ^ p.dropped ≡ p.number)

-- the pattern of this kind that drops this many bits, with this number
abbrev pub with_number : KeyKind → ℕ → ℕ → Pattern
with_number k dropped n = record { kind = k; dropped = dropped; number = n }

-- the pattern of one key
abbrev pub exact : Key → Pattern
exact k = with_number (kind_of k) 0 (number_of k)

-- the pattern of the addresses whose first n bits are those of this one
abbrev pub net_pattern : Addr → ℕ → Pattern
net_pattern (V4 a) n = with_number kind.V4 (V4_BITS - n) (a / 2 ^ (V4_BITS - n))
net_pattern (V6 a) n = with_number kind.V6 (V6_BITS - n) (a / 2 ^ (V6_BITS - n))

-- the pattern of the keys that a primitive asks for; none of a time
abbrev pub pattern_of : Primitive → Option Pattern
pattern_of (prim.Host a) = Some (exact (addr_key a))
pattern_of (prim.Net a n) = Some (net_pattern a n)
pattern_of (prim.Port n) = Some (exact (key.Port n))
pattern_of (prim.Proto n) = Some (exact (key.Proto n))
pattern_of (prim.Vlan n) = Some (exact (key.Vlan n))
pattern_of (prim.Mpls n) = Some (exact (key.Mpls n))
pattern_of (prim.Before when) = None
pattern_of (prim.After when) = None

-- the pattern of a query that is one primitive
abbrev pub pattern_in : Tree → Option Pattern
pattern_in (both a b) = None
pattern_in (either a b) = None
pattern_in (one p) = pattern_of p

-- what is left of a query without its last n parts
abbrev pub left_part : Tree → ℕ → Tree
left_part (one p) n = one p
left_part (both a b) zero = both a b
left_part (both a b) (suc n) = left_part a n
left_part (either a b) zero = either a b
left_part (either a b) (suc n) = left_part a n

-- the query is not joined, so it has no last part that could be left out
abbrev pub IsAlone : Node → Type 0
IsAlone q = (n : ℕ) → left_part (tree q) n ≡ tree q

-- the query's left part
abbrev pub IsLeft : Node → Node → Type 0
IsLeft q l = (n : ℕ) → left_part (tree q) (suc n) ≡ left_part (tree l) n

-- a key of the packet's frame fits the pattern
abbrev pub HasFitting : Pattern → Rec → Type 0
HasFitting p r = (k : Key) × Fits p k × FrameHas r.body k

-- a key of the packet's frame fits one of the patterns
abbrev pub AnyFits : List Pattern → Rec → Type 0
AnyFits ps r = (p : Pattern) × Contains ps p × HasFitting p r

-- the query matches a packet if and only if a key of its frame fits one of the patterns
abbrev pub ArePatternsOf : Tree → List Pattern → Type 0
ArePatternsOf q ps = (now : ℕ) (r : Rec) → MatchesTree q now r ↔ AnyFits ps r

-- the numbers of the patterns of one kind that drop this many bits
abbrev pub AreNumbers : KeyKind → ℕ → List Pattern → List ℕ → Type 0
AreNumbers k dropped ps ns = (n : ℕ) → Contains ns n ↔ Contains ps (with_number k dropped n)

-- there is a group of this kind that drops this many bits
abbrev pub HasGroup : List Group → KeyKind → ℕ → Type 0
HasGroup gs k dropped = (g : Group) × ((g.kind ≡ k) × (g.dropped ≡ dropped)) × Contains gs g

-- the groups have exactly the patterns
pub record IsGrouped (ps : List Pattern) (gs : List Group) : Type 0 where
  pub members : (g : Group) → Contains gs g → AreNumbers g.kind g.dropped ps g.numbers.items
  pub whole : (p : Pattern) → Contains ps p → HasGroup gs p.kind p.dropped

-- the group has a pattern that this number of this kind fits
abbrev pub GroupIncludes : Group → KeyKind → ℕ → Type 0
GroupIncludes g k n = (g.kind ≡ k) × Contains g.numbers.items (n / 2 ^ g.dropped)

-- one of the groups has a pattern that the key fits
unfoldable pub Included : List Group → Key → Type 0
Included gs k = (g : Group) × GroupIncludes g (kind_of k) (number_of k) × Contains gs g

-- one of the groups has a pattern that a key of the frame fits
abbrev pub AnyIncluded : List Group → List ℕ → Type 0
AnyIncluded gs frame = (k : Key) × Included gs k × FrameHas frame k

-- the chain is the query's: without the parts that follow, the query matches a packet if and only
-- if one of the groups has a pattern that a key of its frame fits
abbrev pub IsChainOf : Tree → Chain → Type 0
IsChainOf q c = (now : ℕ) (r : Rec) →
    MatchesTree (left_part q c.following) now r ↔ AnyIncluded c.groups.items r.body

-- a chain that is kept is the query's
abbrev pub HasChain : Tree → Option Chain → Type 0
HasChain q None = ⊤
HasChain q (Some c) = IsChainOf q c
