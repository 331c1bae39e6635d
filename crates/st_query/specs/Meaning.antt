-- Which packets a query matches. The clock's `now` is in microseconds since 1970.
use Rattle.std.specs.Prelude.{◌≡◌, ℕ, ◌*◌, ◌/◌, ◌⊎◌, Bool, if◌then◌else◌, ℤ, pos, ◌-ℤ◌, ◌<ℤ◌, ◌≤ℤ◌}
use Rattle.st_base.specs.Records.{Rec}
use Rattle.st_walk.specs.Walk.{HasKey}
use Rattle.st_walk.specs.declared.text.Key.{Key}
use Rattle.st_walk.specs.declared.text.Key.TheVariants as key
use Rattle.st_query.specs.declared.addrs.Addr.{Addr}
use Rattle.st_query.specs.declared.addrs.Addr.TheVariants.{V4, V6}
use Rattle.st_query.specs.declared.nodes.Node.{Node}
use Rattle.st_query.specs.declared.nodes.When.{When}
use Rattle.st_query.specs.declared.nodes.When.TheVariants.{At, Ago}
use Rattle.st_query.specs.declared.nodes.Primitive.{Primitive}
use Rattle.st_query.specs.declared.nodes.Primitive.TheVariants.{Host, Net, Port, Proto, Vlan, Mpls, Before, After}
use Rattle.st_query.specs.declared.units.TheConstants.{MINUTE, HOUR, SECOND}
use Rattle.st_query.specs.Words.{network}
use Rattle.st_query.specs.Trees.{Tree, both, either, one, tree}

-- the key of an address
abbrev pub addr_key : Addr → Key
addr_key (V4 a) = key.V4 a
addr_key (V6 a) = key.V6 a

-- this many hours or minutes, in seconds
abbrev pub span_of : ℕ → Bool → ℕ
span_of count hours = count * (if hours then HOUR else MINUTE)

-- the second of a moment: a relative one counts from the whole second of the clock, and may lie
-- before 1970
abbrev pub second_of : When → ℕ → ℤ
second_of (At second) now = second
second_of (Ago count hours) now = pos (now / SECOND) -ℤ pos (span_of count hours)

-- the packet has an address whose first n bits are those of this one
abbrev pub IsInNet : Addr → ℕ → Rec → Type 0
IsInNet a n r = (b : Addr) × (network b n ≡ network a n) × HasKey r.body r.sec (addr_key b)

-- the packet matches the primitive
abbrev pub MatchesPrimitive : Primitive → ℕ → Rec → Type 0
MatchesPrimitive (Host a) now r = HasKey r.body r.sec (addr_key a)
MatchesPrimitive (Net a n) now r = IsInNet a n r
MatchesPrimitive (Port n) now r = HasKey r.body r.sec (key.Port n)
MatchesPrimitive (Proto n) now r = HasKey r.body r.sec (key.Proto n)
MatchesPrimitive (Vlan n) now r = HasKey r.body r.sec (key.Vlan n)
MatchesPrimitive (Mpls n) now r = HasKey r.body r.sec (key.Mpls n)
MatchesPrimitive (Before when) now r = pos r.sec <ℤ second_of when now
MatchesPrimitive (After when) now r = second_of when now ≤ℤ pos r.sec

-- the packet matches the tree: both parts of an `and`, one part or both of an `or`
abbrev pub MatchesTree : Tree → ℕ → Rec → Type 0
MatchesTree (both a b) now r = MatchesTree a now r × MatchesTree b now r
MatchesTree (either a b) now r = MatchesTree a now r ⊎ MatchesTree b now r
MatchesTree (one p) now r = MatchesPrimitive p now r

-- the packet matches the query
abbrev pub Matches : Node → ℕ → Rec → Type 0
Matches q now r = MatchesTree (tree q) now r
