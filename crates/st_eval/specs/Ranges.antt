-- The keys that a primitive of a query asks for: those from one key to another, or none.
use Rattle.std.specs.Prelude.{ℕ, ◌+◌, ◌-◌, ◌≤◌, ◌^◌, ◌↔◌, min, nat_eq, nat_le, if◌then◌else◌, Option, Some, None, ℤ, pos, negsuc, IsTrue}
use Rattle.st_base.specs.Records.{Rec}
use Rattle.st_walk.specs.declared.text.Key.{Key}
use Rattle.st_walk.specs.declared.text.Key.TheVariants as key
use Rattle.st_walk.specs.KeyText.{Fits}
use Rattle.st_walk.specs.Walk.{HasKey}
use Rattle.st_query.specs.declared.addrs.Addr.{Addr}
use Rattle.st_query.specs.declared.addrs.Addr.TheVariants.{V4, V6}
use Rattle.st_query.specs.declared.limits.TheConstants.{V4_BITS, V6_BITS}
use Rattle.st_query.specs.declared.nodes.Primitive.{Primitive}
use Rattle.st_query.specs.declared.nodes.Primitive.TheVariants as prim
use Rattle.st_query.specs.Words.{cleared}
use Rattle.st_query.specs.Trees.{Tree, both, either, one, FitsPrimitive}
use Rattle.st_query.specs.Meaning.{addr_key, second_of, IsInNet, MatchesPrimitive}
use Rattle.st_rows.specs.KeyOrder.{lies}
use Rattle.st_eval.specs.declared.ranges.TheConstants.{LAST_SECOND}

-- the keys of the first and of the last address whose first n bits are those of this one
abbrev pub net_low : Addr → ℕ → Key
net_low (V4 a) n = key.V4 (cleared V4_BITS n a)
net_low (V6 a) n = key.V6 (cleared V6_BITS n a)

abbrev pub net_high : Addr → ℕ → Key
net_high (V4 a) n = key.V4 (cleared V4_BITS n a + (2 ^ (V4_BITS - n) - 1))
net_high (V6 a) n = key.V6 (cleared V6_BITS n a + (2 ^ (V6_BITS - n) - 1))

-- the seconds before a moment, the first and the last, if there are any
abbrev pub seconds_before : ℤ → Option (Key × Key)
seconds_before (pos t) =
    if nat_eq t 0 then None else Some (key.Second 0, key.Second (min (t - 1) LAST_SECOND))
seconds_before (negsuc t) = None

-- the seconds from a moment on, the first and the last, if there are any
abbrev pub seconds_from : ℤ → Option (Key × Key)
seconds_from (pos t) =
    if nat_le t LAST_SECOND then Some (key.Second t, key.Second LAST_SECOND) else None
seconds_from (negsuc t) = Some (key.Second 0, key.Second LAST_SECOND)

-- the first and the last of the keys that a primitive asks for, if there are any
abbrev pub range_of : Primitive → ℕ → Option (Key × Key)
range_of (prim.Host a) now = Some (addr_key a, addr_key a)
range_of (prim.Net a n) now = Some (net_low a n, net_high a n)
range_of (prim.Port n) now = Some (key.Port n, key.Port n)
range_of (prim.Proto n) now = Some (key.Proto n, key.Proto n)
range_of (prim.Vlan n) now = Some (key.Vlan n, key.Vlan n)
range_of (prim.Mpls n) now = Some (key.Mpls n, key.Mpls n)
range_of (prim.Before when) now = seconds_before (second_of when now)
range_of (prim.After when) now = seconds_from (second_of when now)

-- the same of a query that is one primitive
abbrev pub range_in : Tree → ℕ → Option (Key × Key)
range_in (both a b) now = None
range_in (either a b) now = None
range_in (one p) now = range_of p now

-- the packet has a key from one key to another
abbrev pub HasIn : Option (Key × Key) → Rec → Type 0
HasIn None r = ⊥
HasIn (Some x) r = (k : Key) × HasKey r.body r.sec k × IsTrue (lies x.0 x.1 k)

-- the numbers of both keys fit their kinds
abbrev pub EndsFit : Option (Key × Key) → Type 0
EndsFit None = Unit {0}
EndsFit (Some x) = Fits x.0 × Fits x.1

-- a packet has an address in a net if and only if it has a key from the net's first key to its last
abbrev pub NetIsRange : Type 0
NetIsRange =
    (a : Addr) (n : ℕ) (r : Rec) → IsInNet a n r ↔ HasIn (Some (net_low a n, net_high a n)) r

-- a packet matches a primitive if and only if it has a key in the primitive's range
abbrev pub MatchesByRange : Type 0
MatchesByRange =
    (p : Primitive) (now : ℕ) (r : Rec) → r.sec ≤ LAST_SECOND
    → MatchesPrimitive p now r ↔ HasIn (range_of p now) r

-- the ends of the ranges of primitives fit
abbrev pub RangesFit : Type 0
RangesFit = (p : Primitive) (now : ℕ) → FitsPrimitive p → EndsFit (range_of p now)
