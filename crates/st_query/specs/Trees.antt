-- A query as a tree: primitives, joined by `and` and `or`.
use Rattle.std.specs.Prelude.{◌≡◌, ℕ, suc, max, ◌≤◌, ◌<◌, ◌^◌, Bool, true, false, if◌then◌else◌}
use Rattle.st_query.specs.declared.nodes.When.{When}
use Rattle.st_query.specs.declared.nodes.When.TheVariants.{At, Ago}
use Rattle.st_query.specs.declared.limits.TheConstants.{MAX_OPEN, MAX_PORT, MAX_PROTO, MAX_VLAN, MAX_LABEL}
use Rattle.st_query.specs.Words.{width, network, FitsAddr}
use Rattle.st_query.specs.Times.{IsInYears}
use Rattle.st_query.specs.declared.nodes.Primitive.{Primitive}
use Rattle.st_query.specs.declared.nodes.Primitive.TheVariants as prim
use Rattle.st_query.specs.declared.nodes.Node.{Node, fold-Node}
use Rattle.st_query.specs.declared.nodes.Node.TheOpen.{Node-F}

-- two trees joined by `and`, two joined by `or`, or one primitive
pub data Tree : Type 0 where
  both : Tree → Tree → Tree
  either : Tree → Tree → Tree
  one : Primitive → Tree

-- two trees joined by `and`, or else by `or`
abbrev pub joined_by : Bool → Tree → Tree → Tree
joined_by and a b = if and then both a b else either a b

-- a node's tree, from its parts' trees
abbrev pub tree_step : Node-F Tree → Tree
tree_step (Node-F.And left right) = both left right
tree_step (Node-F.Or left right) = either left right
tree_step (Node-F.Host a) = one (prim.Host a)
tree_step (Node-F.Net a n) = one (prim.Net a n)
tree_step (Node-F.Port n) = one (prim.Port n)
tree_step (Node-F.Proto n) = one (prim.Proto n)
tree_step (Node-F.Vlan n) = one (prim.Vlan n)
tree_step (Node-F.Mpls n) = one (prim.Mpls n)
tree_step (Node-F.Before when) = one (prim.Before when)
tree_step (Node-F.After when) = one (prim.After when)

-- the tree that a node is
abbrev pub tree : Node → Tree
tree = fold-Node Tree tree_step

-- the moment is in the years 0000 to 9999, or its count is below 2^32
abbrev pub FitsWhen : When → Type 0
FitsWhen (At second) = IsInYears second
FitsWhen (Ago count hours) = count < 2 ^ 32

-- the primitive's number is in its range, and a net has no host bits
abbrev pub FitsPrimitive : Primitive → Type 0
FitsPrimitive (prim.Host a) = FitsAddr a
FitsPrimitive (prim.Net a n) = FitsAddr a × (n ≤ width a) × (network a n ≡ a)
FitsPrimitive (prim.Port n) = n ≤ MAX_PORT
FitsPrimitive (prim.Proto n) = n ≤ MAX_PROTO
FitsPrimitive (prim.Vlan n) = n ≤ MAX_VLAN
FitsPrimitive (prim.Mpls n) = n ≤ MAX_LABEL
FitsPrimitive (prim.Before when) = FitsWhen when
FitsPrimitive (prim.After when) = FitsWhen when

-- each primitive of the tree is in range
abbrev pub InRange : Tree → Type 0
InRange (both a b) = InRange a × InRange b
InRange (either a b) = InRange a × InRange b
InRange (one p) = FitsPrimitive p

-- the tree is joined from two
abbrev pub is_joined : Tree → Bool
is_joined (one p) = false
is_joined _ = true

-- one more if the tree is joined, since its printed form is then in parentheses
abbrev pub inside : ℕ → Tree → ℕ
inside n q = if is_joined q then suc n else n

-- how many parentheses are open at once in the printed form, in which only a right part that is
-- joined is in parentheses
abbrev pub depth : Tree → ℕ
depth (both a b) = max (depth a) (inside (depth b) b)
depth (either a b) = max (depth a) (inside (depth b) b)
depth (one p) = 0

-- the tree of a query: its numbers are in range, and its printed form has at most MAX_OPEN
-- parentheses open at once
pub record IsSound (q : Tree) : Type 0 where
  pub in_range : InRange q
  pub shallow : depth q ≤ MAX_OPEN
