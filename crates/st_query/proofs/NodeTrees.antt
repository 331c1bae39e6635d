-- A node is known by its tree.
use Rattle.std.proofs.Common.{◌≡◌, refl, sym, ◌∙◌, ap, subst}
use Rattle.st_query.specs.declared.nodes.Node as node
use Rattle.st_query.specs.declared.nodes.Node.{Node, ind-Node}
use Rattle.st_query.specs.declared.nodes.Node.TheOpen.{Node-F}
use Rattle.st_query.specs.declared.nodes.Primitive.TheVariants as prim
use Rattle.st_query.specs.Trees.{Tree, both, either, one, tree, tree_step}

pub back : Tree → Node
back (both a b) = node.roll-Node (Node-F.And (back a) (back b))
back (either a b) = node.roll-Node (Node-F.Or (back a) (back b))
back (one (prim.Host a)) = node.roll-Node (Node-F.Host a)
back (one (prim.Net a n)) = node.roll-Node (Node-F.Net a n)
back (one (prim.Port n)) = node.roll-Node (Node-F.Port n)
back (one (prim.Proto n)) = node.roll-Node (Node-F.Proto n)
back (one (prim.Vlan n)) = node.roll-Node (Node-F.Vlan n)
back (one (prim.Mpls n)) = node.roll-Node (Node-F.Mpls n)
back (one (prim.Before w)) = node.roll-Node (Node-F.Before w)
back (one (prim.After w)) = node.roll-Node (Node-F.After w)

-- the tree of a node whose parts are joined
pub and_tree : (l r : Node) → tree (node.And l r) ≡ both (tree l) (tree r)
unfolding node.roll-Node denote.Hole.Carrier.roll
and_tree l r = node.fold-roll-Node Tree tree_step (Node-F.And l r)

pub or_tree : (l r : Node) → tree (node.Or l r) ≡ either (tree l) (tree r)
unfolding node.roll-Node denote.Hole.Carrier.roll
or_tree l r = node.fold-roll-Node Tree tree_step (Node-F.Or l r)

pair : (a b c d : Node) (f : Node → Node → Node) → c ≡ a → d ≡ b → f c d ≡ f a b
pair a b c d f e g = rw (e, g) refl

pub back_tree : (q : Node) → back (tree q) ≡ q
unfolding back
back_tree = ind-Node (λ q. back (tree q) ≡ q) (λ x y e. subst (λ z. back (tree (node.roll-Node z)) ≡ node.roll-Node z) e (elim y as (λ w. back (tree (node.roll-Node (node.map-Node _ Node (λ e. e.0) w))) ≡ node.roll-Node (node.map-Node _ Node (λ e. e.0) w)) [
  | Node-F.And l r ↦ ap back (node.fold-roll-Node Tree tree_step (Node-F.And l.0 r.0)) ∙ pair l.0 r.0 (back (tree l.0)) (back (tree r.0)) (λ a b. node.roll-Node (Node-F.And a b)) l.1 r.1
  | Node-F.Or l r ↦ ap back (node.fold-roll-Node Tree tree_step (Node-F.Or l.0 r.0)) ∙ pair l.0 r.0 (back (tree l.0)) (back (tree r.0)) (λ a b. node.roll-Node (Node-F.Or a b)) l.1 r.1
  | Node-F.Host a ↦ ap back (node.fold-roll-Node Tree tree_step (Node-F.Host a))
  | Node-F.Net a n ↦ ap back (node.fold-roll-Node Tree tree_step (Node-F.Net a n))
  | Node-F.Port n ↦ ap back (node.fold-roll-Node Tree tree_step (Node-F.Port n))
  | Node-F.Proto n ↦ ap back (node.fold-roll-Node Tree tree_step (Node-F.Proto n))
  | Node-F.Vlan n ↦ ap back (node.fold-roll-Node Tree tree_step (Node-F.Vlan n))
  | Node-F.Mpls n ↦ ap back (node.fold-roll-Node Tree tree_step (Node-F.Mpls n))
  | Node-F.Before w ↦ ap back (node.fold-roll-Node Tree tree_step (Node-F.Before w))
  | Node-F.After w ↦ ap back (node.fold-roll-Node Tree tree_step (Node-F.After w))
]))

-- nodes of one tree are one node
pub one_node : (p q : Node) → tree p ≡ tree q → p ≡ q
one_node p q e = sym (back_tree p) ∙ ap back e ∙ back_tree q

pair_of : {a b c d : Tree} (f : Tree → Tree → Tree) → a ≡ c → b ≡ d → f a b ≡ f c d
pair_of f e g = rw (e, g) refl

-- each tree is a node's
pub tree_back : (t : Tree) → tree (back t) ≡ t
unfolding back
tree_back (both a b) = node.fold-roll-Node Tree tree_step (Node-F.And (back a) (back b)) ∙ pair_of both (tree_back a) (tree_back b)
tree_back (either a b) = node.fold-roll-Node Tree tree_step (Node-F.Or (back a) (back b)) ∙ pair_of either (tree_back a) (tree_back b)
tree_back (one (prim.Host a)) = node.fold-roll-Node Tree tree_step (Node-F.Host a)
tree_back (one (prim.Net a n)) = node.fold-roll-Node Tree tree_step (Node-F.Net a n)
tree_back (one (prim.Port n)) = node.fold-roll-Node Tree tree_step (Node-F.Port n)
tree_back (one (prim.Proto n)) = node.fold-roll-Node Tree tree_step (Node-F.Proto n)
tree_back (one (prim.Vlan n)) = node.fold-roll-Node Tree tree_step (Node-F.Vlan n)
tree_back (one (prim.Mpls n)) = node.fold-roll-Node Tree tree_step (Node-F.Mpls n)
tree_back (one (prim.Before w)) = node.fold-roll-Node Tree tree_step (Node-F.Before w)
tree_back (one (prim.After w)) = node.fold-roll-Node Tree tree_step (Node-F.After w)
