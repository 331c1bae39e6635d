-- A part of a query is smaller than the query.
use Rattle.std.proofs.Common.{◌≡◌, ℕ, ◌<◌, ◌≤◌, sym, subst, arith, rules}
use Rattle.st_query.specs.declared.nodes.Node.{Node, size-Node, size_is-Node}
use Rattle.st_query.specs.declared.nodes.Node as node

or_size : (l r : Node) → size-Node l < size-Node (node.Or l r)
or_size l r = search (rules, size_is-Node, node.the_lemmas)

and_size : (l r : Node) → size-Node l < size-Node (node.And l r)
and_size l r = search (rules, size_is-Node, node.the_lemmas)

pub or_smaller : (rest left l r : Node) (most : ℕ) → rest ≡ node.Or l r → left ≡ l → size-Node rest ≤ most → size-Node left ≤ most
or_smaller rest left l r most e f h =
    let whole : size-Node (node.Or l r) ≤ most = subst (λ (q : Node). size-Node q ≤ most) e h in
    let part : size-Node l < size-Node (node.Or l r) = or_size l r in
    subst (λ (q : Node). size-Node q ≤ most) (sym f) (omega (arith, part, whole))

pub and_smaller : (rest left l r : Node) (most : ℕ) → rest ≡ node.And l r → left ≡ l → size-Node rest ≤ most → size-Node left ≤ most
and_smaller rest left l r most e f h =
    let whole : size-Node (node.And l r) ≤ most = subst (λ (q : Node). size-Node q ≤ most) e h in
    let part : size-Node l < size-Node (node.And l r) = and_size l r in
    subst (λ (q : Node). size-Node q ≤ most) (sym f) (omega (arith, part, whole))
