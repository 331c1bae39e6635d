-- The printed form of a query.
use Rattle.std.specs.Prelude.{ℕ, Bool, true, false, if◌then◌else◌, List, ◌++◌, codes, decimal}
use Rattle.st_query.specs.declared.nodes.When.{When}
use Rattle.st_query.specs.declared.nodes.When.TheVariants.{At, Ago}
use Rattle.st_query.specs.declared.nodes.Primitive.{Primitive}
use Rattle.st_query.specs.declared.nodes.Primitive.TheVariants.{Host, Net, Port, Proto, Vlan, Mpls, Before, After}
use Rattle.st_query.specs.PrintedWords.{address_text, net_text, instant_text}
use Rattle.st_query.specs.Trees.{Tree, both, either, one, is_joined}

-- a moment: an instant in UTC, or this many minutes or hours ago
abbrev pub when_text : When → List ℕ
when_text (At second) = instant_text second
when_text (Ago count hours) =
    (decimal count ++ (if hours then codes "h" else codes "m")) ++ codes " ago"

-- the printed form of a primitive
abbrev pub primitive_text : Primitive → List ℕ
primitive_text (Host a) = codes "host " ++ address_text a
primitive_text (Net a n) = codes "net " ++ net_text a n
primitive_text (Port n) = codes "port " ++ decimal n
primitive_text (Proto n) = codes "ip proto " ++ decimal n
primitive_text (Vlan n) = codes "vlan " ++ decimal n
primitive_text (Mpls n) = codes "mpls " ++ decimal n
primitive_text (Before when) = codes "before " ++ when_text when
primitive_text (After when) = codes "after " ++ when_text when

-- the text in parentheses, or bare
abbrev pub wrapped : Bool → List ℕ → List ℕ
wrapped true text = codes "(" ++ (text ++ codes ")")
wrapped false text = text

-- the left part bare, then the joiner, then the right part, in parentheses if it is itself joined
abbrev pub printed : Tree → List ℕ
printed (both a b) = printed a ++ (codes " and " ++ wrapped (is_joined b) (printed b))
printed (either a b) = printed a ++ (codes " or " ++ wrapped (is_joined b) (printed b))
printed (one p) = primitive_text p

-- the right part of a joined query: in parentheses if it is itself joined
abbrev pub side_text : Tree → List ℕ
side_text q = wrapped (is_joined q) (printed q)
