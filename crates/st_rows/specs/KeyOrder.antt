-- The order of an index's rows: that of their keys' bytes, which is that of the keys by kind and
-- then by number.
use Rattle.std.specs.Prelude.{◌≡◌, ℕ, List, Bool, not, ◌&&◌}
use Rattle.std.specs.Ordering.{nat_cmp, ordering_then, is_lt}
use Rattle.std.specs.declared.cmp.Ordering.{Ordering}
use Rattle.std.specs.Cmp.Lexicographic.{slice_cmp}
use Rattle.st_walk.specs.declared.numbers.TheConstants.{PROTO_KIND, PORT_KIND, VLAN_KIND, V4_KIND, MPLS_KIND, V6_KIND, SECOND_KIND}
use Rattle.st_walk.specs.declared.text.Key.{Key}
use Rattle.st_walk.specs.declared.text.Key.TheVariants.{Proto, Port, Vlan, V4, Mpls, V6, Second}
use Rattle.st_walk.specs.contracts.text.KeyOrd.TheImpl as derived
use Rattle.st_walk.specs.KeyText.{key_text, Fits}
use Rattle.st_table.specs.TableFile.{is_at_most}

-- the byte of a key's kind
abbrev pub kind_of : Key → ℕ
kind_of (Proto n) = PROTO_KIND
kind_of (Port n) = PORT_KIND
kind_of (Vlan n) = VLAN_KIND
kind_of (V4 n) = V4_KIND
kind_of (Mpls n) = MPLS_KIND
kind_of (V6 n) = V6_KIND
kind_of (Second n) = SECOND_KIND

-- a key's number
abbrev pub number_of : Key → ℕ
number_of (Proto n) = n
number_of (Port n) = n
number_of (Vlan n) = n
number_of (V4 n) = n
number_of (Mpls n) = n
number_of (V6 n) = n
number_of (Second n) = n

-- by kind, and then by number
abbrev pub key_cmp : Key → Key → Ordering
key_cmp k j = ordering_then (nat_cmp (kind_of k) (kind_of j)) (nat_cmp (number_of k) (number_of j))

-- that is the order of the keys' texts
abbrev pub TextOrder : Type 0
TextOrder =
    (k j : Key) → Fits k → Fits j → slice_cmp nat_cmp (key_text k) (key_text j) ≡ key_cmp k j

-- and the derived order of `Key`
abbrev pub DerivedOrder : Type 0
DerivedOrder = (k j : Key) → derived.ghosts.cmp k j ≡ key_cmp k j

-- a key lies between two keys, both included
abbrev pub lies : Key → Key → Key → Bool
lies low high k = not (is_lt (key_cmp high k)) && not (is_lt (key_cmp k low))

-- a text lies between two texts, both included
abbrev pub lies_text : List ℕ → List ℕ → List ℕ → Bool
lies_text low high text = is_at_most high text && is_at_most text low

-- texts lie between texts as their keys do between keys
abbrev pub TextsLie : Type 0
TextsLie =
    (low high k : Key) → Fits low → Fits high → Fits k
    → lies_text (key_text low) (key_text high) (key_text k) ≡ lies low high k
