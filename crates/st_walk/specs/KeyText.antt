-- The bytes by which an index names a key.
use Rattle.std.specs.Prelude.{ℕ, ◌<◌, ◌^◌, List, ◌∷◌}
use Rattle.byteorder.specs.Endian.{big_bytes}
use Rattle.st_walk.specs.declared.numbers.TheConstants.{PROTO_KIND, PORT_KIND, VLAN_KIND, V4_KIND, MPLS_KIND, V6_KIND, SECOND_KIND, PROTO_SIZE, PORT_SIZE, VLAN_SIZE, V4_SIZE, MPLS_SIZE, V6_SIZE, SECOND_SIZE}
use Rattle.st_walk.specs.declared.text.Key.{Key}
use Rattle.st_walk.specs.declared.text.Key.TheVariants.{Proto, Port, Vlan, V4, Mpls, V6, Second}

-- the byte of the key's kind, and then its value, the highest byte first
abbrev pub key_text : Key → List ℕ
key_text (Proto n) = PROTO_KIND ∷ big_bytes PROTO_SIZE n
key_text (Port n) = PORT_KIND ∷ big_bytes PORT_SIZE n
key_text (Vlan n) = VLAN_KIND ∷ big_bytes VLAN_SIZE n
key_text (V4 n) = V4_KIND ∷ big_bytes V4_SIZE n
key_text (Mpls n) = MPLS_KIND ∷ big_bytes MPLS_SIZE n
key_text (V6 n) = V6_KIND ∷ big_bytes V6_SIZE n
key_text (Second n) = SECOND_KIND ∷ big_bytes SECOND_SIZE n

-- the key's value fits the type of its kind
abbrev pub Fits : Key → Type 0
Fits (Proto n) = n < 256 ^ PROTO_SIZE
Fits (Port n) = n < 256 ^ PORT_SIZE
Fits (Vlan n) = n < 256 ^ VLAN_SIZE
Fits (V4 n) = n < 256 ^ V4_SIZE
Fits (Mpls n) = n < 256 ^ MPLS_SIZE
Fits (V6 n) = n < 256 ^ V6_SIZE
Fits (Second n) = n < 256 ^ SECOND_SIZE
