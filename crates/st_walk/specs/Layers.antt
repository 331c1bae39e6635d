-- What is in a frame at an offset: which headers count there, and which keys they carry.
-- A frame is its captured bytes, and each number in it has its highest byte first.
use Rattle.std.specs.Prelude.{ℕ, ◌+◌, ◌*◌, ◌/◌, ◌%◌, ◌==◌, Bool, not, ◌&&◌, ◌||◌, nat_le, nat_lt, if◌then◌else◌, List, [], ◌∷◌, length, drop, slice_index}
use Rattle.byteorder.specs.Endian.{big_number}
use Rattle.st_walk.specs.declared.numbers.TheConstants.{CUSTOMER_TAG, SERVICE_TAG, OUTER_TAG, MPLS, MPLS_MULTICAST, HOP_BY_HOP, ROUTING, FRAGMENT, AUTHENTICATION, DESTINATION, TCP, UDP, TAG_SIZE, TAG_LIMIT, LABEL_SIZE, LABEL_UNIT, LABEL_END_AT, HALF, IP4_SIZE, IP4_VERSION, IP4_WORDS, IP4_WORD_SIZE, IP4_FRAGMENT_AT, IP4_FRAGMENT_LIMIT, IP4_PROTO_AT, IP4_SOURCE_AT, IP4_DESTINATION_AT, IP6_SIZE, IP6_VERSION, IP6_SOURCE_AT, IP6_DESTINATION_AT, EXTENSION_UNITS_AT, EXTENSION_UNIT, AUTHENTICATION_UNIT, AUTHENTICATION_UNCOUNTED, FRAGMENT_SIZE, FRAGMENT_OFFSET_AT, FRAGMENT_OFFSET_SIZE, FRAGMENT_OFFSET_UNIT, PORTS_SIZE, DESTINATION_PORT_AT, PORT_SIZE, VLAN_SIZE, V4_SIZE, MPLS_SIZE, V6_SIZE}
use Rattle.st_walk.specs.declared.header.Layer.{Layer}
use Rattle.st_walk.specs.declared.header.Layer.TheVariants.{Ether, Next, Label, Ip4, Ip6, Chain, Last, Fragment, Ports}
use Rattle.st_walk.specs.declared.text.Key.{Key}
use Rattle.st_walk.specs.declared.text.Key.TheVariants.{Proto, Port, Vlan, V4, Mpls, V6}

-- the byte at an offset
abbrev pub byte : List ℕ → ℕ → ℕ
byte p o = slice_index p o

-- the number in n bytes from an offset
unfoldable pub field : ℕ → ℕ → List ℕ → ℕ
field n o p = big_number n (drop o p)

-- n bytes from an offset are captured
unfoldable pub holds : List ℕ → ℕ → ℕ → Bool
holds p o n = nat_le (o + n) (length p)

-- the EtherType of a tag: a customer tag or a service tag (IEEE 802.1Q, 9.5), or the older number
-- of the outer one of two tags, which is no standard's
unfoldable pub is_tag : ℕ → Bool
is_tag n = n == CUSTOMER_TAG || n == SERVICE_TAG || n == OUTER_TAG

-- the EtherType of a labelled packet, unicast or multicast (RFC 3032, 5)
unfoldable pub is_labelled : ℕ → Bool
is_labelled n = n == MPLS || n == MPLS_MULTICAST

-- the label at an offset is the last of its stack (RFC 3032, 2.1)
unfoldable pub is_bottom : List ℕ → ℕ → Bool
is_bottom p o = byte p (o + LABEL_END_AT) % 2 == 1

-- the IP version that the byte at an offset begins with, if it is captured (RFC 791, 3.1; RFC
-- 8200, 3)
unfoldable pub is_version : List ℕ → ℕ → ℕ → Bool
is_version p o n = holds p o 1 && byte p o / HALF == n

-- how many bytes the IPv4 header says that it has: its words of four bytes (RFC 791, 3.1)
abbrev pub ip4_size : List ℕ → ℕ → ℕ
ip4_size p o = IP4_WORD_SIZE * (byte p o % HALF)

-- an IPv4 header counts: 20 bytes, version 4, and at least five words (RFC 791, 3.1)
unfoldable pub is_ip4 : List ℕ → ℕ → Bool
is_ip4 p o =
    holds p o IP4_SIZE && byte p o / HALF == IP4_VERSION && nat_le IP4_WORDS (byte p o % HALF)

-- an IPv6 header counts: 40 bytes and version 6 (RFC 8200, 3)
unfoldable pub is_ip6 : List ℕ → ℕ → Bool
is_ip6 p o = holds p o IP6_SIZE && byte p o / HALF == IP6_VERSION

-- the IPv4 packet is no later fragment of another: its fragment offset is 0 (RFC 791, 3.1)
unfoldable pub is_first : List ℕ → ℕ → Bool
is_first p o = field FRAGMENT_OFFSET_SIZE (o + IP4_FRAGMENT_AT) p % IP4_FRAGMENT_LIMIT == 0

-- the protocol has ports: TCP (RFC 9293, 3.1) or UDP (RFC 768)
unfoldable pub has_ports : ℕ → Bool
has_ports n = n == TCP || n == UDP

-- how many bytes the extension header of this number has, 0 where the number names none: hop-by-hop
-- options, routing and destination options (RFC 8200, 4.3, 4.4 and 4.6), fragment (4.5),
-- authentication (RFC 4302, 2.2)
unfoldable pub extension_size : List ℕ → ℕ → ℕ → ℕ
extension_size p o n =
    if n == HOP_BY_HOP || n == ROUTING || n == DESTINATION
    then EXTENSION_UNIT * (byte p (o + EXTENSION_UNITS_AT) + 1)
    else (if n == FRAGMENT then FRAGMENT_SIZE
    else (if n == AUTHENTICATION
    then AUTHENTICATION_UNIT * (byte p (o + EXTENSION_UNITS_AT) + AUTHENTICATION_UNCOUNTED) else 0))

-- an extension header of this number counts: it is wholly captured
unfoldable pub is_extension : List ℕ → ℕ → ℕ → Bool
is_extension p o n = nat_lt 0 (extension_size p o n) && holds p o (extension_size p o n)

-- the extension header is that of a later fragment: its fragment offset is not 0 (RFC 8200, 4.5)
unfoldable pub is_later : List ℕ → ℕ → ℕ → Bool
is_later p o n =
    n == FRAGMENT
    && not (field FRAGMENT_OFFSET_SIZE (o + FRAGMENT_OFFSET_AT) p / FRAGMENT_OFFSET_UNIT == 0)

-- The keys that a layer carries, in their order in it: the identifier of a tag (IEEE 802.1Q, 9.6),
-- a label (RFC 3032, 2.1), the protocol and both addresses of IPv4 (RFC 791, 3.1), both addresses
-- of IPv6 (RFC 8200, 3), the number at which its chain ends (RFC 8200, 4), and both ports (RFC
-- 9293, 3.1; RFC 768).
abbrev pub layer_keys : List ℕ → ℕ → Layer → List Key
layer_keys p o Ether = []
layer_keys p o (Next n) =
    if is_tag n && holds p o TAG_SIZE then Vlan (field VLAN_SIZE o p % TAG_LIMIT) ∷ [] else []
layer_keys p o Label =
    if holds p o LABEL_SIZE then Mpls (field MPLS_SIZE o p / LABEL_UNIT) ∷ [] else []
layer_keys p o Ip4 =
    if is_ip4 p o then
    Proto (byte p (o + IP4_PROTO_AT))
    ∷ (V4 (field V4_SIZE (o + IP4_SOURCE_AT) p)
    ∷ (V4 (field V4_SIZE (o + IP4_DESTINATION_AT) p) ∷ []))
    else []
layer_keys p o Ip6 =
    if is_ip6 p o
    then V6 (field V6_SIZE (o + IP6_SOURCE_AT) p)
    ∷ (V6 (field V6_SIZE (o + IP6_DESTINATION_AT) p) ∷ []) else []
layer_keys p o (Chain n) = []
layer_keys p o (Last n) = Proto n ∷ []
layer_keys p o (Fragment n) = Proto n ∷ []
layer_keys p o Ports =
    if holds p o PORTS_SIZE
    then Port (field PORT_SIZE o p) ∷ (Port (field PORT_SIZE (o + DESTINATION_PORT_AT) p) ∷ [])
    else []
