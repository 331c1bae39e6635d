-- The header walk: from the Ethernet header on, each layer that one reached leads to.
use Rattle.std.specs.Prelude.{◌≡◌, ℕ, ◌+◌, ◌⊎◌, IsTrue, IsFalse, List, ◌++◌, Contains}
use Rattle.st_walk.specs.declared.header.Layer.{Layer}
use Rattle.st_walk.specs.declared.header.Layer.TheVariants.{Ether, Next, Label, Ip4, Ip6, Chain, Last, Fragment, Ports}
use Rattle.st_walk.specs.declared.numbers.TheConstants.{IP4, IP6, KIND_SIZE, ETHER_SIZE, ETHER_KIND_AT, TAG_SIZE, TAG_KIND_AT, LABEL_SIZE, IP4_VERSION, IP4_PROTO_AT, IP6_SIZE, IP6_VERSION, IP6_NEXT_AT}
use Rattle.st_walk.specs.declared.text.Key.{Key}
use Rattle.st_walk.specs.declared.text.Key.TheVariants.{Second}
use Rattle.st_walk.specs.Layers.{byte, field, holds, is_tag, is_labelled, is_bottom, is_version, ip4_size, is_ip4, is_ip6, is_first, has_ports, extension_size, is_extension, is_later, layer_keys}

-- A layer at an offset leads to another at its own. Where no rule fits, the walk ends.
pub data Step (p : List ℕ) : ℕ → Layer → ℕ → Layer → Type 0 where
  -- the Ethernet header ends with the EtherType (IEEE 802.3, 3.2)
  ether : {o : ℕ} → IsTrue (holds p o ETHER_SIZE)
      → Step p o Ether (o + ETHER_SIZE) (Next (field KIND_SIZE (o + ETHER_KIND_AT) p))
  -- a tag ends with the next EtherType (IEEE 802.1Q, 9.3)
  tag : {o n : ℕ} → IsTrue (is_tag n) → IsTrue (holds p o TAG_SIZE)
      → Step p o (Next n) (o + TAG_SIZE) (Next (field KIND_SIZE (o + TAG_KIND_AT) p))
  -- the label stack of a labelled packet (RFC 3032, 5)
  labelled : {o n : ℕ} → IsTrue (is_labelled n) → Step p o (Next n) o Label
  -- the EtherTypes of IPv4 (RFC 894) and IPv6 (RFC 2464, 3)
  ip4 : {o n : ℕ} → n ≡ IP4 → Step p o (Next n) o Ip4
  ip6 : {o n : ℕ} → n ≡ IP6 → Step p o (Next n) o Ip6
  -- a label that is not the last is followed by another (RFC 3032, 2.1)
  label : {o : ℕ} → IsTrue (holds p o LABEL_SIZE) → IsFalse (is_bottom p o)
      → Step p o Label (o + LABEL_SIZE) Label
  -- the last label doesn't tell what follows, so that packet's own version does
  label_ip4 : {o : ℕ} → IsTrue (holds p o LABEL_SIZE) → IsTrue (is_bottom p o)
      → IsTrue (is_version p (o + LABEL_SIZE) IP4_VERSION)
      → Step p o Label (o + LABEL_SIZE) Ip4
  label_ip6 : {o : ℕ} → IsTrue (holds p o LABEL_SIZE) → IsTrue (is_bottom p o)
      → IsTrue (is_version p (o + LABEL_SIZE) IP6_VERSION)
      → Step p o Label (o + LABEL_SIZE) Ip6
  -- the ports follow the IPv4 header's words, but not in a later fragment (RFC 791, 3.1 and 3.2)
  ip4_ports : {o : ℕ} → IsTrue (is_ip4 p o) → IsTrue (is_first p o)
      → IsTrue (has_ports (byte p (o + IP4_PROTO_AT)))
      → Step p o Ip4 (o + ip4_size p o) Ports
  -- the IPv6 header names the first header of its chain (RFC 8200, 3)
  ip6_chain : {o : ℕ} → IsTrue (is_ip6 p o)
      → Step p o Ip6 (o + IP6_SIZE) (Chain (byte p (o + IP6_NEXT_AT)))
  -- an extension header begins with the number of the next header (RFC 8200, 4)
  extension : {o n : ℕ} → IsTrue (is_extension p o n) → IsFalse (is_later p o n)
      → Step p o (Chain n) (o + extension_size p o n) (Chain (byte p o))
  -- no header follows the fragment header of a later fragment (RFC 8200, 4.5)
  fragment : {o n : ℕ} → IsTrue (is_extension p o n) → IsTrue (is_later p o n)
      → Step p o (Chain n) (o + extension_size p o n) (Fragment (byte p o))
  -- the chain ends if no header counts that its number would announce
  last : {o n : ℕ} → IsFalse (is_extension p o n) → Step p o (Chain n) o (Last n)
  -- and there the ports stand, where that number is of a protocol with ports
  last_ports : {o n : ℕ} → IsTrue (has_ports n) → Step p o (Last n) o Ports

-- by any number of steps the one layer leads to the other
pub data Reaches (p : List ℕ) : ℕ → Layer → ℕ → Layer → Type 0 where
  here : {o : ℕ} {l : Layer} → Reaches p o l o l
  on : {o m e : ℕ} {l k f : Layer} → Step p o l m k → Reaches p m k e f → Reaches p o l e f

-- the layer carries the key
abbrev pub Carries : List ℕ → ℕ → Layer → Key → Type 0
Carries p o l k = Contains (layer_keys p o l) k

-- the walk from this layer on reaches one that carries the key
pub record HasFrom (p : List ℕ) (o : ℕ) (l : Layer) (k : Key) : Type 0 where
  pub end : ℕ
  pub layer : Layer
  pub reached : Reaches p o l end layer
  pub carried : Carries p end layer k

-- the frame has the key: its walk reaches a layer that carries it
abbrev pub FrameHas : List ℕ → Key → Type 0
FrameHas p k = HasFrom p 0 Ether k

-- a record with this frame and this second has the key
abbrev pub HasKey : List ℕ → ℕ → Key → Type 0
HasKey p sec k = (k ≡ Second sec) ⊎ FrameHas p k

-- these are the keys of the walk from this layer on, in walk order, each as often as it is there
pub data InOrder (p : List ℕ) : ℕ → Layer → List Key → Type 0 where
  ends : {o : ℕ} {l : Layer} {ks : List Key} → ((m : ℕ) (k : Layer) → Step p o l m k → ⊥)
      → ks ≡ layer_keys p o l
      → InOrder p o l ks
  goes : {o m : ℕ} {l k : Layer} {more ks : List Key} → Step p o l m k → InOrder p m k more
      → ks ≡ layer_keys p o l ++ more
      → InOrder p o l ks
