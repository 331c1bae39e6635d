-- The walk as a plain program: the layer after each, and the list of its keys.
use Rattle.std.specs.Prelude.{ℕ, zero, suc, ◌+◌, ◌-◌, ◌*◌, ◌==◌, if◌then◌else◌, Option, Some, None, List, [], ◌++◌, length, drop}
use Rattle.st_walk.specs.declared.header.Layer.{Layer}
use Rattle.st_walk.specs.declared.header.Layer.TheVariants.{Ether, Next, Label, Ip4, Ip6, Chain, Last, Fragment, Ports}
use Rattle.st_walk.specs.declared.header.Spot.{Spot}
use Rattle.st_walk.specs.declared.numbers.TheConstants.{IP4, IP6, KIND_SIZE, ETHER_SIZE, ETHER_KIND_AT, TAG_SIZE, TAG_KIND_AT, LABEL_SIZE, IP4_VERSION, IP4_PROTO_AT, IP6_SIZE, IP6_VERSION, IP6_NEXT_AT}
use Rattle.st_walk.specs.declared.text.Key.{Key}
use Rattle.st_walk.specs.declared.iter.Keys.{Keys}
use Rattle.st_walk.specs.Layers.{byte, field, holds, is_tag, is_labelled, is_bottom, is_version, ip4_size, is_ip4, is_ip6, is_first, has_ports, extension_size, is_extension, is_later, layer_keys}

-- this layer at this offset
abbrev pub spot_at : ℕ → Layer → Option Spot
spot_at o l = Some (record { at = o; layer = l })

-- the layer that this one leads to
abbrev pub following : List ℕ → ℕ → Layer → Option Spot
following p o Ether =
    if holds p o ETHER_SIZE
    then spot_at (o + ETHER_SIZE) (Next (field KIND_SIZE (o + ETHER_KIND_AT) p)) else None
following p o (Next n) =
    if is_tag n then (if holds p o TAG_SIZE
    then spot_at (o + TAG_SIZE) (Next (field KIND_SIZE (o + TAG_KIND_AT) p)) else None)
    else (if is_labelled n then spot_at o Label
    else (if n == IP4 then spot_at o Ip4
    else (if n == IP6 then spot_at o Ip6 else None)))
following p o Label =
    if holds p o LABEL_SIZE then
    (if is_bottom p o then
    (if is_version p (o + LABEL_SIZE) IP4_VERSION then spot_at (o + LABEL_SIZE) Ip4
    else (if is_version p (o + LABEL_SIZE) IP6_VERSION then spot_at (o + LABEL_SIZE) Ip6 else None))
    else spot_at (o + LABEL_SIZE) Label)
    else None
following p o Ip4 =
    if is_ip4 p o then
    (if is_first p o then
    (if has_ports (byte p (o + IP4_PROTO_AT)) then spot_at (o + ip4_size p o) Ports else None)
    else None)
    else None
following p o Ip6 =
    if is_ip6 p o then spot_at (o + IP6_SIZE) (Chain (byte p (o + IP6_NEXT_AT))) else None
following p o (Chain n) =
    if is_extension p o n then
    (if is_later p o n then spot_at (o + extension_size p o n) (Fragment (byte p o))
    else spot_at (o + extension_size p o n) (Chain (byte p o)))
    else spot_at o (Last n)
following p o (Last n) = if has_ports n then spot_at o Ports else None
following p o (Fragment n) = None
following p o Ports = None

-- how many layers may follow one before the walk has to pass a byte
abbrev pub free_steps : Layer → ℕ
free_steps Ether = 3
free_steps (Next n) = 3
free_steps Label = 2
free_steps Ip4 = 2
free_steps Ip6 = 2
free_steps (Chain n) = 2
free_steps (Last n) = 1
free_steps (Fragment n) = 0
free_steps Ports = 0

-- no more layers than this follow
abbrev pub steps_left : List ℕ → ℕ → Layer → ℕ
steps_left p o l = 4 * (length p - o) + free_steps l

-- the keys of this many layers from a spot on
unfoldable pub keys_within : ℕ → List ℕ → Option Spot → List Key
keys_within zero p q = []
keys_within (suc n) p None = []
keys_within (suc n) p (Some q) =
    layer_keys p q.at q.layer ++ keys_within n p (following p q.at q.layer)

-- the keys of the whole walk from a spot on
unfoldable pub walk_keys : List ℕ → Option Spot → List Key
walk_keys p None = []
walk_keys p (Some q) = keys_within (suc (steps_left p q.at q.layer)) p (Some q)

-- the keys of a frame, in walk order
abbrev pub frame_keys : List ℕ → List Key
frame_keys p = walk_keys p (spot_at 0 Ether)

-- the keys that an iterator has still to give: the rest of its layer's, and those of what follows
unfoldable pub keys_left : Keys → List Key
keys_left s =
    drop s.given (layer_keys s.frame.now s.spot.at s.spot.layer)
    ++ walk_keys s.frame.now (following s.frame.now s.spot.at s.spot.layer)
