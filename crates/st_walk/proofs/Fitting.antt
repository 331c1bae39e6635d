-- Each key of a frame fits the type of its kind.
use Rattle.std.proofs.Common.{ℕ, zero, suc, ◌+◌, ◌*◌, ◌/◌, ◌%◌, ◌^◌, ◌<◌, ◌≤◌, Bool, true, false, List, [], ◌∷◌, drop, slice_index, ◌&&◌, if◌then◌else◌, arith, lit<}
use Rattle.std.specs.Prelude.{All}
use Rattle.std.proofs.Math.Nat.{mul-le-mul_right, pow-suc}
use Rattle.std.proofs.lemmas.List.Elements.{All-nil, All-cons, All-tail, All-drop, All-contains}
use Rattle.byteorder.specs.Endian.{big_from}
use Rattle.st_walk.specs.declared.header.Layer.{Layer}
use Rattle.st_walk.specs.declared.header.Layer.TheVariants.{Ether, Next, Label, Ip4, Ip6, Chain, Last, Fragment, Ports}
use Rattle.st_walk.specs.declared.text.Key.{Key}
use Rattle.st_walk.specs.declared.text.Key.TheVariants.{Proto, Port, Vlan, V4, Mpls, V6}
use Rattle.st_walk.specs.KeyText.{Fits}
use Rattle.st_walk.specs.Layers.{field, holds, is_tag, is_ip4, is_ip6, layer_keys}
use Rattle.st_walk.specs.Walk.{Step, ether, tag, labelled, ip4, ip6, label, label_ip4, label_ip6, ip4_ports, ip6_chain, extension, fragment, last, last_ports, Reaches, here, on, FrameHas}

-- only bytes
abbrev Bytes : List ℕ → Type 0
Bytes p = All (λ b. b < 256) p

byte_fits : (p : List ℕ) (o : ℕ) → Bytes p → slice_index p o < 256
byte_fits [] o bytes = lit< tt
byte_fits (x ∷ xs) zero bytes = bytes 0 0 (omega arith)
byte_fits (x ∷ xs) (suc o) bytes = byte_fits xs o (All-tail (λ b. b < 256) x xs bytes)

number_fits : (i n : ℕ) (p : List ℕ) → Bytes p → big_from i n p < 256 ^ n
number_fits i zero p bytes = lit< tt
number_fits i (suc n) p bytes =
    let first = byte_fits p i bytes in
    let most : slice_index p i * 256 ^ n ≤ 255 * 256 ^ n = mul-le-mul_right (256 ^ n) (omega arith) in
    let rest = number_fits (suc i) n p bytes in
    rw (pow-suc 256 n) (omega (arith, most, rest))

field_fits : (n o : ℕ) (p : List ℕ) → Bytes p → field n o p < 256 ^ n
unfolding field
field_fits n o p bytes = number_fits 0 n (drop o p) (All-drop (λ b. b < 256) o p bytes)

-- the numbers that a layer is reached with fit their bytes
abbrev LayerFits : Layer → Type 0
LayerFits Ether = Unit {0}
LayerFits (Next n) = Unit {0}
LayerFits Label = Unit {0}
LayerFits Ip4 = Unit {0}
LayerFits Ip6 = Unit {0}
LayerFits (Chain n) = n < 256
LayerFits (Last n) = n < 256
LayerFits (Fragment n) = n < 256
LayerFits Ports = Unit {0}

step_fits : (p : List ℕ) (o m : ℕ) (l k : Layer) → Bytes p → LayerFits l → Step p o l m k → LayerFits k
step_fits p o m l k bytes fits (ether h) = tt
step_fits p o m l k bytes fits (tag t h) = tt
step_fits p o m l k bytes fits (labelled t) = tt
step_fits p o m l k bytes fits (ip4 e) = tt
step_fits p o m l k bytes fits (ip6 e) = tt
step_fits p o m l k bytes fits (label h b) = tt
step_fits p o m l k bytes fits (label_ip4 h b v) = tt
step_fits p o m l k bytes fits (label_ip6 h b v) = tt
step_fits p o m l k bytes fits (ip4_ports h f t) = tt
step_fits p o m l k bytes fits (ip6_chain h) = byte_fits p _ bytes
step_fits p o m l k bytes fits (extension x y) = byte_fits p _ bytes
step_fits p o m l k bytes fits (fragment x y) = byte_fits p _ bytes
step_fits p o m l k bytes fits (last x) = fits
step_fits p o m l k bytes fits (last_ports t) = tt

reach_fits : (p : List ℕ) (o e : ℕ) (l f : Layer) → Bytes p → LayerFits l → Reaches p o l e f → LayerFits f
reach_fits p o e l f bytes fits here = fits
reach_fits p o e l f bytes fits (on {m = m} {k = k} step more) = reach_fits p m e k f bytes (step_fits p o m l k bytes fits step) more

either : (b : Bool) (ks : List Key) → All Fits ks → All Fits (if b then ks else [])
either true ks fit = fit
either false ks fit = All-nil Fits

one : (k : Key) → Fits k → All Fits (k ∷ [])
one k fit = All-cons Fits k [] fit (All-nil Fits)

two : (k j : Key) → Fits k → Fits j → All Fits (k ∷ j ∷ [])
two k j fit next = All-cons Fits k (j ∷ []) fit (one j next)

keys_fit : (p : List ℕ) (o : ℕ) (l : Layer) → Bytes p → LayerFits l → All Fits (layer_keys p o l)
keys_fit p o Ether bytes fits = All-nil Fits
keys_fit p o (Next n) bytes fits = either (is_tag n && holds p o 4) _ (one (Vlan (field 2 o p % 4096)) (omega arith))
keys_fit p o Label bytes fits = let all = field_fits 4 o p bytes in either (holds p o 4) _ (one (Mpls (field 4 o p / 4096)) (omega arith))
keys_fit p o Ip4 bytes fits =
    let source = V4 (field 4 (o + 12) p) in
    let destination = V4 (field 4 (o + 16) p) in
    either (is_ip4 p o) (Proto (slice_index p (o + 9)) ∷ source ∷ destination ∷ [])
    (All-cons Fits (Proto (slice_index p (o + 9))) (source ∷ destination ∷ []) (byte_fits p (o + 9) bytes)
    (two source destination (field_fits 4 (o + 12) p bytes) (field_fits 4 (o + 16) p bytes)))
keys_fit p o Ip6 bytes fits =
    either (is_ip6 p o) (V6 (field 16 (o + 8) p) ∷ V6 (field 16 (o + 24) p) ∷ [])
    (two (V6 (field 16 (o + 8) p)) (V6 (field 16 (o + 24) p)) (field_fits 16 (o + 8) p bytes) (field_fits 16 (o + 24) p bytes))
keys_fit p o (Chain n) bytes fits = All-nil Fits
keys_fit p o (Last n) bytes fits = one (Proto n) fits
keys_fit p o (Fragment n) bytes fits = one (Proto n) fits
keys_fit p o Ports bytes fits =
    either (holds p o 4) (Port (field 2 o p) ∷ Port (field 2 (o + 2) p) ∷ [])
    (two (Port (field 2 o p)) (Port (field 2 (o + 2) p)) (field_fits 2 o p bytes) (field_fits 2 (o + 2) p bytes))

-- each key that a frame has fits
pub frame_fits : (p : List ℕ) (k : Key) → All (λ b. b < 256) p → FrameHas p k → Fits k
frame_fits p k bytes h = All-contains Fits (layer_keys p h.end h.layer) k (keys_fit p h.end h.layer bytes (reach_fits p 0 h.end Ether h.layer bytes tt h.reached)) h.carried
