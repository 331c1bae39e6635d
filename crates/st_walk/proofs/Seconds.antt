-- No frame has the second of its packet.
use Rattle.std.proofs.Common.{◌≡◌, ℕ, zero, suc, ◌<◌, Bool, true, false, List, [], ◌∷◌, length, slice_index_or, ◌&&◌, if◌then◌else◌, arith}
use Rattle.st_walk.specs.declared.header.Layer.{Layer}
use Rattle.st_walk.specs.declared.header.Layer.TheVariants.{Ether, Next, Label, Ip4, Ip6, Chain, Last, Fragment, Ports}
use Rattle.st_walk.specs.declared.text.Key.{Key}
use Rattle.st_walk.specs.declared.text.Key.TheVariants.{Second}
use Rattle.st_walk.specs.Layers.{holds, is_tag, is_ip4, is_ip6, layer_keys}
use Rattle.st_walk.specs.Walk.{HasFrom}

-- none of these keys is the second
abbrev LacksSecond : List Key → ℕ → Type 0
LacksSecond [] s = Unit {0}
LacksSecond (k ∷ ks) s = (k ≡ Second s → ⊥) × LacksSecond ks s

absent : (ks : List Key) (s i : ℕ) → LacksSecond ks s → i < length ks → slice_index_or ks i (Second s) ≡ Second s → ⊥
absent [] s i n h e = omega arith
absent (k ∷ ks) s zero n h e = n.0 e
absent (k ∷ ks) s (suc i) n h e = absent ks s i n.1 (omega arith) e

either : (b : Bool) (ks : List Key) (s : ℕ) → LacksSecond ks s → LacksSecond (if b then ks else []) s
either true ks s n = n
either false ks s n = tt

lacks : (p : List ℕ) (o : ℕ) (l : Layer) (s : ℕ) → LacksSecond (layer_keys p o l) s
lacks p o Ether s = tt
lacks p o (Next n) s = either (is_tag n && holds p o 4) _ s (λ e. cc, tt)
lacks p o Label s = either (holds p o 4) _ s (λ e. cc, tt)
lacks p o Ip4 s = either (is_ip4 p o) _ s (λ e. cc, (λ e. cc, (λ e. cc, tt)))
lacks p o Ip6 s = either (is_ip6 p o) _ s (λ e. cc, (λ e. cc, tt))
lacks p o (Chain n) s = tt
lacks p o (Last n) s = (λ e. cc, tt)
lacks p o (Fragment n) s = (λ e. cc, tt)
lacks p o Ports s = either (holds p o 4) _ s (λ e. cc, (λ e. cc, tt))

pub never : (p : List ℕ) (o : ℕ) (l : Layer) (s : ℕ) → HasFrom p o l (Second s) → ⊥
never p o l s h = absent (layer_keys p h.end h.layer) s h.carried.0 (lacks p h.end h.layer s) h.carried.1 h.carried.2
