-- A frame has at least four bytes for each of its keys.
use Rattle.std.proofs.Common.{◌≡◌, ℕ, zero, suc, ◌+◌, ◌-◌, ◌*◌, ◌/◌, ◌%◌, ◌≤◌, Bool, true, false, ◌&&◌, ◌==◌, if◌then◌else◌, Option, Some, None, List, [], ◌∷◌, length, length-append, refl, arith}
use Rattle.std.proofs.lemmas.Bool.Decides.{nat_tests}
use Rattle.st_walk.specs.declared.header.Layer.{Layer}
use Rattle.st_walk.specs.declared.header.Layer.TheVariants.{Ether, Next, Label, Ip4, Ip6, Chain, Last, Fragment, Ports}
use Rattle.st_walk.specs.declared.header.Spot.{Spot}
use Rattle.st_walk.specs.declared.text.Key.{Key}
use Rattle.st_walk.specs.declared.text.Key.TheVariants.{Proto, Vlan, Mpls}
use Rattle.st_walk.specs.Layers.{byte, field, holds, is_tag, is_labelled, is_bottom, is_version, ip4_size, is_ip4, is_ip6, is_first, has_ports, extension_size, is_extension, is_later, layer_keys}
use Rattle.st_walk.specs.Listing.{spot_at, following, keys_within, walk_keys, frame_keys}

room : (p : List ℕ) (o n : ℕ) → holds p o n ≡ true → o + n ≤ length p
unfolding holds
room p o n h = grind (arith, nat_tests)

ip4_room : (p : List ℕ) (o : ℕ) → is_ip4 p o ≡ true → (o + 20 ≤ length p) × (20 ≤ ip4_size p o)
unfolding is_ip4 holds
ip4_room p o h = (grind (arith, nat_tests), grind (arith, nat_tests))

ip6_room : (p : List ℕ) (o : ℕ) → is_ip6 p o ≡ true → o + 40 ≤ length p
unfolding is_ip6 holds
ip6_room p o h = grind (arith, nat_tests)

-- How many bytes a layer may lack for its keys and those of what follows, since headers before it
-- have more than theirs: an address header has 20 bytes or more for three keys at most.
owed : Layer → ℕ
owed Ether = 0
owed (Next n) = 0
owed Label = 0
owed Ip4 = 0
owed Ip6 = 0
owed (Chain n) = 8
owed (Last n) = 8
owed (Fragment n) = 8
owed Ports = 4

-- the bytes for the keys from a spot on
bytes_left : List ℕ → Option Spot → ℕ
bytes_left p None = 0
bytes_left p (Some q) = (length p - q.at) + owed q.layer

-- what a layer takes for its keys, and leaves for what follows
abbrev Pays : List ℕ → ℕ → Layer → List Key → Option Spot → Type 0
Pays p o l ks q = 4 * length ks + bytes_left p q ≤ (length p - o) + owed l

ether : (p : List ℕ) (o n : ℕ) (h : Bool) → Pays p o Ether [] (if h then spot_at (o + 14) (Next n) else None)
unfolding bytes_left owed
ether p o n true = omega arith
ether p o n false = omega arith

next : (p : List ℕ) (o m n : ℕ) (x : Key) (t h l f s : Bool) → (h ≡ true → o + 4 ≤ length p)
    → Pays p o (Next m) (if t && h then x ∷ [] else [])
    (if t then (if h then spot_at (o + 4) (Next n) else None)
    else (if l then spot_at o Label else (if f then spot_at o Ip4 else (if s then spot_at o Ip6 else None))))
unfolding bytes_left owed
next p o m n x true true l f s r = omega (arith, r refl)
next p o m n x true false l f s r = omega arith
next p o m n x false h true f s r = omega arith
next p o m n x false h false true s r = omega arith
next p o m n x false h false false true r = omega arith
next p o m n x false h false false false r = omega arith

label : (p : List ℕ) (o : ℕ) (x : Key) (h b f s : Bool) → (h ≡ true → o + 4 ≤ length p)
    → Pays p o Label (if h then x ∷ [] else [])
    (if h then (if b then (if f then spot_at (o + 4) Ip4 else (if s then spot_at (o + 4) Ip6 else None)) else spot_at (o + 4) Label) else None)
unfolding bytes_left owed
label p o x true true true s r = omega (arith, r refl)
label p o x true true false true r = omega (arith, r refl)
label p o x true true false false r = omega (arith, r refl)
label p o x true false f s r = omega (arith, r refl)
label p o x false b f s r = omega arith

ip4 : (p : List ℕ) (o n : ℕ) (x y z : Key) (i f q : Bool) → (i ≡ true → (o + 20 ≤ length p) × (20 ≤ n))
    → Pays p o Ip4 (if i then x ∷ (y ∷ (z ∷ [])) else []) (if i then (if f then (if q then spot_at (o + n) Ports else None) else None) else None)
unfolding bytes_left owed
ip4 p o n x y z true true true r = let (a, b) = r refl in omega (arith, a, b)
ip4 p o n x y z true true false r = let (a, b) = r refl in omega (arith, a, b)
ip4 p o n x y z true false q r = let (a, b) = r refl in omega (arith, a, b)
ip4 p o n x y z false f q r = omega arith

ip6 : (p : List ℕ) (o n : ℕ) (x y : Key) (i : Bool) → (i ≡ true → o + 40 ≤ length p)
    → Pays p o Ip6 (if i then x ∷ (y ∷ []) else []) (if i then spot_at (o + 40) (Chain n) else None)
unfolding bytes_left owed
ip6 p o n x y true r = omega (arith, r refl)
ip6 p o n x y false r = omega arith

chain : (p : List ℕ) (o m n k : ℕ) (e l : Bool)
    → Pays p o (Chain m) [] (if e then (if l then spot_at (o + n) (Fragment k) else spot_at (o + n) (Chain k)) else spot_at o (Last m))
unfolding bytes_left owed
chain p o m n k true true = omega arith
chain p o m n k true false = omega arith
chain p o m n k false l = omega arith

last : (p : List ℕ) (o n : ℕ) (x : Key) (q : Bool) → Pays p o (Last n) (x ∷ []) (if q then spot_at o Ports else None)
unfolding bytes_left owed
last p o n x true = omega arith
last p o n x false = omega arith

fragment : (p : List ℕ) (o n : ℕ) (x : Key) → Pays p o (Fragment n) (x ∷ []) None
unfolding bytes_left owed
fragment p o n x = omega arith

ports : (p : List ℕ) (o : ℕ) (x y : Key) (h : Bool) → (h ≡ true → o + 4 ≤ length p) → Pays p o Ports (if h then x ∷ (y ∷ []) else []) None
unfolding bytes_left owed
ports p o x y true r = omega (arith, r refl)
ports p o x y false r = omega arith

pays : (p : List ℕ) (o : ℕ) (l : Layer) → Pays p o l (layer_keys p o l) (following p o l)
pays p o Ether = ether p o _ (holds p o 14)
pays p o (Next n) = next p o n (field 2 (o + 2) p) (Vlan (field 2 o p % 4096)) (is_tag n) (holds p o 4) (is_labelled n) (n == 2048) (n == 34525) (room p o 4)
pays p o Label = label p o (Mpls (field 4 o p / 4096)) (holds p o 4) (is_bottom p o) (is_version p (o + 4) 4) (is_version p (o + 4) 6) (room p o 4)
pays p o Ip4 = ip4 p o (ip4_size p o) _ _ _ (is_ip4 p o) (is_first p o) _ (ip4_room p o)
pays p o Ip6 = ip6 p o (byte p (o + 6)) _ _ (is_ip6 p o) (ip6_room p o)
pays p o (Chain n) = chain p o n (extension_size p o n) (byte p o) (is_extension p o n) (is_later p o n)
pays p o (Last n) = last p o n (Proto n) (has_ports n)
pays p o (Fragment n) = fragment p o n (Proto n)
pays p o Ports = ports p o _ _ (holds p o 4) (room p o 4)

within : (n : ℕ) (p : List ℕ) (q : Option Spot) → 4 * length (keys_within n p q) ≤ bytes_left p q
unfolding keys_within bytes_left
within zero p q = omega arith
within (suc n) p None = omega arith
within (suc n) p (Some q) =
    let here = pays p q.at q.layer in
    let rest = within n p (following p q.at q.layer) in
    let both = length-append (layer_keys p q.at q.layer) (keys_within n p (following p q.at q.layer)) in
    omega (arith, here, rest, both)

four : (p : List ℕ) (n : ℕ) → 4 * n ≤ bytes_left p (spot_at 0 Ether) → 4 * n ≤ length p
unfolding bytes_left owed
four p n h = omega (arith, h)

pub four_bytes_a_key : (frame : List ℕ) → 4 * length (frame_keys frame) ≤ length frame
unfolding walk_keys
four_bytes_a_key frame = four frame _ (within _ frame (spot_at 0 Ether))
