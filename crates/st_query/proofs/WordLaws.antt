-- A word is one thing at most: one value, and one of number, address, net, instant and span.
use Rattle.std.proofs.Common.{◌≡◌, ◌≢◌, ℕ, ◌+◌, ◌-◌, ◌*◌, ◌/◌, ◌^◌, ◌<◌, ◌≤◌, ◌⊎◌, Bool, true, false, List, [], ◌∷◌, ◌++◌, All, Contains, length, replicate, refl, sym, ap, ◌∙◌, subst, arith, codes, append_assoc, inl, inr, decimal, ℤ, get_or, length-append, lit≤}
use Rattle.std.specs.Char.{digit_value}
use Rattle.std.specs.Net.Grammar.{IsDotted, IsGroupsAfter, IsGroups, IsColonHex, IsGroup}
use Rattle.std.specs.Net.Addr.{segments_of, octets_of, ipv4_bits, ipv6_bits, ipv4_octets, ipv6_segments}
use Rattle.std.specs.Int.{w32, w128, from_be_bytes}
use Rattle.std.proofs.lemmas.Bool.{cases_lt}
use Rattle.std.proofs.lemmas.Nat.{div-add-mod', shl-shr}
use Rattle.std.proofs.Math.Pow.{pow-lt}
use Rattle.std.proofs.lemmas.Int.Digits.{digits_value-lt}
use Rattle.std.proofs.lemmas.List.{same_from_push, length-replicate}
use Rattle.std.proofs.lemmas.List.Elements.{All-nil, All-cons, All-append, All-contains, All-replicate, All-get_or, Contains-append_left, Contains-append_right}
use Rattle.std.proofs.NetLemmas.Arrays.{eight_items}
use Rattle.std.proofs.Math.Nat.{pow-le-pow_right}
use Rattle.st_query.specs.declared.addrs.Addr.{Addr}
use Rattle.st_query.specs.declared.addrs.Addr.TheVariants.{V4, V6}
use Rattle.st_query.specs.Words.{IsNumber, IsAddress, IsNet, IsMask, IsOnes, FitsAddr, network, cleared, width}
use Rattle.st_query.specs.Times.{IsInstant, IsSpan, IsInYears}
use Rattle.st_query.proofs.Addresses as addresses
use Rattle.st_query.proofs.Addresses.{digits_lack, last_same, has_at}
use Rattle.st_query.proofs.Instants as instants
use Rattle.st_query.proofs.Instants.{stamp}
use Rattle.st_query.proofs.Bits128.{bits_small}
use Rattle.st_query.proofs.WordBytes.{OfDigits, number_all, address_all, net_all, span_all}

-- one value at most

pub number_unique : (most : ℕ) (word : List ℕ) (m n : ℕ) → IsNumber most word m → IsNumber most word n → m ≡ n
number_unique most word m n h k = sym h.2 ∙ k.2

pub address_unique : (word : List ℕ) (a b : Addr) → IsAddress word a → IsAddress word b → a ≡ b
address_unique = addresses.address_unique

pub net_unique : (word : List ℕ) (a b : Addr) (m n : ℕ) → IsNet word a m → IsNet word b n → (a ≡ b) × (m ≡ n)
net_unique word a b m n (address, digits, is, h, k, fits) (address', digits', is', h', k', fits') =
    let same : address ++ 47 ∷ digits ≡ address' ++ 47 ∷ digits' = sym (append_assoc address (47 ∷ []) digits) ∙ sym is ∙ is' ∙ append_assoc address' (47 ∷ []) digits' in
    let (front, back) = last_same 47 address address' digits digits' same (digits_lack digits 47 (inr (omega arith)) k.0.1) (digits_lack digits' 47 (inr (omega arith)) k'.0.1) in
    (address_unique address a b h (subst (λ t. IsAddress t b) (sym front) h'), number_unique 3 digits m n k (subst (λ t. IsNumber 3 t n) (sym back) k'))

pub instant_unique : (word : List ℕ) (s t : ℤ) → IsInstant word s → IsInstant word t → s ≡ t
instant_unique = instants.instant_unique

pub span_unique : (word : List ℕ) (m n : ℕ) (h k : Bool) → IsSpan word m h → IsSpan word n k → (m ≡ n) × (h ≡ k)
span_unique word m n true true (digits, is, a, fits) (digits', is', b, fits') =
    let (same, unit) = same_from_push digits digits' 104 104 (sym is ∙ is') in
    (number_unique 10 digits m n a (subst (λ t. IsNumber 10 t n) (sym same) b), refl)
span_unique word m n true false (digits, is, a, fits) (digits', is', b, fits') =
    let (same, unit) = same_from_push digits digits' 104 109 (sym is ∙ is') in absurd (omega arith)
span_unique word m n false true (digits, is, a, fits) (digits', is', b, fits') =
    let (same, unit) = same_from_push digits digits' 109 104 (sym is ∙ is') in absurd (omega arith)
span_unique word m n false false (digits, is, a, fits) (digits', is', b, fits') =
    let (same, unit) = same_from_push digits digits' 109 109 (sym is ∙ is') in
    (number_unique 10 digits m n a (subst (λ t. IsNumber 10 t n) (sym same) b), refl)

-- the numbers fit

pub span_fits : (word : List ℕ) (n : ℕ) (hours : Bool) → IsSpan word n hours → n < 2 ^ 32
span_fits word n hours h = h.3

pub instant_in_years : (word : List ℕ) (t : ℤ) → IsInstant word t → IsInYears t
instant_in_years word t h = h.in_years

ones_unique : (width m n bits : ℕ) → IsOnes width m bits → IsOnes width n bits → m ≡ n
ones_unique width m n bits h k =
    elim (cases_lt m n) [
      | inl less ↦ let bound : 2 ^ (width - n) < 2 ^ (width - m) = pow-lt (omega arith) in absurd (omega arith)
      | inr other ↦
          elim (cases_lt n m) [
            | inl less ↦ let bound : 2 ^ (width - m) < 2 ^ (width - n) = pow-lt (omega arith) in absurd (omega arith)
            | inr same ↦ omega arith
          ]
    ]

pub mask_unique : (a : Addr) (m n : ℕ) → IsMask a m → IsMask a n → m ≡ n
mask_unique (V4 bits) m n h k = ones_unique 32 m n bits h k
mask_unique (V6 bits) m n h k = ones_unique 128 m n bits h k

dotted_fits : (text octets : List ℕ) → IsDotted text octets → from_be_bytes w32 octets < 2 ^ 32
dotted_fits text octets d = rw d.value (omega (arith, d.fit))

-- each group has 16 bits
abbrev Small : List ℕ → Type 0
Small segments = All (λ s. s < 2 ^ 16) segments

group_small : (text : List ℕ) (s : ℕ) → IsGroup text s → s < 2 ^ 16
group_small text s g =
    let value = digits_value-lt 16 text g.0.0.1 in
    let bound : 16 ^ length text ≤ 16 ^ 4 = pow-le-pow_right (omega arith) g.1 in
    omega (arith, g.0.1)

groups_small : (ipv4 : Bool) (lead text segments : List ℕ) → IsGroupsAfter ipv4 lead text segments → Small segments
groups_small ipv4 lead text [] h = All-nil (λ s. s < 2 ^ 16)
groups_small ipv4 lead text (s ∷ segments) (inl (group, rest, is, g, more)) =
    All-cons (λ s. s < 2 ^ 16) s segments (group_small group s g) (groups_small ipv4 (codes ":") rest segments more)
groups_small ipv4 lead text (s ∷ segments) (inr (last, octets, may, is, d, same)) =
    let octets_are : s ∷ segments ≡ (d.a * 256 + d.b) ∷ ((d.c * 256 + d.d) ∷ []) = same ∙ ap segments_of d.value in
    subst Small (sym octets_are)
    (All-cons (λ s. s < 2 ^ 16) (d.a * 256 + d.b) ((d.c * 256 + d.d) ∷ []) (omega (arith, d.fit)) (All-cons (λ s. s < 2 ^ 16) (d.c * 256 + d.d) [] (omega (arith, d.fit)) (All-nil (λ s. s < 2 ^ 16))))

colons_small : (text segments : List ℕ) → IsColonHex text segments → (length segments ≡ 8) × Small segments
colons_small text segments (inl h) = (h.1, groups_small true [] text segments h.0)
colons_small text segments (inr h) =
    let front = groups_small false [] h.head_text h.head h.head_groups in
    let back = groups_small true [] h.tail_text h.tail h.tail_groups in
    let zeros = All-replicate (λ s. s < 2 ^ 16) (8 - length h.head - length h.tail) 0 (omega arith) in
    let all = All-append (λ s. s < 2 ^ 16) _ _ (All-append (λ s. s < 2 ^ 16) _ _ front zeros) back in
    let size : length (h.head ++ replicate (8 - length h.head - length h.tail) 0 ++ h.tail) ≡ 8 = simp (length-append, length-replicate) (omega (arith, h.room)) in
    (ap length h.value ∙ size, subst Small (sym h.value) all)

colons_fit : (text segments : List ℕ) → IsColonHex text segments → from_be_bytes w128 (octets_of segments) < 2 ^ 128
colons_fit text segments h =
    let (eight, small) = colons_small text segments h in
    let at = λ (i : ℕ) (below : i < 8). All-get_or (λ s. s < 2 ^ 16) segments i 0 (omega arith) small in
    subst (λ xs. from_be_bytes w128 (octets_of xs) < 2 ^ 128) (sym (eight_items segments eight))
    (bits_small (get_or segments 0 0) (get_or segments 1 0) (get_or segments 2 0) (get_or segments 3 0) (get_or segments 4 0) (get_or segments 5 0) (get_or segments 6 0) (get_or segments 7 0)
    (at 0 (omega arith)) (at 1 (omega arith)) (at 2 (omega arith)) (at 3 (omega arith)) (at 4 (omega arith)) (at 5 (omega arith)) (at 6 (omega arith)) (at 7 (omega arith)))

pub address_fits : (word : List ℕ) (a : Addr) → IsAddress word a → FitsAddr a
unfolding ipv4_bits ipv6_bits
address_fits word (V4 bits) h = rw h.2 (dotted_fits word (ipv4_octets h.0) h.1)
address_fits word (V6 bits) h = rw h.3 (colons_fit word (ipv6_segments h.0) h.1)

-- nets

cleared_le : (width n bits : ℕ) → cleared width n bits ≤ bits
cleared_le width n bits = omega (arith, div-add-mod' bits (2 ^ (width - n)))

pub network_fits : (a : Addr) (n : ℕ) → FitsAddr a → FitsAddr (network a n)
network_fits (V4 bits) n h = omega (arith, cleared_le 32 n bits)
network_fits (V6 bits) n h = omega (arith, cleared_le 128 n bits)

cleared_twice : (width n bits : ℕ) → cleared width n (cleared width n bits) ≡ cleared width n bits
cleared_twice width n bits = ap (λ q. q * 2 ^ (width - n)) (shl-shr (bits / 2 ^ (width - n)) (width - n))

pub network_twice : (a : Addr) (n : ℕ) → network (network a n) n ≡ network a n
network_twice (V4 bits) n = ap V4 (cleared_twice 32 n bits)
network_twice (V6 bits) n = ap V6 (cleared_twice 128 n bits)

pub width_network : (a : Addr) (n : ℕ) → width (network a n) ≡ width a
width_network (V4 bits) n = refl
width_network (V6 bits) n = refl

-- no word is two of them

-- no byte is this one
abbrev IsNot : ℕ → ℕ → Type 0
IsNot b = λ c. c ≢ b

other_digit : (b : ℕ) → 16 ≤ digit_value b → OfDigits (IsNot b)
other_digit b high c low same = let at : digit_value c ≡ digit_value b = ap digit_value same in omega arith

apart : (word : List ℕ) (b : ℕ) → All (IsNot b) word → Contains word b → ⊥
apart word b lacks has = All-contains (IsNot b) word b lacks has refl

pub dotted_has : (text octets : List ℕ) → IsDotted text octets → Contains text 46
dotted_has text octets d =
    let point = Contains-append_right (decimal d.a) (46 ∷ []) 46 (0, omega arith, refl) in
    subst (λ t. Contains t 46) (sym d.spelled)
    (Contains-append_left _ (decimal d.d) 46 (Contains-append_left _ (codes ".") 46 (Contains-append_left _ (decimal d.c) 46
    (Contains-append_left _ (codes ".") 46 (Contains-append_left _ (decimal d.b) 46 point)))))

-- the groups behind the first begin with a colon
lead_has : (ipv4 : Bool) (b : ℕ) (text : List ℕ) (s : ℕ) (segments : List ℕ) → IsGroupsAfter ipv4 (b ∷ []) text (s ∷ segments) → Contains text b
lead_has ipv4 b text s segments (inl (group, rest, is, g, more)) = subst (λ t. Contains t b) (sym is) (0, omega arith, refl)
lead_has ipv4 b text s segments (inr (last, octets, may, is, d, same)) = subst (λ t. Contains t b) (sym is) (0, omega arith, refl)

two_groups_have : (text : List ℕ) (s r : ℕ) (segments : List ℕ) → IsGroups true text (s ∷ (r ∷ segments)) → 2 < length (s ∷ (r ∷ segments)) → Contains text 58
two_groups_have text s r segments (inl (group, rest, is, g, more)) long =
    subst (λ t. Contains t 58) (sym is) (Contains-append_right _ rest 58 (lead_has true 58 rest r segments more))
two_groups_have text s r segments (inr (last, octets, may, is, d, same)) long =
    let short : length (s ∷ (r ∷ segments)) ≡ 2 = ap length (same ∙ ap segments_of d.value) in absurd (omega arith)

groups_have : (text segments : List ℕ) → IsGroups true text segments → length segments ≡ 8 → Contains text 58
groups_have text [] h eight = absurd (omega arith)
groups_have text (s ∷ []) h eight = absurd (omega arith)
groups_have text (s ∷ (r ∷ segments)) h eight = two_groups_have text s r segments h (omega arith)

pub colons_have : (text segments : List ℕ) → IsColonHex text segments → Contains text 58
colons_have text segments (inl h) = groups_have text segments h.0 h.1
colons_have text segments (inr h) =
    subst (λ t. Contains t 58) (sym h.spelled) (Contains-append_left _ h.tail_text 58 (Contains-append_right h.head_text (58 ∷ (58 ∷ [])) 58 (0, omega arith, refl)))

pub net_has : (word : List ℕ) (a : Addr) (n : ℕ) → IsNet word a n → Contains word 47
net_has word a n h = subst (λ t. Contains t 47) (sym (h.2 ∙ append_assoc h.0 (47 ∷ []) h.1)) (has_at h.0 h.1 47)

pub instant_has : (word : List ℕ) (t : ℤ) → IsInstant word t → Contains word 84
instant_has word t h = subst (λ w. Contains w 84) (sym h.spelled) (10, omega arith, refl)

span_has : (word : List ℕ) (n : ℕ) (hours : Bool) → IsSpan word n hours → Contains word 104 ⊎ Contains word 109
span_has word n true h = inl (subst (λ t. Contains t 104) (sym h.1) (has_at h.0 [] 104))
span_has word n false h = inr (subst (λ t. Contains t 109) (sym h.1) (has_at h.0 [] 109))

net_lacks : (b : ℕ) → 16 ≤ digit_value b → 46 ≢ b → 58 ≢ b → 47 ≢ b → (word : List ℕ) (a : Addr) (n : ℕ) → IsNet word a n → All (IsNot b) word
net_lacks b high dot colon slash word a n h = net_all (IsNot b) (other_digit b high) dot colon slash word a n h

address_lacks : (b : ℕ) → 16 ≤ digit_value b → 46 ≢ b → 58 ≢ b → (word : List ℕ) (a : Addr) → IsAddress word a → All (IsNot b) word
address_lacks b high dot colon word a h = address_all (IsNot b) (other_digit b high) dot colon word a h

number_lacks : (b : ℕ) → 16 ≤ digit_value b → (most : ℕ) (word : List ℕ) (n : ℕ) → IsNumber most word n → All (IsNot b) word
number_lacks b high most word n h = number_all (IsNot b) (other_digit b high) most word n h

span_lacks : (b : ℕ) → 16 ≤ digit_value b → 104 ≢ b → 109 ≢ b → (word : List ℕ) (n : ℕ) (hours : Bool) → IsSpan word n hours → All (IsNot b) word
span_lacks b high h m word n hours s = span_all (IsNot b) (other_digit b high) h m word n hours s

pub number_not_address : (most : ℕ) (word : List ℕ) (n : ℕ) (a : Addr) → IsNumber most word n → IsAddress word a → ⊥
number_not_address most word n (V4 bits) h k = apart word 46 (number_lacks 46 (lit≤ tt) most word n h) (dotted_has word _ k.1)
number_not_address most word n (V6 bits) h k = apart word 58 (number_lacks 58 (lit≤ tt) most word n h) (colons_have word _ k.1)

pub number_not_net : (most : ℕ) (word : List ℕ) (n : ℕ) (a : Addr) (m : ℕ) → IsNumber most word n → IsNet word a m → ⊥
number_not_net most word n a m h k = apart word 47 (number_lacks 47 (lit≤ tt) most word n h) (net_has word a m k)

pub number_not_instant : (most : ℕ) (word : List ℕ) (n : ℕ) (t : ℤ) → IsNumber most word n → IsInstant word t → ⊥
number_not_instant most word n t h k = apart word 84 (number_lacks 84 (lit≤ tt) most word n h) (instant_has word t k)

pub number_not_span : (most : ℕ) (word : List ℕ) (n m : ℕ) (hours : Bool) → IsNumber most word n → IsSpan word m hours → ⊥
number_not_span most word n m hours h k =
    elim (span_has word m hours k) [
      | inl has ↦ apart word 104 (number_lacks 104 (lit≤ tt) most word n h) has
      | inr has ↦ apart word 109 (number_lacks 109 (lit≤ tt) most word n h) has
    ]

pub address_not_net : (word : List ℕ) (a b : Addr) (m : ℕ) → IsAddress word a → IsNet word b m → ⊥
address_not_net word a b m h k = apart word 47 (address_lacks 47 (lit≤ tt) (omega arith) (omega arith) word a h) (net_has word b m k)

pub address_not_instant : (word : List ℕ) (a : Addr) (t : ℤ) → IsAddress word a → IsInstant word t → ⊥
address_not_instant word a t h k = apart word 84 (address_lacks 84 (lit≤ tt) (omega arith) (omega arith) word a h) (instant_has word t k)

pub address_not_span : (word : List ℕ) (a : Addr) (m : ℕ) (hours : Bool) → IsAddress word a → IsSpan word m hours → ⊥
address_not_span word a m hours h k =
    elim (span_has word m hours k) [
      | inl has ↦ apart word 104 (address_lacks 104 (lit≤ tt) (omega arith) (omega arith) word a h) has
      | inr has ↦ apart word 109 (address_lacks 109 (lit≤ tt) (omega arith) (omega arith) word a h) has
    ]

pub net_not_instant : (word : List ℕ) (a : Addr) (n : ℕ) (t : ℤ) → IsNet word a n → IsInstant word t → ⊥
net_not_instant word a n t h k = apart word 84 (net_lacks 84 (lit≤ tt) (omega arith) (omega arith) (omega arith) word a n h) (instant_has word t k)

pub net_not_span : (word : List ℕ) (a : Addr) (n m : ℕ) (hours : Bool) → IsNet word a n → IsSpan word m hours → ⊥
net_not_span word a n m hours h k =
    elim (span_has word m hours k) [
      | inl has ↦ apart word 104 (net_lacks 104 (lit≤ tt) (omega arith) (omega arith) (omega arith) word a n h) has
      | inr has ↦ apart word 109 (net_lacks 109 (lit≤ tt) (omega arith) (omega arith) (omega arith) word a n h) has
    ]

pub instant_not_span : (word : List ℕ) (t : ℤ) (m : ℕ) (hours : Bool) → IsInstant word t → IsSpan word m hours → ⊥
instant_not_span word t m hours h k = apart word 84 (span_lacks 84 (lit≤ tt) (omega arith) (omega arith) word m hours k) (instant_has word t h)
