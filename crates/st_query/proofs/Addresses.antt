-- Addresses and nets as words.
use Rattle.std.proofs.Common.{◌≡◌, ◌≢◌, ℕ, ◌+◌, ◌≤◌, ◌<◌, ◌⊎◌, Bool, List, [], ◌∷◌, ◌++◌, ◌==◌, Contains, All, take, drop, refl, sym, ◌∙◌, ap, subst, arith, append_assoc, get_or, inl, inr}
use Rattle.std.specs.List.{IsAnyAnswer}
use Rattle.std.specs.Bool.{Decides}
use Rattle.std.specs.Str.Parse.{AllDigits}
use Rattle.std.specs.declared.net.ipv4_addr.Ipv4Addr.{Ipv4Addr}
use Rattle.std.specs.declared.net.ipv6_addr.Ipv6Addr.{Ipv6Addr}
use Rattle.std.specs.Net.Grammar.{IsIpv4Text, IsIpv6Text}
use Rattle.std.proofs.lemmas.List.{get_or_default}
use Rattle.std.proofs.NetLemmas.Theorems.{IsIpv4Text_unique, IsIpv6Text_unique}
use Rattle.std.proofs.NetLemmas.Ipv6.{IsDotted-not_colon_hex}
use Rattle.std.specs.Net.Addr.{ipv4_bits, ipv6_bits}
use Rattle.std.proofs.lemmas.List.Elements.{contains_decides, Decides-contains, All-contains, Contains-append_right}
use Rattle.std.proofs.lemmas.Bool.Decides.{Decides-eqb}
use Rattle.std.proofs.lemmas.Str.Parse.{digit_at}
use Rattle.st_query.specs.declared.addrs.Addr.{Addr}
use Rattle.st_query.specs.declared.addrs.Addr.TheVariants.{V4, V6}
use Rattle.st_query.specs.Words.{IsNumber, IsAddress, IsNet, EndsAtSlash, width}

pub contains : (xs : List ℕ) (x : ℕ) (r : Bool) → IsAnyAnswer (λ y t. (y == x) ≡ t) xs r → Decides r (Contains xs x)
contains xs x r h = Decides-contains xs x r (contains_decides ◌==◌ Decides-eqb xs x r h)

-- no IPv4 address, and a dot in it
pub none_with_dot : (word : List ℕ) → ((ip : Ipv4Addr) → IsIpv4Text word ip → ⊥) → Contains word 46 → (a : Addr) → IsAddress word a → ⊥
none_with_dot word dotless dot (V4 bits) h = dotless h.0 h.1
none_with_dot word dotless dot (V6 bits) h = h.2 dot

pub none_of_both : (word : List ℕ) → ((ip : Ipv4Addr) → IsIpv4Text word ip → ⊥) → ((ip : Ipv6Addr) → IsIpv6Text word ip → ⊥) → (a : Addr) → IsAddress word a → ⊥
none_of_both word dotless colonless (V4 bits) h = dotless h.0 h.1
none_of_both word dotless colonless (V6 bits) h = colonless h.0 h.1

-- each byte of a numeral is a digit
pub digits_lack : (ds : List ℕ) (b : ℕ) → (57 < b) ⊎ (b < 48) → AllDigits 10 ds → All (λ c. c ≢ b) ds
digits_lack ds b other h = λ k d below same.
    let digit = digit_at ds k h below in
    let here : get_or ds k 0 ≡ b = get_or_default ds k 0 d below ∙ same in
    absurd (elim other [ inl over ↦ omega arith | inr under ↦ omega arith ])

pub has_at : (xs ys : List ℕ) (b : ℕ) → Contains (xs ++ b ∷ ys) b
has_at xs ys b = Contains-append_right xs (b ∷ ys) b (0, omega arith, refl)

pub lacks : (xs ys : List ℕ) (b : ℕ) → All (λ c. c ≢ b) (xs ++ b ∷ ys) → ⊥
lacks xs ys b h = All-contains (λ c. c ≢ b) (xs ++ b ∷ ys) b h (has_at xs ys b) refl

-- a text has one last place of a byte
pub last_same : (b : ℕ) (xs us ys vs : List ℕ) → xs ++ b ∷ ys ≡ us ++ b ∷ vs → All (λ c. c ≢ b) ys → All (λ c. c ≢ b) vs → (xs ≡ us) × (ys ≡ vs)
last_same b [] [] ys vs same h k = (refl, cc)
last_same b [] (u ∷ us) ys vs same h k = let rest : ys ≡ us ++ b ∷ vs = cc in absurd (lacks us vs b (subst (All (λ c. c ≢ b)) rest h))
last_same b (x ∷ xs) [] ys vs same h k = let rest : xs ++ b ∷ ys ≡ vs = cc in absurd (lacks xs ys b (subst (All (λ c. c ≢ b)) (sym rest) k))
last_same b (x ∷ xs) (u ∷ us) ys vs same h k =
    let rest : xs ++ b ∷ ys ≡ us ++ b ∷ vs = cc in
    let first : x ≡ u = cc in
    let (front, back) = last_same b xs us ys vs rest h k in
    (cc, back)

-- the parts of a net are those at its last slash
pub net_parts : (word : List ℕ) (i : ℕ) → EndsAtSlash word i → (a : Addr) (n : ℕ) → IsNet word a n → IsAddress (take i word) a × IsNumber 3 (drop (i + 1) word) n × (n ≤ width a)
net_parts word i cut a n (address, digits, spelled, is_address, is_number, fits) =
    let same : take i word ++ 47 ∷ drop (i + 1) word ≡ address ++ 47 ∷ digits = sym (append_assoc (take i word) (47 ∷ []) (drop (i + 1) word)) ∙ sym cut.1 ∙ spelled ∙ append_assoc address (47 ∷ []) digits in
    let (front, back) = last_same 47 (take i word) address (drop (i + 1) word) digits same cut.2 (digits_lack digits 47 (inr (omega arith)) is_number.0.1) in
    (subst (λ t. IsAddress t a) (sym front) is_address, subst (λ t. IsNumber 3 t n) (sym back) is_number, fits)

pub none_without_slash : (word : List ℕ) → All (λ b. b ≢ 47) word → (a : Addr) (n : ℕ) → IsNet word a n → ⊥
none_without_slash word h a n (address, digits, spelled, is_address, is_number, fits) =
    lacks address digits 47 (subst (All (λ b. b ≢ 47)) (spelled ∙ append_assoc address (47 ∷ []) digits) h)

-- a word is one address at most
pub address_unique : (word : List ℕ) (a b : Addr) → IsAddress word a → IsAddress word b → a ≡ b
address_unique word (V4 m) (V4 n) h k = ap V4 (h.2 ∙ ap ipv4_bits (IsIpv4Text_unique word h.0 k.0 h.1 k.1) ∙ sym k.2)
address_unique word (V4 m) (V6 n) h k = absurd (IsDotted-not_colon_hex word _ _ h.1 k.1)
address_unique word (V6 m) (V4 n) h k = absurd (IsDotted-not_colon_hex word _ _ k.1 h.1)
address_unique word (V6 m) (V6 n) h k = ap V6 (h.3 ∙ ap ipv6_bits (IsIpv6Text_unique word h.0 k.0 h.1 k.1) ∙ sym k.3)

-- more bits than the address has
pub none_too_long : (word : List ℕ) (i : ℕ) (a : Addr) (n : ℕ) → EndsAtSlash word i → IsAddress (take i word) a → IsNumber 3 (drop (i + 1) word) n → width a < n
    → (b : Addr) (m : ℕ) → IsNet word b m → ⊥
none_too_long word i a n cut is_address is_number over b m h =
    let (other, digits, fits) = net_parts word i cut b m h in
    let same : a ≡ b = address_unique (take i word) a b is_address other in
    let count : n ≡ m = sym is_number.2 ∙ digits.2 in
    let bound : n ≤ width a = subst (λ c. n ≤ width c) (sym same) (subst (λ k. k ≤ width b) (sym count) fits) in
    omega arith
