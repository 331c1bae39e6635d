-- A printed word is read as the value that was printed.
use Rattle.std.proofs.Common.{◌≡◌, ◌≢◌, ℕ, zero, suc, ◌+◌, ◌*◌, ◌/◌, ◌%◌, ◌^◌, ◌<◌, ◌≤◌, true, false, List, [], ◌∷◌, ◌++◌, All, length, refl, sym, ap, subst, arith, codes, inl, inr, decimal, ℤ, pos, ◌+ℤ◌, ◌-ℤ◌, ◌*ℤ◌, get_or, eq-eqb, ne_eqb}
use Rattle.std.specs.Char.{digit_value}
use Rattle.std.specs.Fmt.{digits, digits_onto, digit_glyph}
use Rattle.std.specs.Int.{w32, w128, to_be_bytes}
use Rattle.std.specs.Net.Addr.{segments_of, ipv4_bits, ipv6_bits, ipv4_octets, ipv6_segments}
use Rattle.std.specs.Net.Grammar.{IsDotted, IsGroup, IsGroupsAfter, IsGroups, IsColonHex}
use Rattle.std.specs.declared.net.ipv4_addr.Ipv4Addr.{Ipv4Addr}
use Rattle.std.specs.declared.net.ipv6_addr.Ipv6Addr.{Ipv6Addr}
use Rattle.std.specs.List.{AllByRecursion}
use Rattle.std.proofs.lemmas.Bool.{cases_eq}
use Rattle.std.proofs.lemmas.Fmt.{decimal_is_IsNumeral, length-decimal-le, digits_is_IsNumeral}
use Rattle.std.proofs.lemmas.Nat.{from_be_bytes-to_be_bytes_4}
use Rattle.std.proofs.Math.Nat.{pow-succ'}
use Rattle.std.proofs.NetLemmas.Texts.{IsDotted-ipv4_text}
use Rattle.st_query.specs.declared.addrs.Addr.{Addr}
use Rattle.st_query.specs.declared.addrs.Addr.TheVariants.{V4, V6}
use Rattle.st_query.specs.Words.{IsNumber, IsAddress, IsNet, FitsAddr, width}
use Rattle.st_query.specs.Times.{IsInstant, IsSpan, IsInYears}
use Rattle.st_query.specs.PrintedWords.{group_text, colon_groups, groups_text, address_text, year_of, month_of, day_of_month, calendar_second, instant_text}
use Rattle.st_query.proofs.Bits128.{groups_bits, groups_small}
use Rattle.st_query.proofs.WordBytes.{OfDigits, numeral_all, address_all, net_all, instant_all}
use Rattle.st_query.proofs.Calendar.{found}
use Rattle.std.proofs.lemmas.List.Elements.{All-nil, All-cons, All-append, All-contains}
use Rattle.std.specs.Net.Text.{ipv4_text}
use Rattle.std.proofs.lemmas.Int.{ints}
use Rattle.jiff_core.specs.Calendar.{days_from_civil}
use Rattle.jiff_core.proofs.CalendarLemmas.{days_from_civil-day_count}

pub number_spells : (n : ℕ) → n < 10 ^ 10 → IsNumber 10 (decimal n) n
number_spells n fits =
    let numeral = decimal_is_IsNumeral n (omega arith) in
    (numeral.0, length-decimal-le 10 n (omega arith) fits (omega arith), numeral.1)

bits_spell : (n : ℕ) → n ≤ 128 → IsNumber 3 (decimal n) n
bits_spell n fits =
    let numeral = decimal_is_IsNumeral n (omega arith) in
    (numeral.0, length-decimal-le 3 n (omega arith) (omega arith) (omega arith), numeral.1)

pub span_spells : (n : ℕ) → n < 2 ^ 32 → IsSpan (decimal n ++ codes "m") n false × IsSpan (decimal n ++ codes "h") n true
span_spells n fits =
    let number = number_spells n (omega arith) in
    ((decimal n, refl, number, fits), (decimal n, refl, number, fits))

-- a number of so many hexadecimal digits is printed in no more
length-digits_onto : (k j n : ℕ) (acc : List ℕ) → n < 16 ^ suc j → length (digits_onto k 16 false n acc) ≤ suc j + length acc
length-digits_onto zero j n acc small = omega arith
length-digits_onto (suc k) zero n acc small =
    let none : n / 16 ≡ 0 = omega arith in rw (eq-eqb (n / 16) 0 none) (omega arith)
length-digits_onto (suc k) (suc j) n acc small =
    let less : n / 16 < 16 ^ suc j = omega (arith, pow-succ' 16 (suc j)) in
    let later = length-digits_onto k j (n / 16) (digit_glyph false (n % 16) ∷ acc) less in
    elim (cases_eq (n / 16) 0) [
      | inl none ↦ rw (eq-eqb (n / 16) 0 none) (omega arith)
      | inr some ↦ rw (ne_eqb (n / 16) 0 some) (omega arith)
    ]

length-group_text : (n : ℕ) → n < 2 ^ 16 → length (group_text n) ≤ 4
unfolding digits
length-group_text n small = length-digits_onto 64 3 n [] (omega arith)

group_spells : (n : ℕ) → n < 2 ^ 16 → IsGroup (group_text n) n
group_spells n small =
    let numeral = digits_is_IsNumeral 16 false (omega arith) (omega arith) n (omega arith) in
    (numeral, length-group_text n small)

-- each group has 16 bits
abbrev Small : List ℕ → Type 0
Small groups = AllByRecursion (λ n. n < 2 ^ 16) groups

colon_groups_spell : (groups : List ℕ) → Small groups → IsGroupsAfter true (codes ":") (colon_groups groups) groups
colon_groups_spell [] h = refl
colon_groups_spell (n ∷ groups) h = inl (group_text n, colon_groups groups, refl, group_spells n h.0, colon_groups_spell groups h.1)

groups_spell : (groups : List ℕ) → Small groups → IsGroups true (groups_text groups) groups
groups_spell [] h = refl
groups_spell (n ∷ groups) h = inl (group_text n, colon_groups groups, refl, group_spells n h.0, colon_groups_spell groups h.1)

bytes_below : (v k : ℕ) → get_or (to_be_bytes w32 v) k 0 < 2 ^ 8
bytes_below v zero = omega arith
bytes_below v (suc zero) = omega arith
bytes_below v (suc (suc zero)) = omega arith
bytes_below v (suc (suc (suc zero))) = omega arith
bytes_below v (suc (suc (suc (suc k)))) = omega arith

v4_bits : (v : ℕ) → v < 2 ^ 32 → (ip : Ipv4Addr) × (ipv4_octets ip ≡ to_be_bytes w32 v) × (v ≡ ipv4_bits ip)
unfolding ipv4_bits
v4_bits v small = (record { octets = to_be_bytes w32 v }, refl, sym (from_be_bytes-to_be_bytes_4 v small))

v6_bits : (v : ℕ) → v < 2 ^ 128 → (ip : Ipv6Addr) × (ipv6_segments ip ≡ segments_of (to_be_bytes w128 v)) × (v ≡ ipv6_bits ip)
unfolding ipv6_bits
v6_bits v small = (record { segments = segments_of (to_be_bytes w128 v) }, refl, sym (groups_bits v small))

not_dot : (c : ℕ) → digit_value c < 16 → c ≢ 46
not_dot c small same = let at : digit_value c ≡ digit_value 46 = ap digit_value same in absurd (omega arith)

-- P holds of each byte of printed groups
group_all : (P : ℕ → Type 0) → OfDigits P → (n : ℕ) → n < 2 ^ 16 → All P (group_text n)
group_all P digit n small = numeral_all P digit 16 (omega arith) (group_text n) (group_spells n small).0.0.1

colon_groups_all : (P : ℕ → Type 0) → OfDigits P → P 58 → (groups : List ℕ) → Small groups → All P (colon_groups groups)
colon_groups_all P digit colon [] h = All-nil P
colon_groups_all P digit colon (n ∷ groups) h =
    All-cons P 58 _ colon (All-append P (group_text n) (colon_groups groups) (group_all P digit n h.0) (colon_groups_all P digit colon groups h.1))

groups_all : (P : ℕ → Type 0) → OfDigits P → P 58 → (groups : List ℕ) → Small groups → All P (groups_text groups)
groups_all P digit colon [] h = All-nil P
groups_all P digit colon (n ∷ groups) h = All-append P (group_text n) (colon_groups groups) (group_all P digit n h.0) (colon_groups_all P digit colon groups h.1)

pub address_spells : (a : Addr) → FitsAddr a → IsAddress (address_text a) a
address_spells (V4 v) small =
    let (ip, octets, bits) = v4_bits v small in
    let four : length (to_be_bytes w32 v) ≡ 4 = refl in
    (ip, subst (IsDotted (ipv4_text (to_be_bytes w32 v))) (sym octets) (IsDotted-ipv4_text (to_be_bytes w32 v) four (bytes_below v)), bits)
address_spells (V6 v) small =
    let (ip, segments, bits) = v6_bits v small in
    let text = groups_spell (segments_of (to_be_bytes w128 v)) (groups_small v) in
    let dotless = groups_all (λ c. c ≢ 46) not_dot (omega arith) (segments_of (to_be_bytes w128 v)) (groups_small v) in (
      ip,
      subst (IsColonHex (address_text (V6 v))) (sym segments) (inl (text, refl)),
      λ has. All-contains (λ c. c ≢ 46) (address_text (V6 v)) 46 dotless has refl,
      bits,
    )

width_most : (a : Addr) → width a ≤ 128
width_most (V4 v) = omega arith
width_most (V6 v) = omega arith

pub net_spells : (a : Addr) (n : ℕ) → FitsAddr a → n ≤ width a → IsNet (address_text a ++ codes "/" ++ decimal n) a n
net_spells a n small fits =
    let most = width_most a in
    (address_text a, decimal n, refl, address_spells a small, bits_spell n (omega arith), fits)

-- the second of an instant, counted as the calendar counts its days
second_is : (t : ℤ) → IsInYears t → (pos (calendar_second t) ≡ t +ℤ pos 377_736_739_200) × (315_569_520_000 ≤ calendar_second t) × (calendar_second t < 631_139_040_000)
second_is t years = (omega (arith, ints), omega (arith, ints), omega (arith, ints))

clock_is : (n : ℕ) → n % 86400 / 3600 * 3600 + n % 86400 / 60 % 60 * 60 + n % 86400 % 60 ≡ n % 86400
clock_is n = omega arith

instant_value : (t days : ℤ) (n clock : ℕ) → pos n ≡ t +ℤ pos 377_736_739_200 → days +ℤ pos 4_371_953 ≡ pos (n / 86400) → clock ≡ n % 86400
    → t ≡ ((days *ℤ pos 86400) +ℤ pos clock) -ℤ pos 0
instant_value t days n clock h e c = omega (arith, ints)

pub instant_spells : (t : ℤ) → IsInYears t → IsInstant (instant_text t) t
instant_spells t years =
    let (second, low, high) = second_is t years in
    let n = calendar_second t in
    let day = n / 86400 in
    let f = found day (omega arith) (omega arith) in
    let count = days_from_civil-day_count (pos (year_of day)) (month_of day) (day_of_month day) in
    let days : days_from_civil (pos (year_of day)) (month_of day) (day_of_month day) +ℤ pos 4_371_953 ≡ pos day = omega (arith, ints, f.count) in
    record {
      year = year_of day;
      month = month_of day;
      day = day_of_month day;
      hour = n % 86400 / 3600;
      minute = n % 86400 / 60 % 60;
      second = n % 86400 % 60;
      zone = codes "Z";
      offset = pos 0;
      spelled = refl;
      date = f.civil;
      clock = (omega arith, omega arith, omega arith);
      is_offset = inl (refl, refl);
      value = instant_value t (days_from_civil (pos (year_of day)) (month_of day) (day_of_month day)) n _ second days (clock_is n);
      in_years = years;
    }

-- P holds of each byte of what is printed

pub address_text_all : (P : ℕ → Type 0) → OfDigits P → P 46 → P 58 → (a : Addr) → FitsAddr a → All P (address_text a)
address_text_all P digit dot colon a fits = address_all P digit dot colon (address_text a) a (address_spells a fits)

pub net_text_all : (P : ℕ → Type 0) → OfDigits P → P 46 → P 58 → P 47 → (a : Addr) (n : ℕ) → FitsAddr a → n ≤ width a → All P (address_text a ++ codes "/" ++ decimal n)
net_text_all P digit dot colon slash a n fits most = net_all P digit dot colon slash _ a n (net_spells a n fits most)

pub instant_text_all : (P : ℕ → Type 0) → OfDigits P → P 58 → P 84 → P 90 → P 43 → P 45 → (t : ℤ) → IsInYears t → All P (instant_text t)
instant_text_all P digit colon tee zulu plus minus t years = instant_all P digit colon tee zulu plus minus (instant_text t) t (instant_spells t years)
