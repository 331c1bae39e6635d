-- Which bytes the words have: what holds of digits and of the marks holds of each byte.
use Rattle.std.proofs.Common.{ℕ, ◌+◌, ◌/◌, ◌%◌, ◌^◌, ◌<◌, ◌≤◌, Bool, true, false, List, [], ◌∷◌, ◌++◌, All, sym, subst, arith, codes, inl, inr, decimal, ℤ}
use Rattle.std.specs.Char.{digit_value}
use Rattle.std.specs.Str.Parse.{AllDigits}
use Rattle.std.specs.Net.Grammar.{IsDotted, IsGroupsAfter, IsColonHex}
use Rattle.std.proofs.lemmas.List.Elements.{All-nil, All-cons, All-append}
use Rattle.std.proofs.lemmas.Fmt.{decimal_is_IsNumeral}
use Rattle.st_query.specs.declared.addrs.Addr.{Addr}
use Rattle.st_query.specs.declared.addrs.Addr.TheVariants.{V4, V6}
use Rattle.st_query.specs.Words.{IsNumber, IsAddress, IsNet}
use Rattle.st_query.specs.Times.{two, four, date_text, minute_text, clock_text, IsOffset, IsInstant, IsSpan}
use Rattle.st_query.proofs.Instants.{year_small}
use Rattle.std.proofs.lemmas.Bool.Decides.{nat_tests}

-- P holds of each hexadecimal digit
abbrev pub OfDigits : (ℕ → Type 0) → Type 0
OfDigits P = (c : ℕ) → digit_value c < 16 → P c

pub numeral_all : (P : ℕ → Type 0) → OfDigits P → (radix : ℕ) → radix ≤ 16 → (ds : List ℕ) → AllDigits radix ds → All P ds
numeral_all P digit radix most [] h = All-nil P
numeral_all P digit radix most (c ∷ cs) h = All-cons P c cs (digit c (omega (arith, h.0))) (numeral_all P digit radix most cs h.1)

pub decimal_all : (P : ℕ → Type 0) → OfDigits P → (n : ℕ) → n < 2 ^ 64 → All P (decimal n)
decimal_all P digit n fits = numeral_all P digit 10 (omega arith) (decimal n) (decimal_is_IsNumeral n fits).0.1

one : (P : ℕ → Type 0) (b : ℕ) → P b → All P (b ∷ [])
one P b h = All-cons P b [] h (All-nil P)

dotted_all : (P : ℕ → Type 0) → OfDigits P → P 46 → (text octets : List ℕ) → IsDotted text octets → All P text
dotted_all P digit dot text octets d =
    let a = decimal_all P digit d.a (omega (arith, d.fit)) in
    let b = decimal_all P digit d.b (omega (arith, d.fit)) in
    let c = decimal_all P digit d.c (omega (arith, d.fit)) in
    let e = decimal_all P digit d.d (omega (arith, d.fit)) in
    let point = one P 46 dot in
    subst (All P) (sym d.spelled)
    (All-append P _ _ (All-append P _ _ (All-append P _ _ (All-append P _ _ (All-append P _ _ (All-append P _ _ a point) b) point) c) point) e)

groups_all : (P : ℕ → Type 0) → OfDigits P → P 46 → P 58 → (ipv4 : Bool) (lead text segments : List ℕ) → All P lead → IsGroupsAfter ipv4 lead text segments → All P text
groups_all P digit dot colon ipv4 lead text [] front h = subst (All P) (sym h) (All-nil P)
groups_all P digit dot colon ipv4 lead text (s ∷ segments) front (inl (group, rest, is, g, more)) =
    let later = groups_all P digit dot colon ipv4 (codes ":") rest segments (one P 58 colon) more in
    subst (All P) (sym is) (All-append P _ _ (All-append P _ _ front (numeral_all P digit 16 (omega arith) group g.0.0.1)) later)
groups_all P digit dot colon ipv4 lead text (s ∷ segments) front (inr (last, octets, may, is, dotted, same)) =
    subst (All P) (sym is) (All-append P _ _ front (dotted_all P digit dot last octets dotted))

colons_all : (P : ℕ → Type 0) → OfDigits P → P 46 → P 58 → (text segments : List ℕ) → IsColonHex text segments → All P text
colons_all P digit dot colon text segments (inl h) = groups_all P digit dot colon true [] text segments (All-nil P) h.0
colons_all P digit dot colon text segments (inr h) =
    let front = groups_all P digit dot colon false [] h.head_text h.head (All-nil P) h.head_groups in
    let back = groups_all P digit dot colon true [] h.tail_text h.tail (All-nil P) h.tail_groups in
    subst (All P) (sym h.spelled) (All-append P _ _ (All-append P _ _ front (All-cons P 58 (58 ∷ []) colon (one P 58 colon))) back)

pub number_all : (P : ℕ → Type 0) → OfDigits P → (most : ℕ) (word : List ℕ) (n : ℕ) → IsNumber most word n → All P word
number_all P digit most word n h = numeral_all P digit 10 (omega arith) word h.0.1

pub address_all : (P : ℕ → Type 0) → OfDigits P → P 46 → P 58 → (word : List ℕ) (a : Addr) → IsAddress word a → All P word
address_all P digit dot colon word (V4 bits) h = dotted_all P digit dot word _ h.1
address_all P digit dot colon word (V6 bits) h = colons_all P digit dot colon word _ h.1

pub net_all : (P : ℕ → Type 0) → OfDigits P → P 46 → P 58 → P 47 → (word : List ℕ) (a : Addr) (n : ℕ) → IsNet word a n → All P word
net_all P digit dot colon slash word a n (address, digits, is, h, k, fits) =
    subst (All P) (sym is)
    (All-append P _ _ (All-append P _ _ (address_all P digit dot colon address a h) (one P 47 slash)) (number_all P digit 3 digits n k))

pub span_all : (P : ℕ → Type 0) → OfDigits P → P 104 → P 109 → (word : List ℕ) (n : ℕ) (hours : Bool) → IsSpan word n hours → All P word
span_all P digit hour minute word n true (digits, is, h, fits) = subst (All P) (sym is) (All-append P _ _ (number_all P digit 10 digits n h) (one P 104 hour))
span_all P digit hour minute word n false (digits, is, h, fits) = subst (All P) (sym is) (All-append P _ _ (number_all P digit 10 digits n h) (one P 109 minute))

digit_small : (k : ℕ) → k < 10 → digit_value (48 + k) < 16
digit_small k small = grind (arith, nat_tests)

two_all : (P : ℕ → Type 0) → OfDigits P → (n : ℕ) → n < 100 → All P (two n)
two_all P digit n small =
    All-cons P (48 + n / 10) ((48 + n % 10) ∷ []) (digit (48 + n / 10) (digit_small (n / 10) (omega arith)))
    (one P (48 + n % 10) (digit (48 + n % 10) (digit_small (n % 10) (omega arith))))

two_more : (P : ℕ → Type 0) → OfDigits P → (front : List ℕ) (n : ℕ) → All P front → n < 100 → All P (front ++ two n)
two_more P digit front n h small = All-append P front (two n) h (two_all P digit n small)

mark_more : (P : ℕ → Type 0) (front : List ℕ) (b : ℕ) → All P front → P b → All P (front ++ b ∷ [])
mark_more P front b h mark = All-append P front (b ∷ []) h (one P b mark)

minute_all : (P : ℕ → Type 0) → OfDigits P → P 58 → (hour minute : ℕ) → hour < 24 → minute < 60 → All P (minute_text hour minute)
minute_all P digit colon hour minute h m =
    two_more P digit (two hour ++ codes ":") minute (mark_more P (two hour) 58 (two_all P digit hour (omega arith)) colon) (omega arith)

offset_all : (P : ℕ → Type 0) → OfDigits P → P 58 → P 90 → P 43 → P 45 → (text : List ℕ) (seconds : ℤ) → IsOffset text seconds → All P text
offset_all P digit colon zulu plus minus text seconds (inl h) = subst (All P) (sym h.0) (one P 90 zulu)
offset_all P digit colon zulu plus minus text seconds (inr (hour, minute, h, m, inl k)) =
    subst (All P) (sym k.0) (All-append P (43 ∷ []) (minute_text hour minute) (one P 43 plus) (minute_all P digit colon hour minute h m))
offset_all P digit colon zulu plus minus text seconds (inr (hour, minute, h, m, inr k)) =
    subst (All P) (sym k.0) (All-append P (45 ∷ []) (minute_text hour minute) (one P 45 minus) (minute_all P digit colon hour minute h m))

pub instant_all : (P : ℕ → Type 0) → OfDigits P → P 58 → P 84 → P 90 → P 43 → P 45 → (word : List ℕ) (t : ℤ) → IsInstant word t → All P word
instant_all P digit colon tee zulu plus minus word t h =
    let small = year_small h.year h.month h.day h.date in
    let year = two_more P digit (two (h.year / 100)) (h.year % 100) (two_all P digit (h.year / 100) (omega arith)) (omega arith) in
    let month = two_more P digit (four h.year ++ codes "-") h.month (mark_more P (four h.year) 45 year minus) small.1 in
    let date = two_more P digit (four h.year ++ codes "-" ++ two h.month ++ codes "-") h.day (mark_more P (four h.year ++ codes "-" ++ two h.month) 45 month minus) small.2 in
    let minute = minute_all P digit colon h.hour h.minute h.clock.0 h.clock.1 in
    let clock = two_more P digit (minute_text h.hour h.minute ++ codes ":") h.second (mark_more P (minute_text h.hour h.minute) 58 minute colon) (omega (arith, h.clock)) in
    let stamp = All-append P (date_text h.year h.month h.day ++ codes "T") (clock_text h.hour h.minute h.second) (mark_more P (date_text h.year h.month h.day) 84 date tee) clock in
    subst (All P) (sym h.spelled)
    (All-append P (date_text h.year h.month h.day ++ codes "T" ++ clock_text h.hour h.minute h.second) h.zone stamp (offset_all P digit colon zulu plus minus h.zone h.offset h.is_offset))
