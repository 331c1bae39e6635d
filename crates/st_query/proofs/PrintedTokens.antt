-- The tokens of printed words, and of texts that are put together from them.
use Rattle.std.proofs.Common.{◌≡◌, ℕ, suc, ℤ, ◌+◌, ◌-◌, ◌≤◌, ◌<◌, ◌^◌, Bool, true, false, if◌then◌else◌, nat_le, nat_lt, nat_eq, Contains, List, [], ◌∷◌, ◌++◌, ◌⊎◌, zero, length, Option, Some, None, refl, ap, subst, arith, inl, inr, codes, decimal, IsTrue, All, append_assoc, length-append, lit<}
use Rattle.std.proofs.lemmas.Bool.Decides.{nat_tests}
use Rattle.std.proofs.lemmas.List.Elements.{All-from_recursion, All-nil, All-cons}
use Rattle.st_query.specs.declared.addrs.Addr.{Addr}
use Rattle.st_query.specs.declared.addrs.Addr.TheVariants.{V4, V6}
use Rattle.st_query.specs.declared.tokens.Token.TheVariants as token
use Rattle.st_query.specs.declared.tokens.Token.{Token}
use Rattle.st_query.specs.declared.tokens.Keyword.TheVariants as key
use Rattle.st_query.specs.Words.{IsAddress, IsOnes, FitsAddr, width}
use Rattle.st_query.specs.Times.{IsInYears, IsSpan}
use Rattle.st_query.specs.PrintedWords.{address_text, instant_text}
use Rattle.st_query.specs.Tokens.{is_space, is_word_byte, EndsRun, HasMask, IsWord}
use Rattle.st_query.specs.Spelling.{Starts}
use Rattle.st_query.specs.Trees.{inside}
use Rattle.st_query.specs.Grammar.{Prim}
use Rattle.st_query.proofs.WordLaws.{dotted_has, colons_have, net_has}
use Rattle.st_query.proofs.WordBytes.{OfDigits, decimal_all, span_all}
use Rattle.st_query.proofs.WordTextLaws.{number_spells, span_spells, address_spells, net_spells, instant_spells, address_text_all, net_text_all, instant_text_all}
use Rattle.st_query.proofs.NotKeywords.{number_is_none, address_is_none, net_is_none, instant_is_none, span_is_none, value_word}

-- before whatever ends a word, the text is these tokens
unfoldable pub Firm : List ℕ → List Token → Type 0
Firm text ts = (following : List ℕ) → EndsRun is_word_byte following → Starts (text ++ following) ts following

-- the text ends the word that precedes it
unfoldable pub Apart : List ℕ → Type 0
Apart text = (following : List ℕ) → EndsRun is_word_byte following → EndsRun is_word_byte (text ++ following)

pub starts_append : (ts us : List Token) (text rest end : List ℕ) → Starts text ts rest → Starts rest us end → Starts text (ts ++ us) end
starts_append [] us text rest end h k = rw h k
starts_append (t ∷ ts) us text rest end (gap, piece, more, split, blank, is_piece, starts) k =
    (gap, piece, more, split, blank, is_piece, starts_append ts us more rest end starts k)

pub firm_append : (a c : List ℕ) (ts us : List Token) → Firm a ts → Firm c us → Apart c → Firm (a ++ c) (ts ++ us)
unfolding Firm Apart
firm_append a c ts us f g apart following ends =
    rw (append_assoc a c following) (starts_append ts us (a ++ (c ++ following)) (c ++ following) following (f (c ++ following) (apart following ends)) (g following ends))

-- a word of the text, with its token
pub record TextWord (w : List ℕ) (t : Token) : Type 0 where
  pub some : 0 < length w
  pub bytes : All (λ b. IsTrue (is_word_byte b)) w
  pub word : IsWord w t

pub firm_word : (w : List ℕ) (t : Token) → TextWord w t → Firm w (t ∷ [])
unfolding Firm
firm_word w t h following ends =
    ([], w, following, refl, All-nil (λ b. IsTrue (is_space b)), inr (inr (inr (inr (inl (h.word, h.some, h.bytes, ends))))), refl)

-- a space before the text
pub firm_space : (a : List ℕ) (t : Token) (ts : List Token) → Firm a (t ∷ ts) → Firm (codes " " ++ a) (t ∷ ts)
unfolding Firm
firm_space a t ts f following ends =
    let (gap, piece, more, split, blank, is_piece, starts) = f following ends in
    (32 ∷ gap, piece, more, ap (λ (xs : List ℕ). 32 ∷ xs) split, All-cons (λ b. IsTrue (is_space b)) 32 gap refl blank, is_piece, starts)

pub apart_space : (a : List ℕ) → Apart (codes " " ++ a)
unfolding Apart
apart_space a following ends = refl

pub firm_open : (a : List ℕ) (ts : List Token) → Firm a ts → Firm (codes "(" ++ (a ++ codes ")")) (token.Open ∷ (ts ++ token.Close ∷ []))
unfolding Firm Apart
firm_open a ts f following ends = (
  [],
  codes "(",
  (a ++ codes ")") ++ following,
  refl,
  All-nil (λ b. IsTrue (is_space b)),
  inl (refl, refl),
  firm_append a (codes ")") ts (token.Close ∷ []) f (λ b e. ([], codes ")", b, refl, All-nil (λ c. IsTrue (is_space c)), inr (inl (refl, refl)), refl)) (λ b e. refl) following ends,
)

-- the words of the grammar

pub word_host : TextWord (codes "host") (token.Key key.Host)
word_host = record { some = lit< tt; bytes = All-from_recursion (λ b. IsTrue (is_word_byte b)) (codes "host") (refl, (refl, (refl, (refl, tt)))); word = refl }

pub word_net : TextWord (codes "net") (token.Key key.Net)
word_net = record { some = lit< tt; bytes = All-from_recursion (λ b. IsTrue (is_word_byte b)) (codes "net") (refl, (refl, (refl, tt))); word = refl }

pub word_port : TextWord (codes "port") (token.Key key.Port)
word_port = record { some = lit< tt; bytes = All-from_recursion (λ b. IsTrue (is_word_byte b)) (codes "port") (refl, (refl, (refl, (refl, tt)))); word = refl }

pub word_ip : TextWord (codes "ip") (token.Key key.Ip)
word_ip = record { some = lit< tt; bytes = All-from_recursion (λ b. IsTrue (is_word_byte b)) (codes "ip") (refl, (refl, tt)); word = refl }

pub word_proto : TextWord (codes "proto") (token.Key key.Proto)
word_proto = record { some = lit< tt; bytes = All-from_recursion (λ b. IsTrue (is_word_byte b)) (codes "proto") (refl, (refl, (refl, (refl, (refl, tt))))); word = refl }

pub word_vlan : TextWord (codes "vlan") (token.Key key.Vlan)
word_vlan = record { some = lit< tt; bytes = All-from_recursion (λ b. IsTrue (is_word_byte b)) (codes "vlan") (refl, (refl, (refl, (refl, tt)))); word = refl }

pub word_mpls : TextWord (codes "mpls") (token.Key key.Mpls)
word_mpls = record { some = lit< tt; bytes = All-from_recursion (λ b. IsTrue (is_word_byte b)) (codes "mpls") (refl, (refl, (refl, (refl, tt)))); word = refl }

pub word_before : TextWord (codes "before") (token.Key key.Before)
word_before = record { some = lit< tt; bytes = All-from_recursion (λ b. IsTrue (is_word_byte b)) (codes "before") (refl, (refl, (refl, (refl, (refl, (refl, tt)))))); word = refl }

pub word_after : TextWord (codes "after") (token.Key key.After)
word_after = record { some = lit< tt; bytes = All-from_recursion (λ b. IsTrue (is_word_byte b)) (codes "after") (refl, (refl, (refl, (refl, (refl, tt))))); word = refl }

pub word_ago : TextWord (codes "ago") (token.Key key.Ago)
word_ago = record { some = lit< tt; bytes = All-from_recursion (λ b. IsTrue (is_word_byte b)) (codes "ago") (refl, (refl, (refl, tt))); word = refl }

pub word_and : TextWord (codes "and") token.And
word_and = record { some = lit< tt; bytes = All-from_recursion (λ b. IsTrue (is_word_byte b)) (codes "and") (refl, (refl, (refl, tt))); word = refl }

pub word_or : TextWord (codes "or") token.Or
word_or = record { some = lit< tt; bytes = All-from_recursion (λ b. IsTrue (is_word_byte b)) (codes "or") (refl, (refl, tt)); word = refl }

-- the words of values

pub word_digit : OfDigits (λ b. IsTrue (is_word_byte b))
word_digit c h = grind (arith, nat_tests)

pub word_number : (n : ℕ) → n < 2 ^ 32 → TextWord (decimal n) (token.Number n)
word_number n h =
    let spells = number_spells n (omega arith) in
    record {
      some = spells.0.0;
      bytes = decimal_all (λ b. IsTrue (is_word_byte b)) word_digit n (omega arith);
      word = value_word (decimal n) (token.Number n) (number_is_none 10 (decimal n) n spells) spells;
    }

pub decide : (w bits k : ℕ) → IsOnes w k bits ⊎ (IsOnes w k bits → ⊥)
decide w bits k =
    elim (nat_le k w) as (λ b. nat_le k w ≡ b → IsOnes w k bits ⊎ (IsOnes w k bits → ⊥)) [
      | true ↦ λ e. elim (nat_eq (bits + 2 ^ (w - k)) (2 ^ w)) as (λ b. nat_eq (bits + 2 ^ (w - k)) (2 ^ w) ≡ b → IsOnes w k bits ⊎ (IsOnes w k bits → ⊥)) [
        | true ↦ λ f. inl (grind (arith, nat_tests), grind (arith, nat_tests))
        | false ↦ λ f. inr (λ h. let same = h.1 in absurd (grind (arith, nat_tests)))
      ] refl
      | false ↦ λ e. inr (λ h. let most = h.0 in absurd (grind (arith, nat_tests)))
    ] refl

pub le_cases : (k n : ℕ) → k ≤ n → (n ≡ k) ⊎ (suc k ≤ n)
le_cases k n h =
    elim (nat_lt k n) as (λ b. nat_lt k n ≡ b → (n ≡ k) ⊎ (suc k ≤ n)) [
      | true ↦ λ e. let more : k < n = grind (arith, nat_tests) in inr (omega arith)
      | false ↦ λ e. let less : n ≤ k = grind (arith, nat_tests) in inl (omega arith)
    ] refl

pub other_mask : (w bits k n : ℕ) → (IsOnes w k bits → ⊥) → ((m : ℕ) → suc k ≤ m → IsOnes w m bits → ⊥) → k ≤ n → IsOnes w n bits → ⊥
other_mask w bits k n no_mask none most h =
    elim (le_cases k n most) [ inl e ↦ no_mask (subst (λ (m : ℕ). IsOnes w m bits) e h) | inr more ↦ none n more h ]

pub has_some : (w : List ℕ) (b : ℕ) → Contains w b → 0 < length w
has_some w b (i, inside, e) = omega arith

-- how many ones lead an address, or that it is no mask
pub search_mask : (w bits k : ℕ) → ((n : ℕ) → k ≤ n → IsOnes w n bits → ⊥) → ((n : ℕ) → IsOnes w n bits → ⊥) ⊎ ((n : ℕ) × IsOnes w n bits)
search_mask w bits zero none = inl (λ n h. none n (omega arith) h)
search_mask w bits (suc k) none =
    elim (decide w bits k) [
      | inl h ↦ inr (k, h)
      | inr no_mask ↦ search_mask w bits k (λ n most h. other_mask w bits k n no_mask none most h)
    ]

pub some_mask : (a : Addr) → (m : Option ℕ) × HasMask a m
some_mask (V4 bits) =
    elim (search_mask 32 bits 33 (λ n most h. absurd (omega arith))) [ inl no_mask ↦ (None, no_mask) | inr found ↦ (Some found.0, found.1) ]
some_mask (V6 bits) =
    elim (search_mask 128 bits 129 (λ n most h. absurd (omega arith))) [ inl no_mask ↦ (None, no_mask) | inr found ↦ (Some found.0, found.1) ]

pub address_some : (w : List ℕ) (a : Addr) → IsAddress w a → 0 < length w
address_some w (V4 bits) h = has_some w 46 (dotted_has w _ h.1)
address_some w (V6 bits) h = has_some w 58 (colons_have w _ h.1)

pub span_some : (w : List ℕ) (n : ℕ) (hours : Bool) → IsSpan w n hours → 0 < length w
span_some w n hours (digits, split, number, small) =
    omega (arith, ap length split, length-append digits (if hours then codes "h" else codes "m"), number.0.0)

pub word_address : (a : Addr) (m : Option ℕ) → FitsAddr a → HasMask a m → TextWord (address_text a) (token.Address a m)
word_address a m h mask =
    let spells = address_spells a h in
    record {
      some = address_some (address_text a) a spells;
      bytes = address_text_all (λ b. IsTrue (is_word_byte b)) word_digit refl refl a h;
      word = value_word (address_text a) (token.Address a m) (address_is_none (address_text a) a spells) (spells, mask);
    }

pub value_net : (a : Addr) (n : ℕ) → FitsAddr a → n ≤ width a → TextWord (address_text a ++ codes "/" ++ decimal n) (token.Net a n)
value_net a n h most =
    let text = address_text a ++ codes "/" ++ decimal n in
    let spells = net_spells a n h most in
    record {
      some = has_some text 47 (net_has text a n spells);
      bytes = net_text_all (λ b. IsTrue (is_word_byte b)) word_digit refl refl refl a n h most;
      word = value_word text (token.Net a n) (net_is_none text a n spells) spells;
    }

pub word_instant : (t : ℤ) → IsInYears t → TextWord (instant_text t) (token.Instant t)
word_instant t years =
    let spells = instant_spells t years in
    record {
      some = lit< tt;
      bytes = instant_text_all (λ b. IsTrue (is_word_byte b)) word_digit refl refl refl refl refl t years;
      word = value_word (instant_text t) (token.Instant t) (instant_is_none (instant_text t) t spells) spells;
    }

pub span_word : (n : ℕ) (hours : Bool) (text : List ℕ) → IsSpan text n hours → TextWord text (token.Span n hours)
span_word n hours text spells = record {
  some = span_some text n hours spells;
  bytes = span_all (λ b. IsTrue (is_word_byte b)) word_digit refl refl text n hours spells;
  word = value_word text (token.Span n hours) (span_is_none text n hours spells) spells;
}

pub word_span : (n : ℕ) (hours : Bool) → n < 2 ^ 32 → TextWord (decimal n ++ (if hours then codes "h" else codes "m")) (token.Span n hours)
word_span n true h = span_word n true _ (span_spells n h).1
word_span n false h = span_word n false _ (span_spells n h).0
