-- The tokens of a text: marks, words and stray bytes, with white space between them.
use Rattle.std.specs.Prelude.{◌≡◌, ℕ, ◌<◌, Bool, ◌||◌, ◌&&◌, ◌==◌, nat_le, IsTrue, IsFalse, List, [], ◌∷◌, ◌++◌, length, take, codes, Option, Some, None, MatchOption, if◌then◌else◌, ⊤, ℤ, All, ◌⊎◌}
use Rattle.std.specs.Str.{bytes_eq}
use Rattle.st_query.specs.declared.limits.TheConstants.{NUMBER_DIGITS}
use Rattle.st_query.specs.declared.addrs.Addr.{Addr}
use Rattle.st_query.specs.declared.tokens.Token.TheVariants as token
use Rattle.st_query.specs.declared.tokens.Token.{Token}
use Rattle.st_query.specs.declared.tokens.Keyword.TheVariants as key
use Rattle.st_query.specs.Words.{IsNumber, IsAddress, IsNet, IsMask}
use Rattle.st_query.specs.Times.{IsInstant, IsSpan}

-- space, tab, carriage return and line feed
abbrev pub is_space : ℕ → Bool
is_space b = b == 32 || b == 9 || b == 13 || b == 10

-- ASCII letters and digits, and `.`, `:`, `/`, `-` and `+`
abbrev pub is_word_byte : ℕ → Bool
is_word_byte b =
    (nat_le 97 b && nat_le b 122) || (nat_le 65 b && nat_le b 90) || (nat_le 48 b && nat_le b 57)
    || b == 46 || b == 58 || b == 47 || b == 45 || b == 43

-- white space alone, or nothing
abbrev pub IsBlank : List ℕ → Type 0
IsBlank text = All (λ b. IsTrue (is_space b)) text

-- the text's first byte, if it has one, is none that passes
abbrev pub EndsRun : (ℕ → Bool) → List ℕ → Type 0
EndsRun p [] = ⊤
EndsRun p (b ∷ bs) = IsFalse (p b)

-- the text begins with the piece
abbrev pub Begins : List ℕ → List ℕ → Type 0
Begins text piece = take (length piece) text ≡ piece

-- the token of a protocol's name, or of a word that times are asked by
abbrev pub protocol_or_time : List ℕ → Option Token
protocol_or_time w =
    if bytes_eq w (codes "icmp") then Some (token.Key key.Icmp)
    else (if bytes_eq w (codes "tcp") then Some (token.Key key.Tcp)
    else (if bytes_eq w (codes "udp") then Some (token.Key key.Udp)
    else (if bytes_eq w (codes "before") then Some (token.Key key.Before)
    else (if bytes_eq w (codes "after") then Some (token.Key key.After)
    else (if bytes_eq w (codes "ago") then Some (token.Key key.Ago)
    else None)))))

-- the token of a word that the grammar names, in lower case
abbrev pub keyword : List ℕ → Option Token
keyword w =
    if bytes_eq w (codes "and") then Some token.And
    else (if bytes_eq w (codes "or") then Some token.Or
    else (if bytes_eq w (codes "host") then Some (token.Key key.Host)
    else (if bytes_eq w (codes "net") then Some (token.Key key.Net)
    else (if bytes_eq w (codes "mask") then Some (token.Key key.Mask)
    else (if bytes_eq w (codes "port") then Some (token.Key key.Port)
    else (if bytes_eq w (codes "ip") then Some (token.Key key.Ip)
    else (if bytes_eq w (codes "proto") then Some (token.Key key.Proto)
    else (if bytes_eq w (codes "vlan") then Some (token.Key key.Vlan)
    else (if bytes_eq w (codes "mpls") then Some (token.Key key.Mpls)
    else protocol_or_time w)))))))))

-- how many ones lead the address if it is ones followed by zeros, else none
abbrev pub HasMask : Addr → Option ℕ → Type 0
HasMask a m = MatchOption m ((n : ℕ) → IsMask a n → ⊥) (λ n. IsMask a n)

-- the word is no number, address, net or time
pub record IsNoValue (word : List ℕ) : Type 0 where
  pub number : (n : ℕ) → IsNumber NUMBER_DIGITS word n → ⊥
  pub address : (a : Addr) → IsAddress word a → ⊥
  pub net : (a : Addr) (n : ℕ) → IsNet word a n → ⊥
  pub instant : (t : ℤ) → IsInstant word t → ⊥
  pub span : (n : ℕ) (hours : Bool) → IsSpan word n hours → ⊥

-- the token of a word that the grammar doesn't name
abbrev pub IsValue : List ℕ → Token → Type 0
IsValue word (token.Number n) = IsNumber NUMBER_DIGITS word n
IsValue word (token.Address a m) = IsAddress word a × HasMask a m
IsValue word (token.Net a n) = IsNet word a n
IsValue word (token.Instant t) = IsInstant word t
IsValue word (token.Span n hours) = IsSpan word n hours
IsValue word token.Other = IsNoValue word
IsValue word _ = ⊥

-- the word's token: the one that the grammar names, or else that of its value
abbrev pub IsWord : List ℕ → Token → Type 0
IsWord word t = MatchOption (keyword word) (IsValue word t) (λ k. t ≡ k)

-- no white space, no word and no mark begins there
abbrev pub IsStray : List ℕ → Type 0
IsStray text =
    (0 < length text) × EndsRun is_space text × EndsRun is_word_byte text
    × (Begins text (codes "(") → ⊥)
    × (Begins text (codes ")") → ⊥) × (Begins text (codes "&&") → ⊥)
    × (Begins text (codes "||") → ⊥)

-- the piece, before `more` of the text, is this token: a mark, a longest run of word bytes, or a
-- single other byte
abbrev pub IsPiece : Token → List ℕ → List ℕ → Type 0
IsPiece t piece more =
    ((t ≡ token.Open) × (piece ≡ codes "("))
    ⊎ ((t ≡ token.Close) × (piece ≡ codes ")"))
    ⊎ ((t ≡ token.And) × (piece ≡ codes "&&"))
    ⊎ ((t ≡ token.Or) × (piece ≡ codes "||"))
    ⊎ (IsWord piece t × (0 < length piece) × All (λ b. IsTrue (is_word_byte b)) piece
    × EndsRun is_word_byte more)
    ⊎ ((t ≡ token.Stray) × (length piece ≡ 1) × IsStray (piece ++ more))
