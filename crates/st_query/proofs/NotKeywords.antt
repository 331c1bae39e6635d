-- No value's word is a keyword: each has a byte below the lower-case letters.
use Rattle.std.proofs.Common.{◌≡◌, ℕ, ◌<◌, ◌≤◌, Bool, true, false, if◌then◌else◌, List, [], ◌∷◌, length, Option, Some, None, MatchOption, refl, sym, subst, arith, codes, All, Contains, lit≤, lit<, ℤ}
use Rattle.std.specs.Prelude.{⊤}
use Rattle.std.specs.Str.{bytes_eq}
use Rattle.std.specs.Char.{digit_value}
use Rattle.std.proofs.lemmas.Bool.Decides.{nat_tests}
use Rattle.std.specs.Str.Parse.{AllDigits}
use Rattle.std.proofs.lemmas.Slice.Eq.{bytes_eq-Decides}
use Rattle.std.proofs.lemmas.List.Elements.{All-from_recursion, All-contains, All-same, Contains-append_left}
use Rattle.st_query.specs.declared.addrs.Addr.{Addr}
use Rattle.st_query.specs.declared.addrs.Addr.TheVariants.{V4, V6}
use Rattle.st_query.specs.declared.tokens.Token.TheVariants as token
use Rattle.st_query.specs.declared.tokens.Token.{Token}
use Rattle.st_query.specs.declared.tokens.Keyword.TheVariants as key
use Rattle.st_query.specs.Words.{IsNumber, IsAddress, IsNet}
use Rattle.st_query.specs.Times.{IsInstant, IsSpan}
use Rattle.st_query.specs.Tokens.{keyword, IsValue, IsWord}
use Rattle.st_query.proofs.WordLaws.{dotted_has, colons_have, net_has, instant_has}

-- the byte is not below the lower-case letters
abbrev High : ℕ → Type 0
High c = 97 ≤ c

AreHigh : List ℕ → Option Token → Type 0
AreHigh w o = MatchOption o ⊤ (λ k. All High w)

high_or : (w word : List ℕ) (t : Token) (o : Option Token) → All High word → AreHigh w o → AreHigh w (if bytes_eq w word then Some t else o)
unfolding AreHigh
high_or w word t o high h =
    elim (bytes_eq w word) as (λ b. bytes_eq w word ≡ b → MatchOption (if b then Some t else o) ⊤ (λ k. All High w)) [
      | true ↦ λ e. All-same High w word ((bytes_eq-Decides w word).0 e) high
      | false ↦ λ e. h
    ] refl

end : (w : List ℕ) → AreHigh w None
unfolding AreHigh
end w = tt

keyword_high : (w : List ℕ) → AreHigh w (keyword w)
keyword_high w =
    high_or w (codes "and") token.And _ (All-from_recursion High (codes "and") (lit≤ tt, (lit≤ tt, (lit≤ tt, tt))))
    (high_or w (codes "or") token.Or _ (All-from_recursion High (codes "or") (lit≤ tt, (lit≤ tt, tt)))
    (high_or w (codes "host") (token.Key key.Host) _ (All-from_recursion High (codes "host") (lit≤ tt, (lit≤ tt, (lit≤ tt, (lit≤ tt, tt)))))
    (high_or w (codes "net") (token.Key key.Net) _ (All-from_recursion High (codes "net") (lit≤ tt, (lit≤ tt, (lit≤ tt, tt))))
    (high_or w (codes "mask") (token.Key key.Mask) _ (All-from_recursion High (codes "mask") (lit≤ tt, (lit≤ tt, (lit≤ tt, (lit≤ tt, tt)))))
    (high_or w (codes "port") (token.Key key.Port) _ (All-from_recursion High (codes "port") (lit≤ tt, (lit≤ tt, (lit≤ tt, (lit≤ tt, tt)))))
    (high_or w (codes "ip") (token.Key key.Ip) _ (All-from_recursion High (codes "ip") (lit≤ tt, (lit≤ tt, tt)))
    (high_or w (codes "proto") (token.Key key.Proto) _ (All-from_recursion High (codes "proto") (lit≤ tt, (lit≤ tt, (lit≤ tt, (lit≤ tt, (lit≤ tt, tt))))))
    (high_or w (codes "vlan") (token.Key key.Vlan) _ (All-from_recursion High (codes "vlan") (lit≤ tt, (lit≤ tt, (lit≤ tt, (lit≤ tt, tt)))))
    (high_or w (codes "mpls") (token.Key key.Mpls) _ (All-from_recursion High (codes "mpls") (lit≤ tt, (lit≤ tt, (lit≤ tt, (lit≤ tt, tt)))))
    (high_or w (codes "icmp") (token.Key key.Icmp) _ (All-from_recursion High (codes "icmp") (lit≤ tt, (lit≤ tt, (lit≤ tt, (lit≤ tt, tt)))))
    (high_or w (codes "tcp") (token.Key key.Tcp) _ (All-from_recursion High (codes "tcp") (lit≤ tt, (lit≤ tt, (lit≤ tt, tt))))
    (high_or w (codes "udp") (token.Key key.Udp) _ (All-from_recursion High (codes "udp") (lit≤ tt, (lit≤ tt, (lit≤ tt, tt))))
    (high_or w (codes "before") (token.Key key.Before) _ (All-from_recursion High (codes "before") (lit≤ tt, (lit≤ tt, (lit≤ tt, (lit≤ tt, (lit≤ tt, (lit≤ tt, tt)))))))
    (high_or w (codes "after") (token.Key key.After) _ (All-from_recursion High (codes "after") (lit≤ tt, (lit≤ tt, (lit≤ tt, (lit≤ tt, (lit≤ tt, tt))))))
    (high_or w (codes "ago") (token.Key key.Ago) None (All-from_recursion High (codes "ago") (lit≤ tt, (lit≤ tt, (lit≤ tt, tt))))
    (end w))))))))))))))))

none : (w : List ℕ) (b : ℕ) (o : Option Token) → AreHigh w o → Contains w b → b < 97 → o ≡ None
unfolding AreHigh
none w b None h has low = refl
none w b (Some k) h has low = let above : 97 ≤ b = All-contains High w b h has in absurd (omega arith)

-- a word with a byte that isn't high is no keyword
pub no_keyword : (w : List ℕ) (b : ℕ) → Contains w b → b < 97 → keyword w ≡ None
no_keyword w b has low = none w b (keyword w) (keyword_high w) has low

-- a decimal digit is not high
low_digit : (c : ℕ) → digit_value c < 10 → c < 97
low_digit c h = grind (arith, nat_tests)

first_digit : (ds : List ℕ) → 0 < length ds → AllDigits 10 ds → (b : ℕ) × Contains ds b × (b < 97)
first_digit [] some digits = absurd (omega arith)
first_digit (c ∷ cs) some digits = (c, (0, omega arith, refl), low_digit c digits.0)

pub number_is_none : (most : ℕ) (w : List ℕ) (n : ℕ) → IsNumber most w n → keyword w ≡ None
number_is_none most w n h =
    let (b, has, low) = first_digit w h.0.0 h.0.1 in
    no_keyword w b has low

pub address_is_none : (w : List ℕ) (a : Addr) → IsAddress w a → keyword w ≡ None
address_is_none w (V4 bits) h = no_keyword w 46 (dotted_has w _ h.1) (lit< tt)
address_is_none w (V6 bits) h = no_keyword w 58 (colons_have w _ h.1) (lit< tt)

pub net_is_none : (w : List ℕ) (a : Addr) (n : ℕ) → IsNet w a n → keyword w ≡ None
net_is_none w a n h = no_keyword w 47 (net_has w a n h) (lit< tt)

pub instant_is_none : (w : List ℕ) (t : ℤ) → IsInstant w t → keyword w ≡ None
instant_is_none w t h = no_keyword w 84 (instant_has w t h) (lit< tt)

pub span_is_none : (w : List ℕ) (n : ℕ) (hours : Bool) → IsSpan w n hours → keyword w ≡ None
span_is_none w n hours (digits, split, number, small) =
    let (b, has, low) = first_digit digits number.0.0 number.0.1 in
    no_keyword w b (subst (λ (t : List ℕ). Contains t b) (sym split) (Contains-append_left digits _ b has)) low

-- a value's word is its token
pub value_word : (w : List ℕ) (t : Token) → keyword w ≡ None → IsValue w t → IsWord w t
value_word w t e h = rw e h
