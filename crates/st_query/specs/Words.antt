-- What one word of a query means, if it is a number, an address, a net or a mask.
use Rattle.std.specs.Prelude.{◌≡◌, ℕ, ◌+◌, ◌-◌, ◌*◌, ◌/◌, ◌^◌, ◌<◌, ◌≤◌, ◌≢◌, List, ◌++◌, length, take, drop, codes, All, Contains}
use Rattle.std.specs.Str.Parse.{IsNumeral, digits_value}
use Rattle.std.specs.declared.net.ipv4_addr.Ipv4Addr.{Ipv4Addr}
use Rattle.std.specs.declared.net.ipv6_addr.Ipv6Addr.{Ipv6Addr}
use Rattle.std.specs.Net.Addr.{ipv4_bits, ipv6_bits}
use Rattle.std.specs.Net.Grammar.{IsIpv4Text, IsIpv6Text}
use Rattle.st_query.specs.declared.limits.TheConstants.{BITS_DIGITS, V4_BITS, V6_BITS}
use Rattle.st_query.specs.declared.addrs.Addr.{Addr}
use Rattle.st_query.specs.declared.addrs.Addr.TheVariants.{V4, V6}

-- one to `most` decimal digits, which write n
abbrev pub IsNumber : ℕ → List ℕ → ℕ → Type 0
IsNumber most word n = IsNumeral 10 word × (length word ≤ most) × (digits_value 10 word ≡ n)

-- four decimal numbers below 256 without leading zeros; or the groups of RFC 4291, 2.2, where `::`
-- is one zero group or more, and no group is written as decimal numbers
abbrev pub IsAddress : List ℕ → Addr → Type 0
IsAddress word (V4 bits) = (ip : Ipv4Addr) × IsIpv4Text word ip × (bits ≡ ipv4_bits ip)
IsAddress word (V6 bits) =
    (ip : Ipv6Addr) × IsIpv6Text word ip × ¬ (Contains word 46) × (bits ≡ ipv6_bits ip)

-- how many bits an address has
abbrev pub width : Addr → ℕ
width (V4 bits) = V4_BITS
width (V6 bits) = V6_BITS

-- the address has no more bits
abbrev pub FitsAddr : Addr → Type 0
FitsAddr (V4 bits) = bits < 2 ^ V4_BITS
FitsAddr (V6 bits) = bits < 2 ^ V6_BITS

-- an address, a slash, and the number of bits in one to three digits
abbrev pub IsNet : List ℕ → Addr → ℕ → Type 0
IsNet word a n =
    (address : List ℕ) × (digits : List ℕ) × (word ≡ address ++ codes "/" ++ digits)
    × IsAddress address a × IsNumber BITS_DIGITS digits n × (n ≤ width a)

-- the text has a slash at i, and none after it
abbrev pub EndsAtSlash : List ℕ → ℕ → Type 0
EndsAtSlash word i =
    (i < length word) × (word ≡ take i word ++ codes "/" ++ drop (i + 1) word)
    × All (λ b. b ≢ 47) (drop (i + 1) word)

-- the number of `width` bits, with all but its first n bits cleared
abbrev pub cleared : ℕ → ℕ → ℕ → ℕ
cleared width n bits = bits / 2 ^ (width - n) * 2 ^ (width - n)

-- the address with all but its first n bits cleared: the net that it lies in
abbrev pub network : Addr → ℕ → Addr
network (V4 bits) n = V4 (cleared V4_BITS n bits)
network (V6 bits) n = V6 (cleared V6_BITS n bits)

-- n ones and then zeros, in `width` bits
abbrev pub IsOnes : ℕ → ℕ → ℕ → Type 0
IsOnes width n bits = (n ≤ width) × (bits + 2 ^ (width - n) ≡ 2 ^ width)

-- the address, read as a mask, is n ones and then zeros
abbrev pub IsMask : Addr → ℕ → Type 0
IsMask (V4 bits) n = IsOnes V4_BITS n bits
IsMask (V6 bits) n = IsOnes V6_BITS n bits
