-- Bytes as a list of fields: their text, and the order in which a reader checks them. Numbers
-- have their lowest byte first.
use Rattle.std.specs.Prelude.{◌≡◌, ℕ, ◌+◌, List, [], ◌∷◌, ◌++◌, length, take, drop, replicate, Option, None, Some, nat_eq, nat_lt, if◌then◌else◌}
use Rattle.std.specs.Option.{option_or}
use Rattle.byteorder.specs.Endian.{little_bytes, little_number}
use Rattle.st_base.specs.Damages.{DamageView}
use Rattle.st_block.specs.declared.format.TheConstants.{MAX_NSEC}

-- what some bytes are
pub data Field : Type 0 where
  -- a number of this many bytes that a reader knows beforehand
  Number : ℕ → ℕ → Field
  -- a number of this many bytes that may be any
  Any : ℕ → ℕ → Field
  -- four bytes of nanoseconds, any below a second
  Nanoseconds : ℕ → Field
  -- this many zeros
  Zeros : ℕ → Field
  -- bytes that may be any
  Body : List ℕ → Field

-- how many bytes a field takes
abbrev pub size_of : Field → ℕ
size_of (Number width n) = width
size_of (Any width n) = width
size_of (Nanoseconds n) = 4
size_of (Zeros count) = count
size_of (Body bytes) = length bytes

-- the bytes of a field
abbrev pub text_of : Field → List ℕ
text_of (Number width n) = little_bytes width n
text_of (Any width n) = little_bytes width n
text_of (Nanoseconds n) = little_bytes 4 n
text_of (Zeros count) = replicate count 0
text_of (Body bytes) = bytes

-- how many bytes some fields take
abbrev pub sizes : List Field → ℕ
sizes [] = 0
sizes (f ∷ fields) = size_of f + sizes fields

-- the bytes of some fields, one after the other
abbrev pub text : List Field → List ℕ
text [] = []
text (f ∷ fields) = text_of f ++ text fields

-- the damage at the first byte that isn't zero, of bytes that begin at this place
abbrev pub not_zero : ℕ → List ℕ → Option DamageView
not_zero place [] = None
not_zero place (b ∷ bytes) =
    if nat_eq b 0 then not_zero (place + 1) bytes
    else Some (record { place = place; found = b; want = 0 })

-- the damage at this place, unless the number found is the one wanted
abbrev pub not_same : ℕ → ℕ → ℕ → Option DamageView
not_same place found want =
    if nat_eq found want then None else Some (record { place = place; found = found; want = want })

-- the damage at this place, unless the number found is at most the one wanted
abbrev pub above : ℕ → ℕ → ℕ → Option DamageView
above place found want =
    if nat_lt want found then Some (record { place = place; found = found; want = want }) else None

-- the damage at a field, which is to be the first of these bytes, which begin at this place
abbrev pub field_wrong : ℕ → Field → List ℕ → Option DamageView
field_wrong place (Number width n) bytes = not_same place (little_number width bytes) n
field_wrong place (Any width n) bytes = None
field_wrong place (Nanoseconds n) bytes = above place (little_number 4 bytes) MAX_NSEC
field_wrong place (Zeros count) bytes = not_zero place (take count bytes)
field_wrong place (Body body) bytes = None

-- the first damage at some fields, in their order
abbrev pub first_wrong : ℕ → List Field → List ℕ → Option DamageView
first_wrong place [] bytes = None
first_wrong place (f ∷ fields) bytes =
    option_or (field_wrong place f bytes)
    (first_wrong (place + size_of f) fields (drop (size_of f) bytes))

-- a field that may be any says what these bytes begin with
abbrev pub IsRead : Field → List ℕ → Type 0
IsRead (Number width n) bytes = Unit {0}
IsRead (Any width n) bytes = little_number width bytes ≡ n
IsRead (Nanoseconds n) bytes = little_number 4 bytes ≡ n
IsRead (Zeros count) bytes = Unit {0}
IsRead (Body body) bytes = take (length body) bytes ≡ body

-- each of some fields that may be any says what stands in these bytes at its offset
abbrev pub AreRead : List Field → List ℕ → Type 0
AreRead [] bytes = Unit {0}
AreRead (f ∷ fields) bytes = IsRead f bytes × AreRead fields (drop (size_of f) bytes)
