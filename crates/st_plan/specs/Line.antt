-- How the arguments of a command line are read: options in any place, and operands.
use Rattle.std.specs.Prelude.{◌≡◌, Bool, true, false, not, ◌==◌, List, [], ◌∷◌, ◌++◌, Option, Some, None, codes, if◌then◌else◌}
use Rattle.std.specs.Str.{bytes_eq}
use Rattle.clap.specs.Words.{Text}

-- the options with a value
pub data Valued : Type 0 where
  packets : Valued
  bytes : Valued
  block : Valued
  blocks : Valued
  limit : Valued

-- their names
abbrev pub name_of : Valued → Text
name_of packets = codes "packets"
name_of bytes = codes "bytes"
name_of block = codes "block"
name_of blocks = codes "blocks"
name_of limit = codes "limit"

-- the argument that names an option
abbrev pub long_name : Valued → Text
long_name x = codes "--" ++ name_of x

-- the argument that names it and has its value too
abbrev pub name_and_value : Valued → Text → Text
name_and_value x v = codes "--" ++ (name_of x ++ (codes "=" ++ v))

-- what the options say
pub record Options : Type 0 where
  pub ns : Bool
  pub value : Valued → Option Text

-- no option is given
abbrev pub no_options : Options
no_options = record { ns = false; value = λ _. None }

-- these options and this value of one of them
abbrev pub with_value : Options → Valued → Text → Options
with_value o x v = record o {
  value = λ y. if bytes_eq (name_of x) (name_of y) then Some v else o.value y;
}

-- an argument that may be an operand or an option's value: one that does not begin with a hyphen,
-- or is a hyphen alone
abbrev pub is_plain : Text → Bool
is_plain [] = true
is_plain (x ∷ []) = true
is_plain (x ∷ (y ∷ rest)) = not (x == 45)

-- With these options and operands before them, the arguments are read to their end, and with those
-- that they have they make those. An option stands once. Its value is the next argument, or follows
-- an equals sign. After `--` each argument is an operand.
pub data Line : Options → List Text → List Text → Options → List Text → Type 0 where
  nothing : {o : Options} {gs : List Text} → Line o gs [] o gs
  rest : {o : Options} {gs ws hs : List Text} → hs ≡ gs ++ ws → Line o gs (codes "--" ∷ ws) o hs
  word : {o p : Options} {gs ws hs : List Text} {w : Text} → is_plain w ≡ true
      → Line o (gs ++ w ∷ []) ws p hs → Line o gs (w ∷ ws) p hs
  ns : {o p : Options} {gs ws hs : List Text} → o.ns ≡ false
      → Line (record o { ns = true }) gs ws p hs → Line o gs (codes "--ns" ∷ ws) p hs
  value : {o p : Options} {gs ws hs : List Text} (x : Valued) (v : Text) → o.value x ≡ None
      → is_plain v ≡ true → Line (with_value o x v) gs ws p hs
      → Line o gs (long_name x ∷ (v ∷ ws)) p hs
  joined : {o p : Options} {gs ws hs : List Text} (x : Valued) (v : Text) → o.value x ≡ None
      → Line (with_value o x v) gs ws p hs
      → Line o gs (name_and_value x v ∷ ws) p hs
