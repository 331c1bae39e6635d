-- The names of a shelf's files in a file system: docs/FORMAT.md, "Folders and names".
use Rattle.std.specs.Prelude.{◌≡◌, ℕ, zero, suc, false, ◌/◌, ◌%◌, List, [], ◌∷◌, ◌++◌, codes, All}
use Rattle.std.specs.Fmt.{digit_glyph, decimal}
use Rattle.st_disk.specs.declared.naming.Kind.{Kind}
use Rattle.st_disk.specs.declared.naming.Kind.TheVariants as kind
use Rattle.st_disk.specs.declared.naming.Name.{Name}
use Rattle.st_disk.specs.declared.naming.Name.TheVariants.{Block, Index, Parked, Draft}
use Rattle.st_disk.specs.Names.{kind_of}

-- a number in this many hexadecimal digits in lower case
abbrev pub hex_text : ℕ → ℕ → List ℕ
hex_text zero n = []
hex_text (suc k) n = hex_text k (n / 16) ++ (digit_glyph false (n % 16) ∷ [])

-- a stamp in sixteen hexadecimal digits in lower case
unfoldable pub stamp_text : ℕ → List ℕ
stamp_text stamp = hex_text 16 stamp

-- the name of a file in its folder
abbrev pub file_name : Name → List ℕ
file_name (Block stamp) = stamp_text stamp
file_name (Index stamp) = stamp_text stamp
file_name (Parked stamp) = codes ".parked-" ++ stamp_text stamp
file_name (Draft k number) = codes ".draft-" ++ decimal number

-- a file of this name lies in this folder, under this text
abbrev pub IsNameIn : Kind → Name → List ℕ → Type 0
IsNameIn kind name text = (kind_of name ≡ kind) × (text ≡ file_name name)

-- these are names of files in this folder
abbrev pub AreIn : Kind → List Name → Type 0
AreIn kind names = All (λ n. kind_of n ≡ kind) names

-- names of files in this folder were added
abbrev pub AddsNames : Kind → List Name → List Name → Type 0
AddsNames kind old new = (more : List Name) × (new ≡ old ++ more) × AreIn kind more

-- the name of a folder in the spool folder
abbrev pub folder_name : Kind → List ℕ
folder_name kind.Block = codes "PKT0"
folder_name kind.Index = codes "IDX0"

-- the path of a folder
abbrev pub folder_path : List ℕ → Kind → List ℕ
folder_path root kind = (root ++ codes "/") ++ folder_name kind

-- the path of a file
abbrev pub file_path : List ℕ → Name → List ℕ
file_path root name = (folder_path root (kind_of name) ++ codes "/") ++ file_name name
