-- The line that says which call of the system failed.
use Rattle.std.specs.Prelude.{◌≡◌, ℕ, ◌==◌, Option, Some, List, ◌++◌, codes, take, if◌then◌else◌}
use Rattle.std.specs.Str.{IsCharBoundary}
use Rattle.std.specs.IoError.{error_kind}
use Rattle.std.specs.declared.io.ErrorKind.TheVariants as kind
use Rattle.st_base.specs.declared.failures.Call.{Call}
use Rattle.st_base.specs.declared.failures.Call.TheVariants.{Read, Write, Flush, Sync, Create, Open, Lock, List as ListFolder, Rename, Remove, MakeFolder}
use Rattle.st_base.specs.declared.failures.CallFailure.{CallFailure}
use Rattle.st_folder.specs.declared.real.failures.Failure.{Failure}
use Rattle.st_folder.specs.declared.real.failures.Place.{Place}
use Rattle.st_folder.specs.declared.real.failures.Place.TheVariants.{Way, Folder, File}
use Rattle.st_folder.specs.FileNames.{folder_path, file_path}

-- the name of a call, as an operator reads it
abbrev pub call_name : Call → List ℕ
call_name Read = codes "read"
call_name Write = codes "write"
call_name Flush = codes "flush"
call_name Sync = codes "sync"
call_name Create = codes "create"
call_name Open = codes "open"
call_name Lock = codes "lock"
call_name ListFolder = codes "list"
call_name Rename = codes "rename"
call_name Remove = codes "remove"
call_name MakeFolder = codes "make folder"

-- the first bytes of the spool folder's path, or the working folder
abbrev pub way_path : List ℕ → ℕ → List ℕ
way_path root count = if count == 0 then codes "." else take count root

-- this is a place's path in the spool folder `root`; nothing is said of a count that ends within
-- a character
abbrev pub IsPathOf : List ℕ → Place → List ℕ → Type 0
IsPathOf root (Way count) path = IsCharBoundary root count → path ≡ way_path root count
IsPathOf root (Folder kind) path = path ≡ folder_path root kind
IsPathOf root (File name) path = path ≡ file_path root name

-- another program has the lock
abbrev pub IsTaken : CallFailure → Type 0
IsTaken failed = (failed.call ≡ Lock) × (error_kind failed.error ≡ kind.WouldBlock)

-- `steno: CALL PATH: WORDS` and a line feed, where WORDS are the system's
pub record IsFailureLine (path : List ℕ) (failed : CallFailure) (line : List ℕ) : Type 0 where
  pub words : List ℕ
  pub text : line
      ≡ codes "steno: " ++ (call_name failed.call ++ (codes " " ++ (path ++ (codes ": "
      ++ (words ++ codes "\n")))))
  pub taken : IsTaken failed → words ≡ codes "another program has the folder"

-- the line of the first failure, which there is, of the shelf in the folder `root`
pub record IsLineOf (root : List ℕ) (first : Option Failure) (line : List ℕ) : Type 0 where
  pub failure : Failure
  pub there : first ≡ Some failure
  pub path : List ℕ
  pub place : IsPathOf root failure.place path
  pub text : IsFailureLine path failure.failed line
