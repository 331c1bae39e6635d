-- The pairs of a folder, as a file set.
use Rattle.std.specs.Prelude.{◌≡◌, ◌<◌, ℕ, List, [], ◌∷◌, Option, None, Some, ⊤, cond, nat_eq}
use Rattle.st_disk.specs.declared.naming.Name.TheVariants.{Block, Index}
use Rattle.st_disk.specs.Folders.{Folder}

-- an entry of a file set: the stamp of a pair, and the bytes of its block file and of its index
pub record Entry : Type 0 where
  pub stamp : ℕ
  pub block : List ℕ
  pub index : List ℕ

-- the bytes of a pair's two files
pub record Files : Type 0 where
  pub block : List ℕ
  pub index : List ℕ

abbrev pub files_of : Entry → Files
files_of e = record { block = e.block; index = e.index }

-- the stamp is below those of all entries
abbrev pub IsBelow : ℕ → List Entry → Type 0
IsBelow s [] = ⊤
IsBelow s (e ∷ es) = (s < e.stamp) × IsBelow s es

-- a file set: entries whose stamps strictly rise
abbrev pub IsFileSet : List Entry → Type 0
IsFileSet [] = ⊤
IsFileSet (e ∷ es) = IsBelow e.stamp es × IsFileSet es

-- the files of a stamp, where an entry has it
abbrev pub files_at : ℕ → List Entry → Option Files
files_at s [] = None
files_at s (e ∷ es) = cond (nat_eq e.stamp s) (Some (files_of e)) (files_at s es)

-- both files, where both are there
abbrev pub both : Option (List ℕ) → Option (List ℕ) → Option Files
both None index = None
both (Some block) None = None
both (Some block) (Some index) = Some (record { block = block; index = index })

-- a file set with an entry for each stamp under which a folder has both files, and for no other
pub record PairsIn (folder : Folder) (set : List Entry) : Type 0 where
  pub rises : IsFileSet set
  pub each : (s : ℕ) → files_at s set ≡ both (folder (Block s)) (folder (Index s))

-- a folder has one file set at most
abbrev pub OneFileSet : Type 0
OneFileSet = (folder : Folder) (a b : List Entry) → PairsIn folder a → PairsIn folder b → a ≡ b
