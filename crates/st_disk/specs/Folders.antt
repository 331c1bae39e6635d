-- What a shelf's two folders hold, and how a change turns it.
use Rattle.std.specs.Prelude.{List, [], ◌∷◌, ℕ, Option, None, Some, cond}
use Rattle.st_disk.specs.declared.naming.Kind.{Kind}
use Rattle.st_disk.specs.declared.naming.Kind.TheVariants as kind
use Rattle.st_disk.specs.declared.naming.Name.{Name}
use Rattle.st_disk.specs.declared.naming.Name.TheVariants.{Index, Parked, Draft}
use Rattle.st_disk.specs.declared.changes.Change.{Change}
use Rattle.st_disk.specs.declared.changes.Change.TheVariants.{Make, Settle, Hide, Remove}
use Rattle.st_disk.specs.declared.changes.Update.{Update}
use Rattle.st_disk.specs.declared.changes.Update.TheVariants.{Set, Move}
use Rattle.st_disk.specs.Names.{by_kind, kind_of, published, same_name}

-- the bytes under each name that is there; the bytes under a draft's name are not modelled, and are
-- the empty list here
abbrev pub Folder : Type 0
Folder = Name → Option (List ℕ)

-- the folder with this under the name
abbrev pub with_file : Folder → Name → Option (List ℕ) → Folder
with_file f n v m = cond (same_name n m) v (f m)

-- the first where there are bytes, else the second
abbrev pub where_there : {A : Type 0} → Option (List ℕ) → (List ℕ → A) → A → A
where_there None there missing = missing
where_there (Some bytes) there missing = there bytes

-- bytes that are known, else none
abbrev pub given : Option (List ℕ) → List ℕ
given None = []
given (Some bytes) = bytes

-- the folder after one change; a rename of what isn't there is skipped
abbrev pub apply : Change → Folder → Folder
apply (Make k d) f = with_file f (Draft k d) (Some [])
apply (Settle k d s bytes) f =
    where_there (f (Draft k d))
    (λ _. with_file (with_file f (Draft k d) None) (published k s) (Some bytes)) f
apply (Hide s) f =
    where_there (f (Index s))
    (λ bytes. with_file (with_file f (Index s) None) (Parked s) (Some bytes)) f
apply (Remove n) f = with_file f n None

-- the folder after these changes, in order
abbrev pub apply_all : List Change → Folder → Folder
apply_all [] f = f
apply_all (c ∷ cs) f = apply_all cs (apply c f)

-- the folder that a change is made in
abbrev pub change_kind : Change → Kind
change_kind (Make k d) = k
change_kind (Settle k d s bytes) = k
change_kind (Hide s) = kind.Index
change_kind (Remove n) = kind_of n

-- both folders as one: each name is looked up in its own
abbrev pub join : Folder → Folder → Folder
join blocks indexes n = by_kind (kind_of n) (blocks n) (indexes n)

-- the empty folder
abbrev pub bare : Folder
bare n = None

-- the folder after one update
abbrev pub update_on : Folder → Update → Folder
update_on f (Set n bytes) = with_file f n bytes
update_on f (Move a b bytes) = with_file (with_file f a None) b (Some bytes)

-- the folder after these updates, in order
abbrev pub updates_on : Folder → List Update → Folder
updates_on f [] = f
updates_on f (p ∷ ps) = updates_on (update_on f p) ps

-- the folder that these updates make of an empty one
unfoldable pub folder_of : List Update → Folder
folder_of ps = updates_on bare ps
