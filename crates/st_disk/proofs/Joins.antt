-- A change of one folder is a change of both as one.
use Rattle.std.proofs.Common.{◌≡◌, ℕ, List, [], Option, None, Some, refl, ◌∙◌, ap}
use Rattle.st_disk.specs.declared.naming.Kind.TheVariants as kind
use Rattle.st_disk.specs.declared.naming.Name.{Name}
use Rattle.st_disk.specs.declared.naming.Name.TheVariants.{Block, Index, Parked, Draft}
use Rattle.st_disk.specs.declared.changes.Change.{Change}
use Rattle.st_disk.specs.declared.changes.Change.TheVariants.{Make, Settle, Hide, Remove}
use Rattle.st_disk.specs.Names.{by_kind, kind_of}
use Rattle.st_disk.specs.Folders.{Folder, with_file, join, apply, change_kind, where_there}

-- at each name, a name set in one folder is set in both
with_file_at : (b i : Folder) (n : Name) (v : Option (List ℕ)) (m : Name) → with_file (join b i) n v m ≡ by_kind (kind_of n) (join (with_file b n v) i) (join b (with_file i n v)) m
with_file_at b i (Block s) v (Block t) = refl
with_file_at b i (Block s) v (Index t) = refl
with_file_at b i (Block s) v (Parked t) = refl
with_file_at b i (Block s) v (Draft kind.Block e) = refl
with_file_at b i (Block s) v (Draft kind.Index e) = refl
with_file_at b i (Index s) v (Block t) = refl
with_file_at b i (Index s) v (Index t) = refl
with_file_at b i (Index s) v (Parked t) = refl
with_file_at b i (Index s) v (Draft kind.Block e) = refl
with_file_at b i (Index s) v (Draft kind.Index e) = refl
with_file_at b i (Parked s) v (Block t) = refl
with_file_at b i (Parked s) v (Index t) = refl
with_file_at b i (Parked s) v (Parked t) = refl
with_file_at b i (Parked s) v (Draft kind.Block e) = refl
with_file_at b i (Parked s) v (Draft kind.Index e) = refl
with_file_at b i (Draft kind.Block d) v (Block t) = refl
with_file_at b i (Draft kind.Block d) v (Index t) = refl
with_file_at b i (Draft kind.Block d) v (Parked t) = refl
with_file_at b i (Draft kind.Block d) v (Draft kind.Block e) = refl
with_file_at b i (Draft kind.Block d) v (Draft kind.Index e) = refl
with_file_at b i (Draft kind.Index d) v (Block t) = refl
with_file_at b i (Draft kind.Index d) v (Index t) = refl
with_file_at b i (Draft kind.Index d) v (Parked t) = refl
with_file_at b i (Draft kind.Index d) v (Draft kind.Block e) = refl
with_file_at b i (Draft kind.Index d) v (Draft kind.Index e) = refl

pub with_file_join : (b i : Folder) (n : Name) (v : Option (List ℕ)) → with_file (join b i) n v ≡ by_kind (kind_of n) (join (with_file b n v) i) (join b (with_file i n v))
with_file_join b i n v j m = with_file_at b i n v m j

-- a folder where there are bytes, and else another, beside a third
there_blocks : (o : Option (List ℕ)) (f : List ℕ → Folder) (b i : Folder) → where_there o (λ x. join (f x) i) (join b i) ≡ join (where_there o f b) i
there_blocks None f b i = refl
there_blocks (Some x) f b i = refl

there_indexes : (o : Option (List ℕ)) (f : List ℕ → Folder) (b i : Folder) → where_there o (λ x. join b (f x)) (join b i) ≡ join b (where_there o f i)
there_indexes None f b i = refl
there_indexes (Some x) f b i = refl

pub apply_join : (c : Change) (b i : Folder) → apply c (join b i) ≡ by_kind (change_kind c) (join (apply c b) i) (join b (apply c i))
apply_join (Make k d) b i = with_file_join b i (Draft k d) (Some [])
apply_join (Remove n) b i = with_file_join b i n None
apply_join (Hide s) b i =
    ap (λ (f : List ℕ → Folder). where_there (i (Index s)) f (join b i)) (λ j x. (ap (λ (g : Folder). with_file g (Parked s) (Some x)) (with_file_join b i (Index s) None) ∙ with_file_join b (with_file i (Index s) None) (Parked s) (Some x)) j)
    ∙ there_indexes (i (Index s)) (λ x. with_file (with_file i (Index s) None) (Parked s) (Some x)) b i
apply_join (Settle kind.Block d s bytes) b i =
    ap (λ (g : Folder). where_there (b (Draft kind.Block d)) (λ _. g) (join b i)) (ap (λ (g : Folder). with_file g (Block s) (Some bytes)) (with_file_join b i (Draft kind.Block d) None) ∙ with_file_join (with_file b (Draft kind.Block d) None) i (Block s) (Some bytes))
    ∙ there_blocks (b (Draft kind.Block d)) (λ _. with_file (with_file b (Draft kind.Block d) None) (Block s) (Some bytes)) b i
apply_join (Settle kind.Index d s bytes) b i =
    ap (λ (g : Folder). where_there (i (Draft kind.Index d)) (λ _. g) (join b i)) (ap (λ (g : Folder). with_file g (Index s) (Some bytes)) (with_file_join b i (Draft kind.Index d) None) ∙ with_file_join b (with_file i (Draft kind.Index d) None) (Index s) (Some bytes))
    ∙ there_indexes (i (Draft kind.Index d)) (λ _. with_file (with_file i (Draft kind.Index d) None) (Index s) (Some bytes)) b i
