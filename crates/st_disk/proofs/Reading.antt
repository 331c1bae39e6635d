-- What is read under a name after a call.
use Rattle.std.proofs.Common.{◌≡◌, ℕ, List, [], Option, None, Some, Bool, false, cond, refl, sym, ◌∙◌, ap, subst, IsSome, ⊎_elim}
use Rattle.st_disk.specs.declared.naming.Kind.{Kind}
use Rattle.st_disk.specs.declared.naming.Kind.TheVariants as kind
use Rattle.st_disk.specs.declared.naming.Name.{Name}
use Rattle.st_disk.specs.declared.naming.Name.TheVariants.{Block, Index, Parked, Draft}
use Rattle.st_disk.specs.declared.changes.Change.{Change}
use Rattle.st_disk.specs.declared.changes.Change.TheVariants.{Make, Settle, Hide, Remove}
use Rattle.st_disk.specs.declared.changes.Call.{Call}
use Rattle.st_disk.specs.declared.changes.Call.TheVariants.{Did, Flush, Other}
use Rattle.st_disk.specs.Names.{published, number_of, IsPublished, same_name}
use Rattle.st_disk.specs.Folders.{Folder, with_file, where_there, folder_of, apply}
use Rattle.st_disk.specs.Disks.{Log, side, reads, and_then, log_of}
use Rattle.st_disk.specs.LoggedCalls.{Adds, Looks, Reads, Spares, Parks, removal}
use Rattle.st_disk.proofs.Images.{reads_did, reads_flush, reads_other}
use Rattle.st_disk.proofs.Order.{is_same}
use Rattle.st_disk.proofs.Runs.{known_before}

-- a known log is one log
pub known_log : (a b : Log) → ◌≡◌ {A = Option Log} (Some a) (Some b) → a ≡ b
known_log a b e = cc

-- under the name is what was set
pub with_file_here : (f : Folder) (n : Name) (v : Option (List ℕ)) → with_file f n v n ≡ v
with_file_here f n v = ap (λ (b : Bool). cond b v (f n)) (is_same n)

settled_here : (f g : Folder) (n : Name) (v there : Option (List ℕ)) → IsSome there → where_there there (λ _. with_file g n v) f n ≡ v
settled_here f g n v None h = cc
settled_here f g n v (Some x) h = with_file_here g n v

-- a draft that was there stands under its name now
pub reads_settled : (log : Log) (k : Kind) (d s : ℕ) (bytes : List ℕ) → IsSome (reads log (Draft k d)) → reads (and_then log (Did (Settle k d s bytes))) (published k s) ≡ Some bytes
reads_settled log k d s bytes there =
    ap (λ (f : Folder). f (published k s)) (reads_did log (Settle k d s bytes)) ∙ settled_here (reads log) (with_file (reads log) (Draft k d) None) (published k s) (Some bytes) (reads log (Draft k d)) there

-- a published name is no draft's
other_name : (f : Folder) (j k : Kind) (d s : ℕ) (v : Option (List ℕ)) → with_file f (Draft j d) v (published k s) ≡ f (published k s)
other_name f j kind.Block d s v = refl
other_name f j kind.Index d s v = refl

-- a published name that is free stays so as a draft is made
pub free_still : (old new : Option Log) (j k : Kind) (d s : ℕ) → Adds old new (Did (Make j d)) → ((log : Log) → old ≡ Some log → reads log (published k s) ≡ None) → (log : Log) → new ≡ Some log → reads log (published k s) ≡ None
free_still old new j k d s adds free log known =
    let was = known_before old new (Did (Make j d)) log known adds in
    ap (λ (l : Log). reads l (published k s)) was.2 ∙ ap (λ (f : Folder). f (published k s)) (reads_did was.0 (Make j d)) ∙ other_name (reads was.0) j k d s (Some []) ∙ free was.0 was.1

-- under another name is what was there
with_file_other : (f : Folder) (n m : Name) (v : Option (List ℕ)) → same_name n m ≡ false → with_file f n v m ≡ f m
with_file_other f n m v other = ap (λ (b : Bool). cond b v (f m)) other

hidden_here : (f : Folder) (s : ℕ) (there : Option (List ℕ)) → there ≡ f (Index s) → where_there there (λ bytes. with_file (with_file f (Index s) None) (Parked s) (Some bytes)) f (Index s) ≡ None
hidden_here f s None is = sym is
hidden_here f s (Some x) is = with_file_here f (Index s) None

parked_here : (f : Folder) (s : ℕ) (there : Option (List ℕ)) → IsSome there → where_there there (λ bytes. with_file (with_file f (Index s) None) (Parked s) (Some bytes)) f (Parked s) ≡ there
parked_here f s None h = cc
parked_here f s (Some x) h = with_file_here (with_file f (Index s) None) (Parked s) (Some x)

-- an index that was hidden isn't read any more
pub reads_hidden : (log : Log) (s : ℕ) → reads (and_then log (Did (Hide s))) (Index s) ≡ None
reads_hidden log s = ap (λ (f : Folder). f (Index s)) (reads_did log (Hide s)) ∙ hidden_here (reads log) s (reads log (Index s)) refl

-- it is read under its parked name
pub reads_parked : (log : Log) (s : ℕ) → IsSome (reads log (Index s)) → reads (and_then log (Did (Hide s))) (Parked s) ≡ reads log (Index s)
reads_parked log s there = ap (λ (f : Folder). f (Parked s)) (reads_did log (Hide s)) ∙ parked_here (reads log) s (reads log (Index s)) there

-- so the clause of `hide`
pub parks : (old : Log) (new : Option Log) (s : ℕ) → IsSome (reads old (Index s)) → new ≡ Some (and_then old (Did (Hide s))) → Parks (Some old) new s
parks old new s there is log same = (
  λ now e. ap (λ (l : Log). reads l (Index s)) (known_log now (and_then old (Did (Hide s))) (sym e ∙ is)) ∙ reads_hidden old s,
  λ now e. ap (λ (l : Log). reads l (Parked s)) (known_log now (and_then old (Did (Hide s))) (sym e ∙ is)) ∙ reads_parked old s there ∙ ap (λ (l : Log). reads l (Index s)) (known_log old log same),
)

-- a name that was removed isn't there
pub reads_removed : (log : Log) (n : Name) → reads (and_then log (Did (Remove n))) n ≡ None
reads_removed log n = ap (λ (f : Folder). f n) (reads_did log (Remove n)) ∙ with_file_here (reads log) n None

removed : (log : Log) (n : Name) (there : Option (List ℕ)) → there ≡ reads log n → reads (and_then log (where_there there (λ _. Did (Remove n)) Other)) n ≡ None
removed log n None is = ap (λ (f : Folder). f n) (reads_other log) ∙ sym is
removed log n (Some x) is = reads_removed log n

-- whether it was there or not
pub reads_removal : (log : Log) (n : Name) → reads (and_then log (removal (Some log) n)) n ≡ None
reads_removal log n = removed log n (reads log n) refl

-- calls that leave what is read under a name
pub flush_spares : (k : Kind) (n : Name) → Spares (Flush k) n
flush_spares k n log = ap (λ (f : Folder). f n) (reads_flush log k)

pub other_spares : (n : Name) → Spares Other n
other_spares n log = ap (λ (f : Folder). f n) (reads_other log)

-- a change does where it leaves each folder's file of that name
pub change_spares : (ch : Change) (n : Name) → ((f : Folder) → apply ch f n ≡ f n) → Spares (Did ch) n
change_spares ch n leaves log = ap (λ (f : Folder). f n) (reads_did log ch) ∙ leaves (reads log)

pub make_spares : (k : Kind) (d : ℕ) (n : Name) → same_name (Draft k d) n ≡ false → Spares (Did (Make k d)) n
make_spares k d n other = change_spares (Make k d) n (λ f. with_file_other f (Draft k d) n (Some []) other)

pub remove_spares : (m n : Name) → same_name m n ≡ false → Spares (Did (Remove m)) n
remove_spares m n other = change_spares (Remove m) n (λ f. with_file_other f m n None other)

moved : (f : Folder) (a b n : Name) (bytes : List ℕ → List ℕ) (there : Option (List ℕ)) → same_name a n ≡ false → same_name b n ≡ false → where_there there (λ x. with_file (with_file f a None) b (Some (bytes x))) f n ≡ f n
moved f a b n bytes None e g = refl
moved f a b n bytes (Some x) e g = with_file_other (with_file f a None) b n (Some (bytes x)) g ∙ with_file_other f a n None e

pub settle_spares : (k : Kind) (d s : ℕ) (bytes : List ℕ) (n : Name) → same_name (Draft k d) n ≡ false → same_name (published k s) n ≡ false → Spares (Did (Settle k d s bytes)) n
settle_spares k d s bytes n e g = change_spares (Settle k d s bytes) n (λ f. moved f (Draft k d) (published k s) n (λ _. bytes) (f (Draft k d)) e g)

pub hide_spares : (s : ℕ) (n : Name) → same_name (Index s) n ≡ false → same_name (Parked s) n ≡ false → Spares (Did (Hide s)) n
hide_spares s n e g = change_spares (Hide s) n (λ f. moved f (Index s) (Parked s) n (λ x. x) (f (Index s)) e g)

-- what is read under a name that a call spares is read after it
pub reads_still : (old new : Option Log) (call : Call) (n : Name) (P : Option (List ℕ) → Type 0) → Spares call n → Reads old n P → Adds old new call → Reads new n P
reads_still old new call n P spares was adds log is =
    let before = known_before old new call log is adds in
    subst P (sym (ap (λ (l : Log). reads l n) before.2 ∙ spares before.0)) (was before.0 before.1)

-- and so after a call that changed nothing
pub reads_looked : (old new : Option Log) (n : Name) (P : Option (List ℕ) → Type 0) → Reads old n P → Looks old new → Reads new n P
reads_looked old new n P was looks =
    ⊎_elim (λ adds. reads_still old new Other n P (other_spares n) was adds) (λ full. λ log is. was log (sym full.1 ∙ is)) looks

-- on an empty shelf each name is free
pub reads_nothing : (n : Name) → reads (log_of [] [] []) n ≡ None
unfolding reads side folder_of
reads_nothing (Block s) = refl
reads_nothing (Index s) = refl
reads_nothing (Parked s) = refl
reads_nothing (Draft kind.Block d) = refl
reads_nothing (Draft kind.Index d) = refl

published_number : (k : Kind) (s : ℕ) → number_of (published k s) ≡ s
published_number kind.Block s = refl
published_number kind.Index s = refl

-- the name of a kind and stamp is one under which a file of that kind is published
pub is_published : (k j : Kind) (s : ℕ) (n : Name) → n ≡ published k s → j ≡ k → IsPublished j n
is_published k j s n e same =
    e ∙ ap (λ (i : Kind). published i s) (sym same) ∙ ap (λ (m : ℕ). published j m) (sym (ap number_of e ∙ published_number k s))
