-- What is read under the names of an event in doubt.
use Rattle.std.proofs.Common.{◌≡◌, ◌⊎◌, ℕ, List, Option, None, Some, refl, sym, ◌∙◌, ap, inl, inr, ⊎_elim}
use Rattle.std.specs.Bool.{⊤}
use Rattle.st_disk.specs.declared.naming.Name.{Name}
use Rattle.st_disk.specs.declared.naming.Name.TheVariants.{Block, Index, Parked}
use Rattle.st_disk.specs.Folders.{Folder}
use Rattle.st_disk.specs.Disks.{Log, reads}
use Rattle.st_disk.specs.LoggedCalls.{Reads}
use Rattle.st_disk.specs.Pairs.{Files}
use Rattle.st_disk.proofs.Reading.{known_log}
use Rattle.st_spool.specs.Rows.{Row, Coming, Pair, Going, Held, Has}
use Rattle.st_spool.specs.States.{with_doubt, with_read}
use Rattle.st_spool.specs.declared.state.Doubt.{Doubt}
use Rattle.st_spool.specs.declared.state.Doubt.TheVariants.{Nothing, Unsettled, Settled, Unhidden, Hidden}
use Rattle.st_spool.proofs.Keeping.{set_has, has_here, has_other}

-- what a call has settled or hidden is read so, though a crash may leave it or not
abbrev pub IsRead : Doubt → Files → Folder → Type 0
IsRead Nothing f c = ⊤
IsRead (Unsettled t) f c = ⊤
IsRead (Settled t) f c = (c (Block t) ≡ Some f.block) × (c (Index t) ≡ Some f.index)
IsRead (Unhidden t) f c = ⊤
IsRead (Hidden t) f c = c (Index t) ≡ None

-- the names of which that speaks
abbrev pub IsDoubted : Doubt → Name → Type 0
IsDoubted Nothing n = ⊥
IsDoubted (Unsettled t) n = ⊥
IsDoubted (Settled t) n = (n ≡ Block t) ⊎ (n ≡ Index t)
IsDoubted (Unhidden t) n = ⊥
IsDoubted (Hidden t) n = n ≡ Index t

-- what is read under these names stays
abbrev pub KeepsRead : Doubt → Option Log → Option Log → Type 0
KeepsRead d old new = (n : Name) (v : Option (List ℕ)) → IsDoubted d n → Reads old n (λ x. x ≡ v) → Reads new n (λ x. x ≡ v)

not_there : (x : List ℕ) → ◌≡◌ {A = Option (List ℕ)} (Some x) None → ⊥
not_there x e = cc

pub read_rows_of : (d : Doubt) (f : Files) (rows : ℕ → Row) (c : Folder) → Has (with_doubt d f rows) c → IsRead d f c → Has (with_read d f rows) c
read_rows_of Nothing f rows c has is = has
read_rows_of (Unsettled t) f rows c has is = has
read_rows_of (Settled t) f rows c has is = set_has rows t (Pair f) c (has_other rows t (Coming f) c has) (is.0, is.1, (has_here rows t (Coming f) c has).2)
read_rows_of (Unhidden t) f rows c has is = has
read_rows_of (Hidden t) f rows c has is =
    let here = has_here rows t (Going f) c has in
    set_has rows t (Held f) c (has_other rows t (Going f) c has)
    (here.0, is, ⊎_elim (λ (q : (c (Index t) ≡ Some f.index) × (c (Parked t) ≡ None)). absurd (not_there f.index (sym q.0 ∙ is))) (λ (q : (c (Index t) ≡ None) × (c (Parked t) ≡ Some f.index)). q.1) here.1)

pub is_read_of : (d : Doubt) (f : Files) (rows : ℕ → Row) (c : Folder) → Has (with_read d f rows) c → IsRead d f c
is_read_of Nothing f rows c has = tt
is_read_of (Unsettled t) f rows c has = tt
is_read_of (Settled t) f rows c has = let here = has_here rows t (Pair f) c has in (here.0, here.1)
is_read_of (Unhidden t) f rows c has = tt
is_read_of (Hidden t) f rows c has = (has_here rows t (Held f) c has).1

of_log : (l : Log) (old : Option Log) (n : Name) (v : Option (List ℕ)) → old ≡ Some l → reads l n ≡ v → Reads old n (λ x. x ≡ v)
of_log l old n v is read g known = ap (λ (x : Log). reads x n) (known_log g l (sym known ∙ is)) ∙ read

pub still_read : (d : Doubt) (f : Files) (old new : Option Log) (l m : Log) → old ≡ Some l → new ≡ Some m → KeepsRead d old new → IsRead d f (reads l) → IsRead d f (reads m)
still_read Nothing f old new l m is now keeps h = tt
still_read (Unsettled t) f old new l m is now keeps h = tt
still_read (Settled t) f old new l m is now keeps h = (
  keeps (Block t) (Some f.block) (inl refl) (of_log l old (Block t) (Some f.block) is h.0) m now,
  keeps (Index t) (Some f.index) (inr refl) (of_log l old (Index t) (Some f.index) is h.1) m now,
)
still_read (Unhidden t) f old new l m is now keeps h = tt
still_read (Hidden t) f old new l m is now keeps h = keeps (Index t) None refl (of_log l old (Index t) None is h) m now
