-- Changes that keep the rows.
use Rattle.std.proofs.Common.{◌≡◌, ℕ, List, Option, None, Some, Bool, true, false, cond, nat_eq, refl, sym, ap, subst, arith}
use Rattle.std.proofs.lemmas.Bool.Decides.{nat_tests}
use Rattle.st_disk.specs.declared.naming.Kind.{Kind}
use Rattle.st_disk.specs.declared.naming.Kind.TheVariants as kind
use Rattle.st_disk.specs.declared.naming.Name.TheVariants.{Block, Index, Parked, Draft}
use Rattle.st_disk.specs.declared.changes.Change.TheVariants.{Make, Settle, Hide, Remove}
use Rattle.st_disk.specs.Folders.{Folder, with_file, where_there, apply}
use Rattle.st_spool.specs.Rows.{Row, Past, Fits, Has, set_row}

pub by_test : (b : Bool) (P : Bool → Type 0) → (b ≡ true → P true) → (b ≡ false → P false) → P b
by_test true P if_so if_not = if_so refl
by_test false P if_so if_not = if_not refl

pub is_same : (t s : ℕ) → nat_eq t s ≡ true → t ≡ s
is_same t s e = grind (arith, nat_tests)

pub same_here : (t : ℕ) → nat_eq t t ≡ true
same_here t = grind (arith, nat_tests)

-- the row of the stamp that was set
pub row_here : (rows : ℕ → Row) (t : ℕ) (r : Row) → set_row rows t r t ≡ r
row_here rows t r = ap (λ (b : Bool). cond b r (rows t)) (same_here t)

-- a folder that has one stamp more in doubt
pub set_has : (rows : ℕ → Row) (t : ℕ) (r : Row) (c : Folder) → ((s : ℕ) → nat_eq t s ≡ false → Fits (rows s) (c (Block s)) (c (Index s)) (c (Parked s))) → Fits r (c (Block t)) (c (Index t)) (c (Parked t)) → Has (set_row rows t r) c
set_has rows t r c others here s =
    by_test (nat_eq t s) (λ b. Fits (cond b r (rows s)) (c (Block s)) (c (Index s)) (c (Parked s)))
    (λ e. subst (λ (q : ℕ). Fits r (c (Block q)) (c (Index q)) (c (Parked q))) (is_same t s e) here)
    (λ e. others s e)

-- of a folder with rows of which one is set
pub has_here : (rows : ℕ → Row) (t : ℕ) (r : Row) (c : Folder) → Has (set_row rows t r) c → Fits r (c (Block t)) (c (Index t)) (c (Parked t))
has_here rows t r c h = subst (λ (q : Row). Fits q (c (Block t)) (c (Index t)) (c (Parked t))) (row_here rows t r) (h t)

pub has_other : (rows : ℕ → Row) (t : ℕ) (r : Row) (c : Folder) → Has (set_row rows t r) c → (s : ℕ) → nat_eq t s ≡ false → Fits (rows s) (c (Block s)) (c (Index s)) (c (Parked s))
has_other rows t r c h s e = subst (λ (b : Bool). Fits (cond b r (rows s)) (c (Block s)) (c (Index s)) (c (Parked s))) e (h s)

-- one row for another that allows more
pub widen : (rows : ℕ → Row) (t : ℕ) (q r : Row) → ((b i p : Option (List ℕ)) → Fits q b i p → Fits r b i p) → (c : Folder) → Has (set_row rows t q) c → Has (set_row rows t r) c
widen rows t q r more c h = set_has rows t r c (has_other rows t q c h) (more (c (Block t)) (c (Index t)) (c (Parked t)) (has_here rows t q c h))

pub widen_from : (rows : ℕ → Row) (t : ℕ) (q r : Row) → rows t ≡ q → ((b i p : Option (List ℕ)) → Fits q b i p → Fits r b i p) → (c : Folder) → Has rows c → Has (set_row rows t r) c
widen_from rows t q r is more c h =
    set_has rows t r c (λ s e. h s) (more (c (Block t)) (c (Index t)) (c (Parked t)) (subst (λ (x : Row). Fits x (c (Block t)) (c (Index t)) (c (Parked t))) is (h t)))

settled_index : (r : Row) (there : Option (List ℕ)) (c : Folder) (d t s : ℕ) (bytes : List ℕ) → Fits r (c (Block s)) (c (Index s)) (c (Parked s)) → (t ≡ s → Fits r (c (Block s)) (Some bytes) (c (Parked s)))
    → let g = where_there there (λ _. with_file (with_file c (Draft kind.Index d) None) (Index t) (Some bytes)) c in Fits r (g (Block s)) (g (Index s)) (g (Parked s))
settled_index r None c d t s bytes old new = old
settled_index r (Some x) c d t s bytes old new = by_test (nat_eq t s) (λ b. Fits r (c (Block s)) (cond b (Some bytes) (c (Index s))) (c (Parked s))) (λ e. new (is_same t s e)) (λ e. old)

settled_block : (r : Row) (there : Option (List ℕ)) (c : Folder) (d t s : ℕ) (bytes : List ℕ) → Fits r (c (Block s)) (c (Index s)) (c (Parked s)) → (t ≡ s → Fits r (Some bytes) (c (Index s)) (c (Parked s)))
    → let g = where_there there (λ _. with_file (with_file c (Draft kind.Block d) None) (Block t) (Some bytes)) c in Fits r (g (Block s)) (g (Index s)) (g (Parked s))
settled_block r None c d t s bytes old new = old
settled_block r (Some x) c d t s bytes old new = by_test (nat_eq t s) (λ b. Fits r (cond b (Some bytes) (c (Block s))) (c (Index s)) (c (Parked s))) (λ e. new (is_same t s e)) (λ e. old)

-- an index is settled that its row allows
pub index_keeps : (rows : ℕ → Row) (d t : ℕ) (bytes : List ℕ) → ((b i p : Option (List ℕ)) → Fits (rows t) b i p → Fits (rows t) b (Some bytes) p) → (c : Folder) → Has rows c → Has rows (apply (Settle kind.Index d t bytes) c)
index_keeps rows d t bytes takes c h s =
    settled_index (rows s) (c (Draft kind.Index d)) c d t s bytes (h s) (λ e. subst (λ (q : ℕ). Fits (rows q) (c (Block q)) (Some bytes) (c (Parked q))) e (takes (c (Block t)) (c (Index t)) (c (Parked t)) (h t)))

pub block_keeps : (rows : ℕ → Row) (d t : ℕ) (bytes : List ℕ) → ((b i p : Option (List ℕ)) → Fits (rows t) b i p → Fits (rows t) (Some bytes) i p) → (c : Folder) → Has rows c → Has rows (apply (Settle kind.Block d t bytes) c)
block_keeps rows d t bytes takes c h s =
    settled_block (rows s) (c (Draft kind.Block d)) c d t s bytes (h s) (λ e. subst (λ (q : ℕ). Fits (rows q) (Some bytes) (c (Index q)) (c (Parked q))) e (takes (c (Block t)) (c (Index t)) (c (Parked t)) (h t)))

pub draft_keeps : (rows : ℕ → Row) (k : Kind) (d : ℕ) (c : Folder) → Has rows c → Has rows (apply (Remove (Draft k d)) c)
draft_keeps rows k d c h s = h s

pub make_keeps : (rows : ℕ → Row) (k : Kind) (d : ℕ) (c : Folder) → Has rows c → Has rows (apply (Make k d) c)
make_keeps rows k d c h s = h s

hidden : (r : Row) (there : Option (List ℕ)) (c : Folder) (t s : ℕ) → Fits r (c (Block s)) (c (Index s)) (c (Parked s)) → (t ≡ s → (x : List ℕ) → there ≡ Some x → Fits r (c (Block s)) None (Some x))
    → let g = where_there there (λ x. with_file (with_file c (Index t) None) (Parked t) (Some x)) c in Fits r (g (Block s)) (g (Index s)) (g (Parked s))
hidden r None c t s old new = old
hidden r (Some x) c t s old new = by_test (nat_eq t s) (λ b. Fits r (c (Block s)) (cond b None (c (Index s))) (cond b (Some x) (c (Parked s)))) (λ e. new (is_same t s e) x refl) (λ e. old)

-- an index is parked where its row allows both
pub hide_keeps : (rows : ℕ → Row) (t : ℕ) → ((b p : Option (List ℕ)) (x : List ℕ) → Fits (rows t) b (Some x) p → Fits (rows t) b None (Some x)) → (c : Folder) → Has rows c → Has rows (apply (Hide t) c)
hide_keeps rows t takes c h s =
    hidden (rows s) (c (Index t)) c t s (h s)
    (λ e x there. subst (λ (q : ℕ). Fits (rows q) (c (Block q)) None (Some x)) e (takes (c (Block t)) (c (Parked t)) x (subst (λ (o : Option (List ℕ)). Fits (rows t) (c (Block t)) o (c (Parked t))) there (h t))))

-- of a pair that is past the block and the parked index may be removed
pub past_block : (rows : ℕ → Row) (t : ℕ) → rows t ≡ Past → (c : Folder) → Has rows c → Has rows (apply (Remove (Block t)) c)
past_block rows t past c h s =
    by_test (nat_eq t s) (λ b. Fits (rows s) (cond b None (c (Block s))) (c (Index s)) (c (Parked s)))
    (λ e. subst (λ (q : ℕ). Fits (rows q) None (c (Index q)) (c (Parked q))) (is_same t s e) (subst (λ (r : Row). Fits r None (c (Index t)) (c (Parked t))) (sym past) (subst (λ (r : Row). Fits r (c (Block t)) (c (Index t)) (c (Parked t))) past (h t)))) (λ e. h s)

pub past_parked : (rows : ℕ → Row) (t : ℕ) → rows t ≡ Past → (c : Folder) → Has rows c → Has rows (apply (Remove (Parked t)) c)
past_parked rows t past c h s =
    by_test (nat_eq t s) (λ b. Fits (rows s) (c (Block s)) (c (Index s)) (cond b None (c (Parked s))))
    (λ e. subst (λ (q : ℕ). Fits (rows q) (c (Block q)) (c (Index q)) None) (is_same t s e) (subst (λ (r : Row). Fits r (c (Block t)) (c (Index t)) None) (sym past) (subst (λ (r : Row). Fits r (c (Block t)) (c (Index t)) (c (Parked t))) past (h t)))) (λ e. h s)
