-- What a shelf in memory keeps, as calls go on.
use Rattle.std.proofs.Common.{◌≡◌, ◌≤◌, ◌<◌, ◌-◌, ◌^◌, ◌&&◌, ℕ, List, [], ◌∷◌, ◌++◌, Option, None, Some, Bool, true, false, length, cond, nat_eq, refl, sym, ◌∙◌, ap, subst, ⊎_elim, arith, option_to_list, MatchOption, Result, Ok, Err, OnOk, OnErr, IfErr}
use Rattle.std.proofs.lemmas.List.{append-nil, take_all}
use Rattle.std.proofs.lemmas.Bool.Decides.{nat_tests}
use Rattle.st_disk.specs.declared.naming.Kind.{Kind}
use Rattle.st_disk.specs.declared.naming.Kind.TheVariants as kind
use Rattle.st_disk.specs.declared.naming.Name.{Name}
use Rattle.st_disk.specs.declared.naming.Name.TheVariants.{Block, Index, Parked, Draft}
use Rattle.st_disk.specs.declared.changes.Change.{Change}
use Rattle.st_disk.specs.declared.changes.Change.TheVariants.{Make, Settle, Hide, Remove}
use Rattle.st_disk.specs.declared.changes.Call.{Call}
use Rattle.st_disk.specs.declared.changes.Call.TheVariants.{Did, Flush, Other}
use Rattle.st_disk.specs.declared.changes.Update.{Update}
use Rattle.st_disk.specs.Names.{same_kind, published, kind_of, by_kind}
use Rattle.st_disk.specs.Folders.{Folder, with_file, update_on, updates_on, folder_of, bare, change_kind, apply, apply_all, where_there, join}
use Rattle.st_disk.specs.Disks.{Log, Side, side, read_of, reads, Leaves, and_then, log_of}
use Rattle.st_disk.specs.Book.{NoDraft, NumbersBelow, MakesBelow, ChangesNothing, IsKept}
use Rattle.st_disk.proofs.Images.{side_then, all_snoc, leaves_did, leaves_flush, leaves_other}
use Rattle.st_disk.proofs.Moments.{since_now, since_then}

updates_snoc : (f : Folder) (ps : List Update) (p : Update) → updates_on f (ps ++ p ∷ []) ≡ update_on (updates_on f ps) p
updates_snoc f [] p = refl
updates_snoc f (q ∷ qs) p = updates_snoc (update_on f q) qs p

pub folder_snoc : (ps : List Update) (p : Update) → folder_of (ps ++ p ∷ []) ≡ update_on (folder_of ps) p
unfolding folder_of
folder_snoc ps p = updates_snoc bare ps p

-- a change, in the folder that it is made in and in the other
abbrev did : Bool → Change → Side → Side
did here c s = cond here (record { flushed = s.flushed; later = s.later ++ c ∷ [] }) s

same_self : (k : Kind) → same_kind k k ≡ true
same_self kind.Block = refl
same_self kind.Index = refl

side_here : (k : Kind) (log : Log) (c : Change) → change_kind c ≡ k → read_of (side k (and_then log (Did c))) ≡ apply c (read_of (side k log))
side_here k log c e =
    ap read_of (side_then k log (Did c))
    ∙ ap (λ (here : Bool). read_of (did here c (side k log))) (ap (λ (j : Kind). same_kind j k) e ∙ same_self k)
    ∙ all_snoc (side k log).later c (side k log).flushed

side_there : (k : Kind) (log : Log) (c : Change) → same_kind (change_kind c) k ≡ false → read_of (side k (and_then log (Did c))) ≡ read_of (side k log)
side_there k log c e = ap read_of (side_then k log (Did c)) ∙ ap (λ (here : Bool). read_of (did here c (side k log))) e

flushed : (b : Bool) (s : Side) → read_of (cond b (record { flushed = apply_all s.later s.flushed; later = [] }) s) ≡ read_of s
flushed true s = refl
flushed false s = refl

side_still : (k : Kind) (log : Log) (call : Call) → ChangesNothing call → read_of (side k (and_then log call)) ≡ read_of (side k log)
side_still k log (Did c) h = elim h [ ]
side_still k log Other h = ap read_of (side_then k log Other)
side_still k log (Flush j) h = ap read_of (side_then k log (Flush j)) ∙ flushed (same_kind j k) (side k log)

-- under a name that isn't with_file there is what was there
kept_with_file : (b : Bool) (v w : Option (List ℕ)) → v ≡ None → w ≡ None → cond b v w ≡ None
kept_with_file true v w e f = e
kept_with_file false v w e f = f

missed : (b : Bool) (v w : Option (List ℕ)) → b ≡ false → w ≡ None → cond b v w ≡ None
missed b v w e f = ap (λ (t : Bool). cond t v w) e ∙ f

no_draft_settled : (n d s : ℕ) (k : Kind) (bytes : List ℕ) (f : Folder) (there : Option (List ℕ)) → NoDraft n f → NoDraft n (where_there there (λ _. with_file (with_file f (Draft k d) None) (published k s) (Some bytes)) f)
no_draft_settled n d s k bytes f None low j e le = low j e le
no_draft_settled n d s kind.Block bytes f (Some x) low j e le = kept_with_file (same_kind kind.Block j && nat_eq d e) None (f (Draft j e)) refl (low j e le)
no_draft_settled n d s kind.Index bytes f (Some x) low j e le = kept_with_file (same_kind kind.Index j && nat_eq d e) None (f (Draft j e)) refl (low j e le)

no_draft_hidden : (n s : ℕ) (f : Folder) (there : Option (List ℕ)) → NoDraft n f → NoDraft n (where_there there (λ bytes. with_file (with_file f (Index s) None) (Parked s) (Some bytes)) f)
no_draft_hidden n s f None low j e le = low j e le
no_draft_hidden n s f (Some x) low j e le = low j e le

not_both : (a b : Bool) → b ≡ false → (a && b) ≡ false
not_both true b h = h
not_both false b h = refl

other_number : (k j : Kind) (d e : ℕ) → d < e → (same_kind k j && nat_eq d e) ≡ false
other_number k j d e lt = not_both (same_kind k j) (nat_eq d e) (grind (arith, nat_tests))

pub no_draft_apply : (n : ℕ) (c : Change) (f : Folder) → MakesBelow n c → NoDraft n f → NoDraft n (apply c f)
no_draft_apply n (Make k d) f below low j e le = missed (same_kind k j && nat_eq d e) (Some []) (f (Draft j e)) (other_number k j d e (omega arith)) (low j e le)
no_draft_apply n (Settle k d s bytes) f below low j e le = no_draft_settled n d s k bytes f (f (Draft k d)) low j e le
no_draft_apply n (Hide s) f below low j e le = no_draft_hidden n s f (f (Index s)) low j e le
no_draft_apply n (Remove (Block s)) f below low j e le = low j e le
no_draft_apply n (Remove (Index s)) f below low j e le = low j e le
no_draft_apply n (Remove (Parked s)) f below low j e le = low j e le
no_draft_apply n (Remove (Draft k d)) f below low j e le = kept_with_file (same_kind k j && nat_eq d e) None (f (Draft j e)) refl (low j e le)

pub numbers_now : (n : ℕ) (log : Log) (f : Folder) → NumbersBelow n log → Leaves log f → NoDraft n f
numbers_now n log f low h = low f (since_now log 0 f (omega arith) h)

higher : (n m : ℕ) (f : Folder) → n ≤ m → NoDraft n f → NoDraft m f
higher n m f le low k d at = low k d (omega arith)

numbers_did : (n m : ℕ) (log : Log) (c : Change) → n ≤ m → MakesBelow m c → NumbersBelow n log → NumbersBelow m (and_then log (Did c))
numbers_did n m log c le below low f since =
    ⊎_elim
    (λ s. higher n m f le (low f s))
    (λ h. let r = leaves_did log c f h in
    let was : NoDraft m r.0 = higher n m r.0 le (numbers_now n log r.0 low r.1) in
    ⊎_elim (λ (e : f ≡ r.0). subst (NoDraft m) (sym e) was) (λ (e : f ≡ apply c r.0). subst (NoDraft m) (sym e) (no_draft_apply m c r.0 below was)) r.2)
    (since_then log (Did c) 0 f since)

numbers_still : (n : ℕ) (log : Log) (call : Call) → ChangesNothing call → NumbersBelow n log → NumbersBelow n (and_then log call)
numbers_still n log (Did c) h low f since = elim h [ ]
numbers_still n log Other h low f since = ⊎_elim (λ s. low f s) (λ h. numbers_now n log f low (leaves_other log f h)) (since_then log Other 0 f since)
numbers_still n log (Flush k) h low f since = ⊎_elim (λ s. low f s) (λ h. numbers_now n log f low (leaves_flush log k f h).0) (since_then log (Flush k) 0 f since)

pub kept_still : (log : Log) (call : Call) (b i : List Update) (n : ℕ) → ChangesNothing call → IsKept log b i n → IsKept (and_then log call) b i n
kept_still log call b i n h kept = record {
  of_blocks = kept.of_blocks ∙ sym (side_still kind.Block log call h);
  of_indexes = kept.of_indexes ∙ sym (side_still kind.Index log call h);
  numbers = numbers_still n log call h kept.numbers;
}

-- after a call that changed nothing, or one that was not noted
pub kept_looked : {E : Type 0} (a b : List Update) (cs ds : List Call) (ps ns : List Update) (n : ℕ) (r : Result (Unit {0}) E) → OnOk r (ds ≡ cs ++ Other ∷ []) → OnErr r ((ds ≡ cs) × (2 ^ 64 - 1 ≤ length cs)) → IsKept (log_of a b cs) ps ns n → IsKept (log_of a b ds) ps ns n
kept_looked {E = E} a b cs ds ps ns n (Ok v) ok err kept = subst (λ (xs : List Call). IsKept (log_of a b xs) ps ns n) (sym ok) (kept_still (log_of a b cs) Other ps ns n tt kept)
kept_looked {E = E} a b cs ds ps ns n (Err e) ok err kept = subst (λ (xs : List Call). IsKept (log_of a b xs) ps ns n) (sym err.0) kept

-- after a flush
pub kept_flushed : (a b : List Update) (k : Kind) (cs ds : List Call) (ps ns : List Update) (n : ℕ) (r : Result (Unit {0}) Call) → OnOk r (ds ≡ cs ++ Flush k ∷ []) → IfErr r (λ c. (c ≡ Flush k) × (ds ≡ cs)) → IsKept (log_of a b cs) ps ns n → IsKept (log_of a b ds) ps ns n
kept_flushed a b k cs ds ps ns n (Ok v) ok err kept = subst (λ (xs : List Call). IsKept (log_of a b xs) ps ns n) (sym ok) (kept_still (log_of a b cs) (Flush k) ps ns n tt kept)
kept_flushed a b k cs ds ps ns n (Err e) ok err kept = subst (λ (xs : List Call). IsKept (log_of a b xs) ps ns n) (sym err.1) kept

pub kept_block : (log : Log) (c : Change) (b d i : List Update) (n m : ℕ) → change_kind c ≡ kind.Block → folder_of d ≡ apply c (folder_of b) → n ≤ m → MakesBelow m c → IsKept log b i n → IsKept (and_then log (Did c)) d i m
kept_block log c b d i n m is done le below kept = record {
  of_blocks = done ∙ ap (apply c) kept.of_blocks ∙ sym (side_here kind.Block log c is);
  of_indexes = kept.of_indexes ∙ sym (side_there kind.Index log c (ap (λ (j : Kind). same_kind j kind.Index) is));
  numbers = numbers_did n m log c le below kept.numbers;
}

pub kept_index : (log : Log) (c : Change) (b i d : List Update) (n m : ℕ) → change_kind c ≡ kind.Index → folder_of d ≡ apply c (folder_of i) → n ≤ m → MakesBelow m c → IsKept log b i n → IsKept (and_then log (Did c)) b d m
kept_index log c b i d n m is done le below kept = record {
  of_blocks = kept.of_blocks ∙ sym (side_there kind.Block log c (ap (λ (j : Kind). same_kind j kind.Block) is));
  of_indexes = done ∙ ap (apply c) kept.of_indexes ∙ sym (side_here kind.Index log c is);
  numbers = numbers_did n m log c le below kept.numbers;
}

pub kept_higher : (log : Log) (b i : List Update) (n m : ℕ) → n ≤ m → IsKept log b i n → IsKept log b i m
kept_higher log b i n m le kept = record { of_blocks = kept.of_blocks; of_indexes = kept.of_indexes; numbers = λ f s. higher n m f le (kept.numbers f s) }

-- the update that a change is, after the others, makes the change
pub update_done : (ps qs : List Update) (o : Option Update) (c : Change) → qs ≡ ps ++ option_to_list o → ((f : Folder) → f ≡ folder_of ps → MatchOption o (apply c f ≡ f) (λ p. apply c f ≡ update_on f p)) → folder_of qs ≡ apply c (folder_of ps)
update_done ps qs None c e is = ap folder_of (e ∙ append-nil ps) ∙ sym (is (folder_of ps) refl)
update_done ps qs (Some p) c e is = ap folder_of e ∙ folder_snoc ps p ∙ sym (is (folder_of ps) refl)

-- what is read under a name of each kind
pub read_block : (log : Log) (b i : List Update) (n : ℕ) (m : Name) → kind_of m ≡ kind.Block → IsKept log b i n → folder_of b m ≡ reads log m
unfolding reads
read_block log b i n m is kept =
    ap (λ (f : Folder). f m) kept.of_blocks ∙ ap (λ (k : Kind). by_kind k (read_of (side kind.Block log) m) (read_of (side kind.Index log) m)) (sym is)

pub read_index : (log : Log) (b i : List Update) (n : ℕ) (m : Name) → kind_of m ≡ kind.Index → IsKept log b i n → folder_of i m ≡ reads log m
unfolding reads
read_index log b i n m is kept =
    ap (λ (f : Folder). f m) kept.of_indexes ∙ ap (λ (k : Kind). by_kind k (read_of (side kind.Block log) m) (read_of (side kind.Index log) m)) (sym is)

with_parts : (b i : List Update) (cs ds : List Call) (ps qs ns ms : List Update) (n : ℕ) → ds ≡ cs → qs ≡ ps → ms ≡ ns → IsKept (log_of b i cs) ps ns n → IsKept (log_of b i ds) qs ms n
with_parts b i cs ds ps qs ns ms n e f g kept =
    subst (λ (xs : List Call). IsKept (log_of b i xs) qs ms n) (sym e) (subst (λ (xs : List Update). IsKept (log_of b i cs) xs ms n) (sym f) (subst (λ (xs : List Update). IsKept (log_of b i cs) ps xs n) (sym g) kept))

-- after a change of the block folder, or one that found no memory
pub recorded_block : (b i : List Update) (cs ds : List Call) (ps qs ns : List Update) (n m : ℕ) (c : Change) (r : Result (Unit {0}) Change) → change_kind c ≡ kind.Block
    → OnOk r (ds ≡ cs ++ Did c ∷ []) → OnOk r (folder_of qs ≡ apply c (folder_of ps)) → IfErr r (λ d. (d ≡ c) × (ds ≡ cs) × (qs ≡ ps))
    → n ≤ m → MakesBelow m c → IsKept (log_of b i cs) ps ns n → IsKept (log_of b i ds) qs ns m
recorded_block b i cs ds ps qs ns n m c (Ok v) is calls updates back le below kept =
    with_parts b i (cs ++ Did c ∷ []) ds qs qs ns ns m calls refl refl (kept_block (log_of b i cs) c ps qs ns n m is updates le below kept)
recorded_block b i cs ds ps qs ns n m c (Err d) is calls updates back le below kept = with_parts b i cs ds ps qs ns ns m back.1 back.2 refl (kept_higher (log_of b i cs) ps ns n m le kept)

-- after a change of the index folder, or one that found no memory
pub recorded_index : (b i : List Update) (cs ds : List Call) (ps ns ms : List Update) (n m : ℕ) (c : Change) (r : Result (Unit {0}) Change) → change_kind c ≡ kind.Index
    → OnOk r (ds ≡ cs ++ Did c ∷ []) → OnOk r (folder_of ms ≡ apply c (folder_of ns)) → IfErr r (λ d. (d ≡ c) × (ds ≡ cs) × (ms ≡ ns))
    → n ≤ m → MakesBelow m c → IsKept (log_of b i cs) ps ns n → IsKept (log_of b i ds) ps ms m
recorded_index b i cs ds ps ns ms n m c (Ok v) is calls updates back le below kept =
    with_parts b i (cs ++ Did c ∷ []) ds ps ps ms ms m calls refl refl (kept_index (log_of b i cs) c ps ns ms n m is updates le below kept)
recorded_index b i cs ds ps ns ms n m c (Err d) is calls updates back le below kept = with_parts b i cs ds ps ps ns ms m back.1 refl back.2 (kept_higher (log_of b i cs) ps ns n m le kept)

bare_draft : (b i : Folder) (k : Kind) (d : ℕ) → b (Draft k d) ≡ None → i (Draft k d) ≡ None → join b i (Draft k d) ≡ None
bare_draft b i kind.Block d e f = e
bare_draft b i kind.Index d e f = f

leaves_bare : (f : Folder) → Leaves (log_of [] [] []) f → (k : Kind) (d : ℕ) → f (Draft k d) ≡ None
unfolding folder_of side Leaves
leaves_bare f h k d =
    ap (λ (g : Folder). g (Draft k d)) h.4 ∙ bare_draft h.0 h.1 k d (ap (λ (g : Folder). g (Draft k d)) h.2) (ap (λ (g : Folder). g (Draft k d)) h.3)

-- nothing is there
kept_bare : IsKept (log_of [] [] []) [] [] 0
unfolding folder_of side
kept_bare = record {
  of_blocks = refl;
  of_indexes = refl;
  numbers = λ f s k d le. leaves_bare f (subst (λ (cs : List Call). Leaves (log_of [] [] cs) f) (take_all s.0 [] (omega arith)) s.3) k d;
}

pub makes_higher : (n m : ℕ) (c : Change) → n ≤ m → MakesBelow n c → MakesBelow m c
makes_higher n m (Make k d) le lt = omega arith
makes_higher n m (Settle k d s bytes) le h = h
makes_higher n m (Hide s) le h = h
makes_higher n m (Remove x) le h = h

pub kept_nothing : (a b : List Update) (cs : List Call) (ps ns : List Update) → a ≡ [] → b ≡ [] → cs ≡ [] → ps ≡ [] → ns ≡ [] → IsKept (log_of a b cs) ps ns 0
kept_nothing a b cs ps ns e f g h k =
    subst (λ (xs : List Update). IsKept (log_of xs b cs) ps ns 0) (sym e) (subst (λ (xs : List Update). IsKept (log_of [] xs cs) ps ns 0) (sym f) (with_parts [] [] [] cs [] ps [] ns 0 g h k kept_bare))

pub update_done_ok : {E : Type 0} (r : Result (Unit {0}) E) (ps qs : List Update) (o : Option Update) (c : Change) → OnOk r (qs ≡ ps ++ option_to_list o) → ((f : Folder) → f ≡ folder_of ps → MatchOption o (apply c f ≡ f) (λ p. apply c f ≡ update_on f p))
    → OnOk r (folder_of qs ≡ apply c (folder_of ps))
update_done_ok {E = E} (Ok v) ps qs o c e is = update_done ps qs o c e is
update_done_ok {E = E} (Err x) ps qs o c e is = e
