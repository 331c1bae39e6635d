-- A run of calls, one call after the other, whether it succeeded or not.
use Rattle.std.proofs.Common.{◌≡◌, ◌≤◌, ◌+◌, ℕ, List, [], ◌∷◌, ◌++◌, length, take, Option, None, Some, Result, Ok, Err, refl, sym, ◌∙◌, ap, subst, inl, inr, ⊎_elim, arith, length-append, append_assoc}
use Rattle.std.proofs.lemmas.List.{take_all, append-nil, take-append-le}
use Rattle.st_disk.specs.declared.naming.Kind.{Kind}
use Rattle.st_disk.specs.declared.naming.Kind.TheVariants as kind
use Rattle.st_disk.specs.declared.naming.Name.{Name}
use Rattle.st_disk.specs.declared.naming.Name.TheVariants.{Index}
use Rattle.st_disk.specs.declared.changes.Change.{Change}
use Rattle.st_disk.specs.declared.changes.Change.TheVariants as change
use Rattle.st_disk.specs.declared.changes.Call.{Call}
use Rattle.st_disk.specs.declared.changes.Call.TheVariants.{Did, Flush, Other}
use Rattle.st_disk.specs.Names.{kind_of}
use Rattle.st_disk.specs.Folders.{Folder, apply, where_there, given}
use Rattle.st_disk.specs.Disks.{Log, Grew, reads, Leaves, and_then, moment, at_moment, Since, log_of}
use Rattle.st_disk.specs.Events.{Event, Publish, Remove, call_events, events}
use Rattle.st_disk.specs.LoggedCalls.{Adds, Looks, Does, removal, Abandons, Reads, KnownBefore}
use Rattle.st_disk.specs.Runs.{Each, LeavesOnly, Ran}
use Rattle.st_disk.proofs.Images.{leaves_did, leaves_flush, leaves_other}
use Rattle.st_disk.proofs.Eventful.{events_then}
use Rattle.st_disk.proofs.Moments.{since_then}

-- a log is itself with no call more
pub grew_none : (log : Log) → Grew log log
grew_none log = record { blocks = refl; indexes = refl; more = []; calls = sym (append-nil log.calls) }

pub grew_call : (old mid : Log) (call : Call) → Grew old mid → Grew old (and_then mid call)
grew_call old mid call grew = record {
  blocks = grew.blocks;
  indexes = grew.indexes;
  more = grew.more ++ call ∷ [];
  calls = ap (λ (cs : List Call). cs ++ call ∷ []) grew.calls ∙ append_assoc old.calls grew.more (call ∷ []);
}

pub grew_then : (a b c : Log) → Grew a b → Grew b c → Grew a c
grew_then a b c one two = record {
  blocks = two.blocks ∙ one.blocks;
  indexes = two.indexes ∙ one.indexes;
  more = one.more ++ two.more;
  calls = two.calls ∙ ap (λ (cs : List Call). cs ++ two.more) one.calls ∙ append_assoc a.calls one.more two.more;
}

-- at the moments of a log a later one is the same
pub grew_moment : (m : ℕ) (old new : Log) → m ≤ moment old → Grew old new → at_moment m new ≡ at_moment m old
grew_moment m old new le grew =
    let calls : take m new.calls ≡ take m old.calls = ap (take m) grew.calls ∙ take-append-le m old.calls grew.more le in
    λ i. log_of (grew.blocks i) (grew.indexes i) (calls i)

pub grew_later : (old new : Log) → Grew old new → moment old ≤ moment new
grew_later old new grew = let longer : length new.calls ≡ length old.calls + length grew.more = ap length grew.calls ∙ length-append old.calls grew.more in omega arith

-- since now there is no moment but now
pub since_only_now : (log : Log) (c : Folder) → Since log (moment log) c → Leaves log c
since_only_now log c s = subst (λ (cs : List Call). Leaves (log_of log.start_blocks log.start_indexes cs) c) (take_all s.0 log.calls s.1) s.3

-- before the first call
pub started : (log : Log) (P : Folder → Type 0) → Each log P → LeavesOnly log log P
started log P here = record { grew = grew_none log; later = omega arith; since = λ c s. here c (since_only_now log c s); before = λ t c le s. inl s }

-- one call more
pub goes_on : (old mid : Log) (call : Call) (P : Folder → Type 0) → LeavesOnly old mid P → Each (and_then mid call) P → LeavesOnly old (and_then mid call) P
goes_on old mid call P so_far here = record {
  grew = grew_call old mid call so_far.grew;
  later = let longer : length (mid.calls ++ call ∷ []) ≡ length mid.calls + 1 = length-append mid.calls (call ∷ []) in let was : length old.calls ≤ length mid.calls = so_far.later in omega arith;
  since = λ c s. ⊎_elim (λ was. so_far.since c was) (λ now. here c now) (since_then mid call (moment old) c s);
  before = λ t c le s. ⊎_elim (λ was. so_far.before t c le was) (λ now. inr (here c now)) (since_then mid call t c s);
}

pub weaken : (old new : Log) (P S : Folder → Type 0) → ((c : Folder) → P c → S c) → LeavesOnly old new P → LeavesOnly old new S
weaken old new P S gives only = record {
  grew = only.grew;
  later = only.later;
  since = λ c s. gives c (only.since c s);
  before = λ t c le s. ⊎_elim (λ was. inl was) (λ has. inr (gives c has)) (only.before t c le s);
}

-- calls after calls
pub only_then : (a b c : Log) (P : Folder → Type 0) → LeavesOnly a b P → LeavesOnly b c P → LeavesOnly a c P
only_then a b c P one two = record {
  grew = grew_then a b c one.grew two.grew;
  later = let x : length a.calls ≤ length b.calls = one.later in let y : length b.calls ≤ length c.calls = two.later in omega arith;
  since = λ f s. ⊎_elim (λ was. one.since f was) (λ has. has) (two.before (moment a) f one.later s);
  before = λ t f le s. ⊎_elim (λ was. one.before t f le was) (λ has. inr has) (two.before t f (let x : length a.calls ≤ length b.calls = one.later in omega arith) s);
}

-- what a call adds to a log that is known
pub adds_known : (old new : Option Log) (log : Log) (call : Call) → old ≡ Some log → Adds old new call → new ≡ Some (and_then log call)
adds_known old new log call is adds = subst (λ (o : Option Log). Adds o new call) is adds

-- a log that is known now was known before
pub known_before : (old new : Option Log) (call : Call) (now : Log) → new ≡ Some now → Adds old new call → (log : Log) × (old ≡ Some log) × (now ≡ and_then log call)
known_before None new call now is adds = absurd (cc)
known_before (Some log) new call now is adds = (log, refl, cc)

pub known_adds : (old new : Option Log) (call : Call) → Adds old new call → KnownBefore old new
known_adds old new call adds log is = let was = known_before old new call log is adds in (was.0, was.1, subst (λ (l : Log). Grew was.0 l) (sym was.2) (grew_call was.0 was.0 call (grew_none was.0)))

pub known_looks : (old new : Option Log) → Looks old new → KnownBefore old new
known_looks old new looks = ⊎_elim (λ adds. known_adds old new Other adds) (λ full. λ log is. (log, sym full.1 ∙ is, grew_none log)) looks

pub known_does : {T E : Type 0} (old new : Option Log) (r : Result T E) (call : Call) → Does old new r (λ _. call) → KnownBefore old new
known_does {T = T} {E = E} old new (Ok v) call does = known_adds old new call does
known_does {T = T} {E = E} old new (Err e) call does = known_looks old new does

pub known_then : (a b c : Option Log) → KnownBefore a b → KnownBefore b c → KnownBefore a c
known_then a b c one two log is = let mid = two log is in let was = one mid.0 mid.1 in (was.0, was.1, grew_then was.0 mid.0 log was.2 mid.2)

-- each image after a call
pub each_other : (Q : Folder → Type 0) (log : Log) → Each log Q → Each (and_then log Other) Q
each_other Q log each c h = each c (leaves_other log c h)

pub each_flush : (Q : Folder → Type 0) (k : Kind) (log : Log) → Each log Q → Each (and_then log (Flush k)) Q
each_flush Q k log each c h = each c (leaves_flush log k c h).0

pub each_did : (Q : Folder → Type 0) (ch : Change) → ((c : Folder) → Q c → Q (apply ch c)) → (log : Log) → Each log Q → Each (and_then log (Did ch)) Q
each_did Q ch keeps log each c h =
    let r = leaves_did log ch c h in
    let was = each r.0 r.1 in
    ⊎_elim (λ (e : c ≡ r.0). subst Q (sym e) was) (λ (e : c ≡ apply ch r.0). subst Q (sym e) (keeps r.0 was)) r.2

-- a change after which an image may have something else
pub each_new : (Q T : Folder → Type 0) (ch : Change) → ((c : Folder) → Q c → T c) → ((c : Folder) → Q c → T (apply ch c)) → (log : Log) → Each log Q → Each (and_then log (Did ch)) T
each_new Q T ch without with_it log each c h =
    let r = leaves_did log ch c h in
    let was = each r.0 r.1 in
    ⊎_elim (λ (e : c ≡ r.0). subst T (sym e) (without r.0 was)) (λ (e : c ≡ apply ch r.0). subst T (sym e) (with_it r.0 was)) r.2

-- before the first call of a run
pub ran_start : (first : Log) (known : Option Log) (P Q : Folder → Type 0) → known ≡ Some first → ((c : Folder) → Q c → P c) → Each first Q → Ran first known [] P Q
ran_start first known P Q is gives each = record {
  log = first;
  is = is;
  only = started first P (λ c h. gives c (each c h));
  each = each;
  past = sym (append-nil (events first));
}

-- one call more, which does this to the pairs
pub ran_adds : (first : Log) (old new : Option Log) (es fs : List Event) (P Q T : Folder → Type 0) (call : Call) → ((c : Folder) → T c → P c)
    → ((log : Log) → old ≡ Some log → Each log Q → Each (and_then log call) T) → ((log : Log) → old ≡ Some log → call_events (reads log) call ≡ fs)
    → Ran first old es P Q → Adds old new call → Ran first new (es ++ fs) P T
ran_adds first old new es fs P Q T call gives keeps does run adds =
    let each = keeps run.log run.is run.each in
    record {
      log = and_then run.log call;
      is = adds_known old new run.log call run.is adds;
      only = goes_on first run.log call P run.only (λ c h. gives c (each c h));
      each = each;
      past = events_then run.log call ∙ ap (λ (xs : List Event). events run.log ++ xs) (does run.log run.is) ∙ ap (λ (xs : List Event). xs ++ fs) run.past ∙ append_assoc (events first) es fs;
    }

-- what each image has is less than was said
pub ran_widen : (first : Log) (known : Option Log) (es : List Event) (P Q S T : Folder → Type 0) → ((c : Folder) → P c → S c) → ((c : Folder) → Q c → T c) → Ran first known es P Q → Ran first known es S T
ran_widen first known es P Q S T wider now run = record {
  log = run.log;
  is = run.is;
  only = weaken first run.log P S wider run.only;
  each = λ c h. now c (run.each c h);
  past = run.past;
}

-- a run after a run
pub ran_then : (first : Log) (mid new : Option Log) (es fs : List Event) (P Q T : Folder → Type 0) (one : Ran first mid es P Q) → Ran one.log new fs P T → Ran first new (es ++ fs) P T
ran_then first mid new es fs P Q T one two = record {
  log = two.log;
  is = two.is;
  only = only_then first one.log two.log P one.only two.only;
  each = two.each;
  past = two.past ∙ ap (λ (xs : List Event). xs ++ fs) one.past ∙ append_assoc (events first) es fs;
}

-- a call that does nothing to the pairs, whatever is read
abbrev pub IsQuiet : Call → Type 0
IsQuiet call = (f : Folder) → call_events f call ≡ []

pub quiet_remove : (n : Name) → IsQuiet (Did (change.Remove n))
quiet_remove n f = refl

quiet_removal : (n : Name) (there : Option (List ℕ)) → IsQuiet (where_there there (λ _. Did (change.Remove n)) Other)
quiet_removal n None f = refl
quiet_removal n (Some x) f = refl

each_removal : (Q : Folder → Type 0) (n : Name) (there : Option (List ℕ)) → ((c : Folder) → Q c → Q (apply (change.Remove n) c)) → (log : Log) → Each log Q → Each (and_then log (where_there there (λ _. Did (change.Remove n)) Other)) Q
each_removal Q n None keeps log each = each_other Q log each
each_removal Q n (Some x) keeps log each = each_did Q (change.Remove n) keeps log each

module _ (first : Log) (old new : Option Log) (es : List Event) (P Q : Folder → Type 0) where
  pub ran_quiet : (T : Folder → Type 0) (call : Call) → IsQuiet call → ((c : Folder) → T c → P c) → ((log : Log) → old ≡ Some log → Each log Q → Each (and_then log call) T) → Ran first old es P Q → Adds old new call → Ran first new es P T
  ran_quiet T call quiet gives keeps run adds =
      subst (λ (xs : List Event). Ran first new xs P T) (append-nil es) (ran_adds first old new es [] P Q T call gives keeps (λ log e. quiet (reads log)) run adds)

  -- a flush pins what is read: of each image the files of its folder are now those that are read
  pub ran_flushed : (T : Folder → Type 0) (k : Kind) → ((c : Folder) → T c → P c) → ((log : Log) → old ≡ Some log → (c : Folder) → Q c → ((n : Name) → kind_of n ≡ k → c n ≡ reads log n) → T c) → Ran first old es P Q → Adds old new (Flush k) → Ran first new es P T
  ran_flushed T k gives pins run adds =
      ran_quiet T (Flush k) (λ f. refl) gives (λ log e each c h. let r = leaves_flush log k c h in pins log e c (each c r.0) r.1) run adds

  module _ (gives : (c : Folder) → Q c → P c) where
    pub ran_looks : Ran first old es P Q → Looks old new → Ran first new es P Q
    ran_looks run looks = ⊎_elim (λ adds. ran_quiet Q Other (λ f. refl) gives (λ log e each. each_other Q log each) run adds) (λ full. subst (λ (o : Option Log). Ran first o es P Q) (sym full.1) run) looks

    -- whether the call succeeded or not
    pub ran_does : {T E : Type 0} (r : Result T E) (call : Call) → IsQuiet call → ((log : Log) → Each log Q → Each (and_then log call) Q) → Ran first old es P Q → Does old new r (λ _. call) → Ran first new es P Q
    ran_does {T = T} {E = E} (Ok v) call quiet keeps run does = ran_quiet Q call quiet gives (λ log e each. keeps log each) run does
    ran_does {T = T} {E = E} (Err e) call quiet keeps run does = ran_looks run does

    pub ran_flush : {T E : Type 0} (r : Result T E) (k : Kind) → Ran first old es P Q → Does old new r (λ _. Flush k) → Ran first new es P Q
    ran_flush r k run does = ran_does r (Flush k) (λ f. refl) (each_flush Q k) run does

    pub ran_change : {T E : Type 0} (r : Result T E) (ch : Change) → IsQuiet (Did ch) → ((c : Folder) → Q c → Q (apply ch c)) → Ran first old es P Q → Does old new r (λ _. Did ch) → Ran first new es P Q
    ran_change r ch quiet keeps run does = ran_does r (Did ch) quiet (each_did Q ch keeps) run does

    pub ran_other : {T E : Type 0} (r : Result T E) → Ran first old es P Q → Does old new r (λ _. Other) → Ran first new es P Q
    ran_other r run does = ran_does r Other (λ f. refl) (each_other Q) run does

    -- a removal, of a name that is there or not
    pub ran_removal : {T E : Type 0} (r : Result T E) (n : Name) → ((c : Folder) → Q c → Q (apply (change.Remove n) c)) → Ran first old es P Q → Does old new r (λ _. removal old n) → Ran first new es P Q
    ran_removal r n keeps run does =
        let is : (λ (o : Option Log). removal o n) old ≡ removal (Some run.log) n = ap (λ (o : Option Log). removal o n) run.is in
        let there = reads run.log n in
        ran_does r (removal (Some run.log) n) (quiet_removal n there) (each_removal Q n there keeps) run (subst (λ (call : Call). Does old new r (λ _. call)) is does)

    pub ran_abandon : (n : Name) (own before now : ℕ) → ((c : Folder) → Q c → Q (apply (change.Remove n) c)) → Ran first old es P Q → Abandons old new n own before now → Ran first new es P Q
    ran_abandon n own before now keeps run abandons =
        let is : removal old n ≡ removal (Some run.log) n = ap (λ (o : Option Log). removal o n) run.is in
        let there = reads run.log n in
        ⊎_elim
        (λ adds. ran_quiet Q (removal (Some run.log) n) (quiet_removal n there) gives (λ log e each. each_removal Q n there keeps log each) run (subst (λ (call : Call). Adds old new call) is adds.0))
        (λ looks. ran_looks run looks.0)
        abandons

  -- a block that is settled publishes the pair of its stamp, with the index that is read
  pub ran_published : (T : Folder → Type 0) (d s : ℕ) (block index : List ℕ) → ((c : Folder) → T c → P c) → ((c : Folder) → Q c → T c) → ((c : Folder) → Q c → T (apply (change.Settle kind.Block d s block) c))
      → Reads old (Index s) (λ v. v ≡ Some index) → Ran first old es P Q → Adds old new (Did (change.Settle kind.Block d s block)) → Ran first new (es ++ Publish (record { stamp = s; block = block; index = index }) ∷ []) P T
  ran_published T d s block index gives without with_it there run adds =
      let ch = change.Settle kind.Block d s block in
      ran_adds first old new es (Publish (record { stamp = s; block = block; index = index }) ∷ []) P Q T (Did ch) gives (λ log e each. each_new Q T ch without with_it log each)
      (λ log e. ap (λ (o : Option (List ℕ)). Publish (record { stamp = s; block = block; index = given o }) ∷ []) (there log e)) run adds

  -- an index that is hidden removes the pair of its stamp
  pub ran_hidden : (T : Folder → Type 0) (s : ℕ) → ((c : Folder) → T c → P c) → ((c : Folder) → Q c → T c) → ((c : Folder) → Q c → T (apply (change.Hide s) c)) → Ran first old es P Q → Adds old new (Did (change.Hide s)) → Ran first new (es ++ Remove s ∷ []) P T
  ran_hidden T s gives without with_it run adds =
      let ch = change.Hide s in
      ran_adds first old new es (Remove s ∷ []) P Q T (Did ch) gives (λ log e each. each_new Q T ch without with_it log each) (λ log e. refl) run adds
