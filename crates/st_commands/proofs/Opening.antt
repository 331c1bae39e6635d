-- A command that could not open its spool, and the set that a query asks of a spool that was opened
-- just now.
use Rattle.std.proofs.Common.{◌≡◌, ◌≤◌, ℕ, List, [], ◌∷◌, ◌++◌, length, Option, Some, refl, sym, ◌∙◌, ap, subst, inl, inr, ◌⊎◌, append-nil, arith}
use Rattle.std.specs.Prelude.{option_map, Result}
use Rattle.std.proofs.KnownBytes.{Appends-nil}
use Rattle.std.proofs.lemmas.List.{length-append}
use Rattle.st_disk.specs.Disks.{Log, reads}
use Rattle.st_disk.specs.Events.{Event, Found, events}
use Rattle.st_disk.specs.Pairs.{Entry, Files, PairsIn}
use Rattle.st_disk.proofs.OneSet.{one_file_set}
use Rattle.st_query.specs.declared.nodes.Node.{Node}
use Rattle.st_shelf.specs.Loans.{LoansView}
use Rattle.st_base.specs.Faults.{Rose}
use Rattle.st_spool.specs.Entering.{Enters, FailsToEnter, opened}
use Rattle.st_spool.specs.declared.opening.EnterErr.{EnterErr}
use Rattle.st_spool.specs.declared.opening.EnterErr.TheVariants as enter
use Rattle.st_spool.specs.History.{set_of}
use Rattle.st_spool.specs.Holding.{whole_set}
use Rattle.st_spool.specs.Recalling.{history, history_of, taken_of}
use Rattle.st_spool.specs.States.{SpoolState, SpoolView}
use Rattle.st_answer.specs.Bounds.{ReadsForAnswer}
use Rattle.st_answer.specs.Lending.{LendsNone}
use Rattle.st_answer.specs.Replies.{Question, AsksOnce}
use Rattle.st_answer.specs.Stores.{HoldsView}
use Rattle.st_answer.specs.declared.errors.AnswerErr.{AnswerErr}
use Rattle.st_answer.specs.Sets.{GoesOn}
use Rattle.st_answer.specs.SpoolLaws.{taken_first}
use Rattle.st_answer.specs.Spools.{Remains}
use Rattle.st_answer.proofs.SpoolSets.{taken_all}
use Rattle.st_commands.specs.Commands.{HasDiskFault, HasWriteFault, KeepsPairs, EndsUnentered, IsUnentered}
use Rattle.st_commands.specs.Queries.{Answers}
use Rattle.st_commands.specs.Reports.{Reports}
use Rattle.st_commands.specs.declared.outcomes.Outcome.{Outcome}
use Rattle.st_commands.specs.declared.outcomes.Outcome.TheVariants.{Done, WriteFault, DiskFault, Damaged, NoMemory}
use Rattle.st_commands.specs.declared.outcomes.Report.{Report}

-- nothing is written
pub no_report : (r : Report) (ps : List Entry) (w : Option (List ℕ)) (o : Outcome) → IsUnentered o → Reports r ps w w o
no_report r ps w Done is = absurd is
no_report r ps w WriteFault is = absurd is
no_report r ps w DiskFault is = record { lines = []; rest = ps; are = refl; put = Appends-nil w }
no_report r ps w (Damaged s d) is = absurd is
no_report r ps w NoMemory is = record { lines = []; rest = ps; are = refl; put = Appends-nil w }

pub no_answer : (q : Question) (ps : List Entry) (w : Option (List ℕ)) (o : Outcome) → IsUnentered o → Answers q ps w w o
no_answer q ps w Done is = absurd is
no_answer q ps w WriteFault is = absurd is
no_answer q ps w DiskFault is = record { writes = λ whole. inl refl; hurt = tt }
no_answer q ps w (Damaged s d) is = absurd is
no_answer q ps w NoMemory is = record { writes = λ whole. inl refl; hurt = tt }

pub no_write : (n : ℕ) (o : Outcome) → IsUnentered o → HasWriteFault n n o
no_write n Done is = absurd is
no_write n WriteFault is = absurd is
no_write n DiskFault is = record { later = omega arith; rose = λ e. absurd (cc); still = λ other. refl }
no_write n (Damaged s d) is = absurd is
no_write n NoMemory is = record { later = omega arith; rose = λ e. absurd (cc); still = λ other. refl }

pub reads_none : (q : Node) (now : ℕ) (asked : Option (List Entry)) (l m : LoansView) → m ≡ l → ReadsForAnswer q now asked l m
reads_none q now asked l m same set ps is whole answer =
    let reads = ap (λ (x : LoansView). x.block_reads) same in
    let bytes = ap (λ (x : LoansView). x.block_asked) same in
    record { reads = omega (arith, reads); asked = omega (arith, bytes) }

pub lends_none : (l m : LoansView) → m ≡ l → LendsNone l m
lends_none l m same =
    let lent = ap (λ (x : LoansView). x.lent) same in
    record { most = omega (arith, lent); exact = λ small. lent }

-- events that go on with others and are a prefix of these are these
empty : (xs : List Event) → length xs ≡ 0 → xs ≡ []
empty [] e = refl
empty (x ∷ xs) e = absurd (omega arith)

took_all : (took : Option (List Event)) (h : List Event) → GoesOn (Some h) took → GoesOn took (Some h) → took ≡ Some h
took_all took h goes back =
    let (more, is) = goes h refl in
    let (rest, whole) = back (h ++ more) is in
    let same : h ≡ (h ++ more) ++ rest = cc in
    let a = ap length same in
    let b = length-append (h ++ more) rest in
    let c = length-append h more in
    let none : more ≡ [] = empty more (omega (arith, a, b, c)) in
    is ∙ ap Some (ap (λ (m : List Event). h ++ m) none ∙ append-nil h)

-- a hold took what was seen and maybe more, or there was none
pub took_so : (S T : Type 0) (before after : HoldsView) (old new : Option S) (r : Result T AnswerErr) → AsksOnce before after old new r → GoesOn before.seen after.took ⊎ (after.took ≡ before.took)
took_so S T before after old new r (inl one) = inl one.1
took_so S T before after old new r (inr none) = inr none.1

-- The set that a query over a spool took, which was opened just now, is the one that was found.
pub asks_found : {D : Type 0} (W : List ℕ → List ℕ → Type 0) (log : D → Option Log) (limit : ℕ) (a b : SpoolView D) (first : Log) (pairs : List Entry)
    → (e : Enters W first (log a.shelf) a.state) → a.state ≡ opened limit a.state.stamps a.state.last → Remains W log a b → PairsIn (reads first) pairs
    → GoesOn (history_of log a) (taken_of log b) ⊎ (taken_of log b ≡ taken_of log a) → option_map set_of (taken_of log b) ≡ Some pairs
asks_found {D} W log limit a b first pairs e start remains given took =
    let f : Files = record { block = []; index = [] } in
    let h : List Event = Found e.pairs ∷ [] in
    let stands = e.stands f in
    let here = e.images.cleared.is in
    let seen : history_of log a ≡ Some h = ap (option_map (history a.state)) here ∙ ap Some ((stands.disk e.images.cleared.log here).recalls) in
    let now : history_of log b ≡ Some h = remains.history ∙ seen in
    let asked : a.state.asked ≡ whole_set a.state = ap (λ (s : SpoolState). s.asked) start ∙ sym (ap whole_set start) in
    let first_taken : taken_of log a ≡ Some h = taken_all W (log a.shelf) a.state (events first, h, f, stands) asked ∙ seen in
    let later : GoesOn (taken_of log b) (Some h) = subst (GoesOn (taken_of log b)) now (taken_first _ (history_of log b)) in
    let is : taken_of log b ≡ Some h = elim took [
      | inl goes ↦ took_all (taken_of log b) h (subst (λ (o : Option (List Event)). GoesOn o (taken_of log b)) seen goes) later
      | inr same ↦ same ∙ first_taken
    ] in
    ap (option_map set_of) is ∙ ap Some (one_file_set (reads first) e.pairs pairs e.found given)

-- how a command ends that could not open its spool
pub is_unentered : (cause : EnterErr) (o : Outcome) → EndsUnentered cause o → IsUnentered o
is_unentered enter.DiskFault o is = subst IsUnentered (sym is) tt
is_unentered enter.NoMemory o is = subst IsUnentered (sym is) tt

pub fails_so : {D : Type 0} (log : D → Option Log) (first : Log) (was now : D) (cause : EnterErr) (o : Outcome) → EndsUnentered cause o → now ≡ was → FailsToEnter first (log was) → KeepsPairs first (log now) o
fails_so log first was now enter.DiskFault o is same fails = subst (KeepsPairs first (log now)) (sym is) (subst (λ x. FailsToEnter first (log x)) (sym same) fails)
fails_so log first was now enter.NoMemory o is same fails = subst (KeepsPairs first (log now)) (sym is) (subst (λ x. FailsToEnter first (log x)) (sym same) fails)

pub unentered_disk : (before now : ℕ) (cause : EnterErr) (o : Outcome) → EndsUnentered cause o → (before ≤ now) × (cause ≡ enter.DiskFault → Rose before now) → HasDiskFault before now o
unentered_disk before now enter.DiskFault o is (later, rose) = record { later = later; rose = λ e. rose refl }
unentered_disk before now enter.NoMemory o is (later, rose) = record { later = later; rose = λ e. absurd (cc) }
