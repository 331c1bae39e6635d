-- What asking a query over a spool tells.
use Rattle.std.proofs.Common.{◌≡◌, ◌≤◌, ◌+◌, ℕ, List, [], ◌∷◌, ◌++◌, length, Option, None, Some, Result, Ok, Err, refl, sym, ap, ◌∙◌, subst, arith, length-append, append-nil, inl, inr}
use Rattle.std.specs.Prelude.{IfOk, IfErr, MatchResult, IsErrOf, option_map}
use Rattle.st_base.specs.Faults.{Rose}
use Rattle.st_base.specs.Records.{Rec}
use Rattle.st_pcap.specs.declared.forms.Unit.TheVariants.{Micro}
use Rattle.st_disk.specs.Disks.{Log}
use Rattle.st_disk.specs.Events.{Event}
use Rattle.st_disk.specs.Pairs.{Entry, Files}
use Rattle.st_disk.proofs.Runs.{grew_none}
use Rattle.st_query.specs.declared.nodes.Node.{Node}
use Rattle.st_query.specs.Trees.{tree}
use Rattle.st_shelf.specs.Loans.{LoansView}
use Rattle.st_spool.specs.History.{set_of}
use Rattle.st_spool.specs.Recalling.{history, history_of, taken_of, taken_count}
use Rattle.st_spool.specs.Standing.{StandsFor}
use Rattle.st_spool.specs.States.{SpoolState, SpoolView}
use Rattle.st_spool.proofs.Kept.{KeepsRows, keeps_rows}
use Rattle.st_pairs.specs.Pairs.{IsWholePair as IsWhole}
use Rattle.st_answer.specs.Packets.{IsWholeSet}
use Rattle.st_answer.specs.Replies.{Question, IsReply, RepliesFor, Tells, Blames, BlamesIn, AsksOnce, HasDiskCause}
use Rattle.st_answer.specs.Sets.{GoesOn}
use Rattle.st_answer.specs.Stores.{HoldsView}
use Rattle.st_answer.specs.Spools.{IsStill, Remains, spool_holds}
use Rattle.st_answer.specs.SpoolLaws.{taken_first}
use Rattle.st_answer.specs.declared.errors.AnswerErr.{AnswerErr}
use Rattle.st_answer.specs.declared.errors.AnswerErr.TheVariants as error
use Rattle.st_answer.specs.declared.errors.Told.{Told}
use Rattle.st_drill.specs.declared.ends.DrillEnd.{DrillEnd}
use Rattle.st_drill.specs.declared.ends.DrillEnd.TheVariants as end
use Rattle.st_drill.specs.declared.queries.DrillQuery.{DrillQuery}
use Rattle.st_drill.specs.declared.queries.DrillQuery.TheVariants.{Dns, NearTcp, Early, Late}
use Rattle.st_drill.specs.declared.summary.Answers.{Answers}
use Rattle.st_drill.specs.Summary.{told_of}
use Rattle.st_drill.specs.Queries.{query_tree}
use Rattle.st_drill.specs.Asking.{asked_of, CountsMatches, AnswerFails, AnswerFailsBy, IsAnswerFailure, TellsReply, HasShelfCause, StaysOpen}

pub tells_reply : {S : Type 0} (after : S → List ℕ → S) (gone : S → List ℕ) (old new : Option S)
    (q : Question) (known : Option (List Entry)) (r : Result Told AnswerErr)
    → RepliesFor after gone old new q known r → TellsReply q known r
tells_reply after gone old new q known (Ok told) h set is whole =
    let (rs, reply, sent, tells) = h set is whole in (rs, reply, tells)
tells_reply after gone old new q known (Err e) h set is whole = tt

-- events that go on with others and are a prefix of these are these
empty : (xs : List Event) → length xs ≡ 0 → xs ≡ []
empty [] e = refl
empty (x ∷ xs) e = absurd (omega arith)

took_all : (took : Option (List Event)) (h : List Event) → GoesOn (Some h) took → GoesOn took (Some h)
    → took ≡ Some h
took_all took h goes back =
    let (more, is) = goes h refl in
    let (rest, whole) = back (h ++ more) is in
    let same : h ≡ (h ++ more) ++ rest = cc in
    let a = ap length same in
    let b = length-append (h ++ more) rest in
    let c = length-append h more in
    let none : more ≡ [] = empty more (omega (arith, a, b, c)) in
    is ∙ ap Some (ap (λ (m : List Event). h ++ m) none ∙ append-nil h)

-- the history that a spool tells is the one that it stands for
pub seen_of : {D : Type 0} (log : D → Option Log) (a : SpoolView D) (l : Log) (earlier h : List Event)
    (f : Files) → log a.shelf ≡ Some l → StandsFor IsWhole (log a.shelf) a.state earlier h f
    → history_of log a ≡ Some h
seen_of log a l earlier h f is stands =
    ap (option_map (history a.state)) is ∙ ap Some (stands.disk l is).recalls

-- the set that was asked over a spool is that of its history
pub asked_set : {D : Type 0} (log : D → Option Log) (a b : SpoolView D) (h : List Event)
    → history_of log a ≡ Some h → Remains IsWhole log a b
    → GoesOn (history_of log a) (taken_of log b)
    → option_map set_of (taken_of log b) ≡ Some (set_of h)
asked_set log a b h seen remains goes =
    let now : history_of log b ≡ Some h = remains.history ∙ seen in
    let later : GoesOn (taken_of log b) (Some h) =
    subst (GoesOn (taken_of log b)) now (taken_first _ (history_of log b)) in
    ap (option_map set_of)
    (took_all (taken_of log b) h
    (subst (λ (o : Option (List Event)). GoesOn o (taken_of log b)) seen goes) later)

-- what a spool knows of its holds
abbrev holds_of : {D : Type 0} → (D → Option Log) → SpoolView D → HoldsView
holds_of {D} log a = spool_holds a.state (history_of log a) (taken_of log a)

-- an answer was asked for, unless memory ran out before
goes_ok : (before after : HoldsView) (told : Told)
    → AsksOnce {S = List ℕ} {T = Told} before after None None (Ok told)
    → GoesOn before.seen after.took
goes_ok before after told (inl one) = one.1
goes_ok before after told (inr none) = let no = none.3 in absurd (cc)

goes_err : (before after : HoldsView) (e : AnswerErr) → (e ≡ error.NoMemory → ⊥)
    → AsksOnce {S = List ℕ} {T = Told} before after None None (Err e) → GoesOn before.seen after.took
goes_err before after e some (inl one) = one.1
goes_err before after e some (inr none) =
    let no = none.3 in
    let same : e ≡ error.NoMemory = cc in
    absurd (some same)

-- the numbers that were told are those of the answer over the history's set
pub counts_of : {D : Type 0} (log : D → Option Log) (a b : SpoolView D) (h : List Event) (node : Node)
    (q : DrillQuery) (told : Told) → history_of log a ≡ Some h → Remains IsWhole log a b
    → AsksOnce {S = List ℕ} {T = Told} (holds_of log a) (holds_of log b) None None (Ok told)
    → tree node ≡ query_tree q
    → TellsReply (asked_of node) (option_map set_of (taken_of log b)) (Ok told)
    → IsWholeSet (set_of h) → CountsMatches (set_of h) q told
counts_of log a b h node q told seen remains asks is tells whole =
    let known = asked_set log a b h seen remains (goes_ok (holds_of log a) (holds_of log b) told asks) in
    let (rs, reply, numbers) = tells (set_of h) known whole in
    record { node = node; asks = is; packets = rs; reply = reply; told = numbers }

-- a pair that is blamed is one of the history's set
pub breaks_of : {D : Type 0} (log : D → Option Log) (a b : SpoolView D) (h : List Event)
    (e : AnswerErr) (ended : DrillEnd) → history_of log a ≡ Some h → Remains IsWhole log a b
    → AsksOnce {S = List ℕ} {T = Told} (holds_of log a) (holds_of log b) None None (Err e)
    → Blames {T = Told} (option_map set_of (taken_of log b)) (Err e) → AnswerFailsBy e ended
    → AnswerFails (set_of h) ended
breaks_of log a b h error.WriteFault ended seen remains asks blames is =
    subst (AnswerFails (set_of h)) (sym is) tt
breaks_of log a b h error.DiskFault ended seen remains asks blames is =
    subst (AnswerFails (set_of h)) (sym is) tt
breaks_of log a b h (error.Damaged stamp d) ended seen remains asks blames is =
    let goes = goes_err (holds_of log a) (holds_of log b) (error.Damaged stamp d) (λ no. cc) asks in
    let known = asked_set log a b h seen remains goes in
    subst (AnswerFails (set_of h)) (sym is) (blames (set_of h) known)
breaks_of log a b h error.NoMemory ended seen remains asks blames is =
    subst (AnswerFails (set_of h)) (sym is) tt

pub is_break : (e : AnswerErr) (ended : DrillEnd) → AnswerFailsBy e ended → IsAnswerFailure ended
is_break error.WriteFault ended is = subst IsAnswerFailure (sym is) tt
is_break error.DiskFault ended is = subst IsAnswerFailure (sym is) tt
is_break (error.Damaged stamp d) ended is = subst IsAnswerFailure (sym is) tt
is_break error.NoMemory ended is = subst IsAnswerFailure (sym is) tt

pub shelf_cause : (before now : ℕ) (e : AnswerErr) (ended : DrillEnd) → AnswerFailsBy e ended
    → HasDiskCause {T = Told} before now (Err e) → HasShelfCause {T = Told} before now (Err ended)
shelf_cause before now error.WriteFault ended is cause =
    record { later = cause.later; rose = λ no. absurd (cc) }
shelf_cause before now error.DiskFault ended is cause =
    record { later = cause.later; rose = λ yes. cause.failed refl }
shelf_cause before now (error.Damaged stamp d) ended is cause =
    record { later = cause.later; rose = λ no. absurd (cc) }
shelf_cause before now error.NoMemory ended is cause =
    record { later = cause.later; rose = λ no. absurd (cc) }

same_log : (a : Option Log) → KeepsRows a a
same_log a = record {
  known = λ log is. (log, is, grew_none log);
  ran = λ first rows run. run;
  reads = λ t v. (λ read. read, λ read. read);
}

-- a spool that stands for a history does so from now on
pub still_now : (known : Option Log) (st : SpoolState) (earlier h : List Event) (f : Files) (l : Log)
    → known ≡ Some l → StandsFor IsWhole known st earlier h f
    → IsStill IsWhole l known st earlier h f
still_now known st earlier h f l is stands =
    let k = keeps_rows IsWhole known known st earlier h f (same_log known) stands in
    record { stands = stands; images = k.images l is }

-- and after calls that changed no pair it stands for that history still
pub stands_after : {D : Type 0} (log : D → Option Log) (a b : SpoolView D) (l : Log)
    (earlier h : List Event) (f : Files) → log a.shelf ≡ Some l
    → StandsFor IsWhole (log a.shelf) a.state earlier h f → Remains IsWhole log a b
    → (m : Log) × (log b.shelf ≡ Some m) × StandsFor IsWhole (log b.shelf) b.state earlier h f
stands_after log a b l earlier h f is stands remains =
    let s = remains.still l earlier h f (still_now (log a.shelf) a.state earlier h f l is stands) in
    (s.images.log, s.images.is, s.stands)

-- calls after calls
pub remains_then : {D : Type 0} (log : D → Option Log) (a b c : SpoolView D)
    → Remains IsWhole log a b → Remains IsWhole log b c → Remains IsWhole log a c
remains_then log a b c one two = record {
  history = two.history ∙ one.history;
  limit = two.limit ∙ one.limit;
  doubt = two.doubt ∙ one.doubt;
  still = λ first earlier h f is. two.still first earlier h f (one.still first earlier h f is);
}

pub stays_then : {D : Type 0} (log : D → Option Log) (id : D → ℕ) (loans : D → LoansView)
    (a b c : SpoolView D) → StaysOpen log id loans a b → StaysOpen log id loans b c
    → StaysOpen log id loans a c
stays_then log id loans a b c one two = record {
  remains = remains_then log a b c one.remains two.remains;
  holds = λ none. two.holds (one.holds none);
  id_is = two.id_is ∙ one.id_is;
  lent = let x = one.lent in let y = two.lent in omega arith;
}

pub causes_then : {T : Type 0} (a b c : ℕ) (r : Result T DrillEnd) → a ≤ b → HasShelfCause b c r
    → HasShelfCause a c r
causes_then a b c r less cause = record {
  later = let x = cause.later in omega arith;
  rose = λ is. let x = cause.rose is in omega arith;
}

-- the numbers of each query are those of its answer
pub all_counts : (set : List Entry) (a : Answers) → CountsMatches set Dns a.dns → CountsMatches set NearTcp a.near_tcp
    → CountsMatches set Early a.early → CountsMatches set Late a.late → (q : DrillQuery)
    → CountsMatches set q (told_of a q)
all_counts set a dns near early late Dns = dns
all_counts set a dns near early late NearTcp = near
all_counts set a dns near early late Early = early
all_counts set a dns near early late Late = late

-- an error is that of any result
pub break_cause : {T U : Type 0} (a b c : ℕ) (e : DrillEnd) → a ≤ b
    → HasShelfCause {T = T} b c (Err e) → HasShelfCause {T = U} a c (Err e)
break_cause {T} a b c e less cause = record {
  later = let x = cause.later in omega arith;
  rose = λ is.
      let same : e ≡ end.DiskFault = cc in
      let x = cause.rose (ap Err same) in omega arith;
}
