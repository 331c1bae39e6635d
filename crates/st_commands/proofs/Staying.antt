-- Calls on a spool that change no pair, one after the other.
use Rattle.std.proofs.Common.{◌≡◌, ◌<◌, ◌+◌, ◌-◌, ◌^◌, ℕ, List, [], Option, refl, sym, ◌∙◌, ap, subst, arith}
use Rattle.std.specs.Prelude.{max, min}
use Rattle.st_disk.specs.Disks.{Log}
use Rattle.st_disk.specs.Events.{Event}
use Rattle.st_disk.specs.Pairs.{Files}
use Rattle.st_disk.specs.declared.naming.Kind.{Kind}
use Rattle.st_disk.specs.declared.naming.Kind.TheVariants as kind
use Rattle.st_disk.proofs.Runs.{ran_then, grew_none, known_then}
use Rattle.st_shelf.specs.Loans.{LoansView, lend, take_back}
use Rattle.st_spool.specs.Publishing.{Keeps, RanAsBefore}
use Rattle.st_spool.specs.Standing.{Gives, in_doubt}
use Rattle.st_spool.specs.States.{SpoolState, SpoolView}
use Rattle.st_spool.specs.declared.state.Doubt.{Doubt}
use Rattle.st_spool.proofs.Kept.{KeepsRows, keeps_rows}
use Rattle.st_commands.specs.Commands.{GivesAllBack, KeepsSpool, Stays}
use Rattle.st_pairs.specs.Pairs.{IsWholePair}

same_log : (a : Option Log) → KeepsRows a a
same_log a = record {
  known = λ log is. (log, is, grew_none log);
  ran = λ first rows run. run;
  reads = λ t v. (λ read. read, λ read. read);
}

pub keeps_then : (a b c : Option Log) (st next : SpoolState) (earlier h : List Event) (f : Files) → next.doubt ≡ st.doubt
    → Keeps IsWholePair a b st earlier h f → Keeps IsWholePair b c next earlier h f → Keeps IsWholePair a c next earlier h f
keeps_then a b c st next earlier h f same one two = record {
  known = known_then a b c one.known two.known;
  stands = two.stands;
  images = λ first known.
      let run : RanAsBefore first b h (in_doubt next.doubt f) = subst (λ (d : Doubt). RanAsBefore first b h (in_doubt d f)) (sym same) (one.images first known) in
      ran_then first b c [] [] (Gives h (in_doubt next.doubt f)) (Gives h (in_doubt next.doubt f)) (Gives h (in_doubt next.doubt f)) run (two.images run.log run.is);
}

-- no call
pub kept_none : {D : Type 0} (log : D → Option Log) (id faults : D → ℕ) (a : SpoolView D) → KeepsSpool log id faults a a
kept_none log id faults a = record {
  keeps = λ earlier h f stands. keeps_rows IsWholePair (log a.shelf) (log a.shelf) a.state earlier h f (same_log (log a.shelf)) stands;
  state = refl;
  id_is = refl;
  later = omega arith;
}

pub back_none : (a : LoansView) → GivesAllBack a a
back_none a = record { most = omega arith; exact = λ small. refl; peak = omega arith }

pub stays_none : {D : Type 0} (log : D → Option Log) (id faults : D → ℕ) (loans : D → LoansView) (a : SpoolView D) → Stays log id faults loans a a
stays_none log id faults loans a = record { kept = kept_none log id faults a; back = back_none (loans a.shelf) }

-- calls after calls
pub kept_then : {D : Type 0} (log : D → Option Log) (id faults : D → ℕ) (a b c : SpoolView D)
    → KeepsSpool log id faults a b → KeepsSpool log id faults b c → KeepsSpool log id faults a c
kept_then {D} log id faults a b c one two = record {
  keeps = λ earlier h f stands.
      let first = one.keeps earlier h f stands in
      keeps_then (log a.shelf) (log b.shelf) (log c.shelf) b.state c.state earlier h f (ap (λ (v : SpoolView D). v.state.doubt) two.state) first (two.keeps earlier h f first.stands);
  state = two.state ∙ ap (λ (v : SpoolView D). record v { shelf = c.shelf }) one.state;
  id_is = two.id_is ∙ one.id_is;
  later = let x = one.later in let y = two.later in omega arith;
}

back_then : (a b c : LoansView) → GivesAllBack a b → GivesAllBack b c → GivesAllBack a c
back_then a b c one two = record {
  most = let x = one.most in let y = two.most in omega arith;
  exact = λ small. let same = one.exact small in two.exact (subst (λ n. n + 2 < 2 ^ 64) (sym same) small) ∙ same;
  peak = let x = one.most in let y = one.peak in let z = two.peak in omega arith;
}

pub stays_then : {D : Type 0} (log : D → Option Log) (id faults : D → ℕ) (loans : D → LoansView) (a b c : SpoolView D)
    → Stays log id faults loans a b → Stays log id faults loans b c → Stays log id faults loans a c
stays_then log id faults loans a b c one two = record {
  kept = kept_then log id faults a b c one.kept two.kept;
  back = back_then (loans a.shelf) (loans b.shelf) (loans c.shelf) one.back two.back;
}

lent_back : (k : Kind) (reads asked : ℕ) (l : LoansView) → ((take_back k reads asked l).lent ≡ l.lent - 1) × ((take_back k reads asked l).peak ≡ l.peak)
lent_back kind.Block reads asked l = (refl, refl)
lent_back kind.Index reads asked l = (refl, refl)

-- one file was lent and came back
pub one_back : (a b c : LoansView) (k : Kind) (reads asked : ℕ) → b ≡ lend a → c ≡ take_back k reads asked b → GivesAllBack a c
one_back a b c k reads asked lent came =
    let t = lent_back k reads asked b in
    let e : c.lent ≡ b.lent - 1 = ap (λ (l : LoansView). l.lent) came ∙ t.0 in
    let p : c.peak ≡ b.peak = ap (λ (l : LoansView). l.peak) came ∙ t.1 in
    let m : b.lent ≡ max a.lent (min (a.lent + 1) (2 ^ 64 - 1)) = ap (λ (l : LoansView). l.lent) lent in
    let q : b.peak ≡ max a.peak (max a.lent (min (a.lent + 1) (2 ^ 64 - 1))) = ap (λ (l : LoansView). l.peak) lent in
    record { most = omega arith; exact = λ small. omega arith; peak = omega arith }

-- two files were lent and came back
pub two_back : (a b c d e : LoansView) (k j : Kind) (reads asked more most : ℕ) → b ≡ lend a → c ≡ lend b → d ≡ take_back k reads asked c → e ≡ take_back j more most d
    → GivesAllBack a e
two_back a b c d e k j reads asked more most first second came last =
    let t = lent_back k reads asked c in
    let u = lent_back j more most d in
    let x : d.lent ≡ c.lent - 1 = ap (λ (l : LoansView). l.lent) came ∙ t.0 in
    let y : d.peak ≡ c.peak = ap (λ (l : LoansView). l.peak) came ∙ t.1 in
    let v : e.lent ≡ d.lent - 1 = ap (λ (l : LoansView). l.lent) last ∙ u.0 in
    let w : e.peak ≡ d.peak = ap (λ (l : LoansView). l.peak) last ∙ u.1 in
    let m : b.lent ≡ max a.lent (min (a.lent + 1) (2 ^ 64 - 1)) = ap (λ (l : LoansView). l.lent) first in
    let q : b.peak ≡ max a.peak (max a.lent (min (a.lent + 1) (2 ^ 64 - 1))) = ap (λ (l : LoansView). l.peak) first in
    let n : c.lent ≡ max b.lent (min (b.lent + 1) (2 ^ 64 - 1)) = ap (λ (l : LoansView). l.lent) second in
    let r : c.peak ≡ max b.peak (max b.lent (min (b.lent + 1) (2 ^ 64 - 1))) = ap (λ (l : LoansView). l.peak) second in
    record { most = omega arith; exact = λ small. omega arith; peak = omega arith }
