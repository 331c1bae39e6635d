-- Which passes may be stores.
use Rattle.std.proofs.Common.{◌≡◌, ◌≤◌, List, [], length, Option, Contains, ◌∙◌, ap, subst, arith, length-append}
use Rattle.st_disk.specs.Disks.{Log}
use Rattle.st_disk.specs.Events.{Event}
use Rattle.st_spool.specs.declared.state.Span.{Span}
use Rattle.st_turn.specs.Parts.{PassState}
use Rattle.st_seated.specs.Seats.{SeesHolds}
use Rattle.st_seated.specs.Sitting.{StartsSeatable, MeetsSeatable}

-- a pass that holds nothing
none_held : {S : Type 0} (known : Option Log) (p : PassState S Event Span) → p.held ≡ [] → length p.asked ≤ length p.card.seen → SeesHolds known p
none_held known p none le = record {
  asked = le;
  held = λ log is k mine. absurd (let c : Contains [] k = subst (λ (hs : List Span). Contains hs k) none mine in let lt = c.1 in omega (arith, lt));
}

pub starts_seatable : (S : Type 0) → StartsSeatable S
starts_seatable S known s p h number passes made table is = record {
  of = (table, ap (λ (x : PassState S Event Span). x.base) is);
  sees = none_held known p.state (ap (λ (x : PassState S Event Span). x.held) is)
      (let a = ap (λ (x : PassState S Event Span). length x.asked) is in let b = ap (λ (x : PassState S Event Span). length x.card.seen) is in omega (arith, a, b));
}

pub meets_seatable : (S : Type 0) → MeetsSeatable S
meets_seatable S known s p o q none sits met = record {
  of = (met.table ∙ sits.of.0, met.same.1 ∙ sits.of.1);
  sees = none_held known q.state (met.same.4 ∙ none)
      (let a = ap (λ (x : List Event). length x) met.same.6 in
      let b = ap (λ (x : List Event). length x) met.own.1 in
      let c = length-append p.state.card.seen met.own.0 in
      let d = sits.sees.asked in
      omega (arith, a, b, c, d));
}
