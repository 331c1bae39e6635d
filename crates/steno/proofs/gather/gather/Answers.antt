use Rattle.std.proofs.Common.{◌≡◌, [], ◌∷◌, ◌++◌, Ok, Err, Some, Result, drop, refl, sym, ap, subst, ◌∙◌, inl, inr, arith}
use Rattle.st_base.specs.Faults.{Rose}
use Rattle.st_pcap.specs.declared.errors.PcapErr.{PcapErr}
use Rattle.st_pcap.specs.declared.errors.PcapErr.TheVariants.{ReadFault}
use Rattle.st_pcap.specs.declared.reader.Phase.TheVariants.{Fresh, Stopped}
use Rattle.st_pcap.specs.Reading.{PcapReaderView, HasRead, Gives, IsGoing}
use Rattle.st_query.specs.Meaning.{Matches}
use Rattle.steno.specs.PacketsView.{PacketsView}
use Rattle.steno.proofs.AtEnd.{at_end, took_rest, some_same, stops_at}
use Rattle.steno.proofs.Selecting.{selects-more}
use Rattle.steno.proofs.gather.gather.Goals as goal

pub records-init : goal.records-init
records-init g c = record {
  kept = λ bytes told. (bytes, [], told, subst (λ p. HasRead p bytes [] bytes) (sym c.new-reader.ensures) (refl, refl, refl, refl), ap (λ (p : PcapReaderView). drop p.taken bytes) (sym c.new-reader.ensures), ap (λ (p : PacketsView). p.records) c.new-packets.ensures);
  unit = ap (λ (p : PacketsView). p.unit) c.new-packets.ensures;
  going = λ e h. let bad : Fresh ≡ Stopped e = ap (λ (p : PcapReaderView). p.phase) (sym c.new-reader.ensures) ∙ h in cc;
  still = refl;
  rest = refl;
}

pub records-preserved : goal.records-preserved
records-preserved g c = record {
  kept = λ bytes told.
      let before = c.records.invariant.kept bytes told in
      let given = c.in-Ok-Some.ensures.gives bytes before.0 before.1 before.2 before.3 in
      let more = subst (λ o. Gives bytes before.1 c.next_into.new.self (g.I.Source.left c.next_into.new.source) (Ok o)) c.in-Ok-Some.field-0-is given in
      let matching = Matches c.args.query.now c.args.now in
      let kept = c.in-Ok.ensures.kept in
      let taken = took_rest (g.I.Source.left c.records.input) (g.I.Source.left c.next_into.new.source) before.0 bytes c.records.reader.taken c.next_into.new.self.taken
      before.2 before.4 c.in-Ok-Some.ensures.count.later c.in-Ok-Some.ensures.count.taken in
      let left = some_same more.0 (drop c.next_into.new.self.taken bytes) (sym more.1 ∙ taken) in
      (more.0, before.1 ++ c.in-Ok-Some.packet ∷ [], more.1, more.2, left, selects-more matching before.1 c.records.packets.records c.keep.new.packets.records c.in-Ok-Some.packet before.5 kept);
  unit = c.keep.ensures.unit ∙ c.records.invariant.unit;
  going = λ e h. subst IsGoing h c.in-Ok-Some.ensures.goes;
  still = c.in-Ok-Some.ensures.cause.still (λ e. cc) ∙ c.records.invariant.still;
  rest = c.in-Ok-Some.ensures.rest ∙ c.records.invariant.rest;
}

pub returns-in-Ok-None-clause-kept : goal.returns-in-Ok-None-clause-kept
returns-in-Ok-None-clause-kept g c = λ bytes told.
    let before = c.records.invariant.kept bytes told in
    let given = c.in-Ok-None.ensures.gives bytes before.0 before.1 before.2 before.3 in
    let end = subst (λ o. Gives bytes before.1 c.next_into.new.self (g.I.Source.left c.next_into.new.source) (Ok o)) c.in-Ok-None.field-0-is given in
    (before.1, end.0, before.5)

pub returns-in-Err-clause-kept : goal.returns-in-Err-clause-kept
returns-in-Err-clause-kept g c = λ bytes told.
    let before = c.records.invariant.kept bytes told in
    elim (c.in-Err.ensures.gives bytes before.0 before.1 before.2 before.3)
    [ inl outside ↦ inl outside | inr refused ↦ inr (before.1, refused, before.5) ]

pub returns-in-Ok-None-clause-ended : goal.returns-in-Ok-None-clause-ended
returns-in-Ok-None-clause-ended g c = λ bytes told.
    let before = c.records.invariant.kept bytes told in
    let given = c.in-Ok-None.ensures.gives bytes before.0 before.1 before.2 before.3 in
    let end = subst (λ o. Gives bytes before.1 c.next_into.new.self (g.I.Source.left c.next_into.new.source) (Ok o)) c.in-Ok-None.field-0-is given in
    let none = at_end c.next_into.new.self.phase c.next_into.new.self.taken c.next_into.new.self.number bytes before.1 end.1.0 c.in-Ok-None.ensures.goes end.1.2 end.0 in
    end.1.1 ∙ ap Some none

pub returns-in-Err-clause-ended : goal.returns-in-Err-clause-ended
returns-in-Err-clause-ended g c = λ bytes told.
    let reader = c.records.reader in
    let now = c.next_into.new.self.taken in
    let before = c.records.invariant.kept bytes told in
    elim (c.in-Err.ensures.gives bytes before.0 before.1 before.2 before.3) [
      | inl outside ↦ inl outside
      | inr refused ↦ inr (record {
        rs = before.1;
        refused = refused;
        taken = now;
        enough = stops_at reader.phase reader.taken reader.number now bytes before.1 before.0 c.in-Err.error c.records.invariant.going before.3 c.in-Err.ensures.takes;
        rest = took_rest (g.I.Source.left c.records.input) (g.I.Source.left c.next_into.new.source) before.0 bytes reader.taken now before.2 before.4 c.in-Err.ensures.count.later c.in-Err.ensures.count.taken;
      })
    ]

pub returns-in-Ok-None-clause-cause : goal.returns-in-Ok-None-clause-cause
returns-in-Ok-None-clause-cause g c =
    let same = c.in-Ok-None.ensures.cause.still (λ e. cc) ∙ c.records.invariant.still in
    record { later = omega (arith, same); still = λ other. same; fault = λ e. absurd (cc) }

same_error : {T : Type 0} (a b : PcapErr) (r s : Result T PcapErr) → r ≡ Err a → s ≡ Err b → r ≡ s → a ≡ b
same_error a b r s p q e = cc

pub returns-in-Err-clause-cause : goal.returns-in-Err-clause-cause
returns-in-Err-clause-cause g c =
    let error = c.in-Err.error in
    record {
      later = omega (arith, c.in-Err.ensures.cause.later, c.records.invariant.still);
      still = λ other. c.in-Err.ensures.cause.still (λ e. other (ap Err (same_error error ReadFault (Err error) (Err ReadFault) refl refl e))) ∙ c.records.invariant.still;
      fault = λ e.
          elim (c.in-Err.ensures.cause.fault (ap Err (same_error error ReadFault (Err error) (Err ReadFault) refl refl e))) [
            | inl rose ↦ subst (λ n. Rose n (g.I.Source.faults c.next_into.new.source)) c.records.invariant.still rose
            | inr stopped ↦ absurd (c.records.invariant.going ReadFault stopped)
          ];
    }
