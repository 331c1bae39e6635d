-- The refusals of a publication and of an ageing, by the counts.
use Rattle.std.proofs.Common.{◌≡◌, ⊎_elim, ℕ, ◌<◌, List, Option, Some, None, Result, Ok, Err, Bool, true, false, cond, refl, sym, ◌∙◌, ap, subst, arith}
use Rattle.st_base.specs.Faults.{next_count}
use Rattle.st_disk.specs.Disks.{Log}
use Rattle.st_disk.specs.Events.{Event}
use Rattle.st_shelf.specs.Loans.{LoansView}
use Rattle.st_shelf.specs.declared.shelves.SealedPair.{SealedPair}
use Rattle.st_spool.specs.declared.state.Span.{Span}
use Rattle.st_spool.specs.declared.state.Doubt.{Doubt}
use Rattle.st_spool.specs.declared.refusals.PublishErr.{PublishErr}
use Rattle.st_spool.specs.declared.refusals.PublishErr.TheVariants as publish
use Rattle.st_spool.specs.declared.refusals.AgeErr.{AgeErr}
use Rattle.st_spool.specs.declared.refusals.AgeErr.TheVariants as age
use Rattle.st_spool.specs.States.{SpoolView}
use Rattle.st_spool.specs.Recalling.{history}
use Rattle.st_spool.specs.Standing.{Stands, NoDoubtUntilHalted}
use Rattle.st_spool.specs.Publishing.{MayPublish}
use Rattle.st_turn.specs.declared.refusals.SharedPublishErr.{SharedPublishErr}
use Rattle.st_turn.specs.declared.refusals.SharedPublishErr.TheVariants as shared
use Rattle.st_turn.specs.Parts.{Facts, PassState}
use Rattle.st_turn.specs.Calls.{IsTurn, MayTurn}
use Rattle.st_turn.specs.Spools.{facts_of, top_stamp, KeepsOf}
use Rattle.st_turn.specs.SpoolCalls.{told, publish_stopped, PublishesBy, SharedPublishes, AgesBy}
use Rattle.st_turn.specs.Refusing.{has_failed, AgeRefuses, PublishRefuses}
use Rattle.st_turn.proofs.Spooled.{publish_turn, age_turn, room_turn}

-- nothing failed yet of a spool that is not halted, and something of one that is
none_failed : (halted : Option ℕ) (d : Doubt) (n : ℕ) → NoDoubtUntilHalted halted d n → halted ≡ None → n ≡ 0
none_failed None d n no_doubt is = no_doubt.1
none_failed (Some since) d n no_doubt is = absurd (cc)

some_failed : (halted : Option ℕ) (d : Doubt) (n since : ℕ) → NoDoubtUntilHalted halted d n → halted ≡ Some since → 0 < n
some_failed None d n since no_doubt is = absurd (cc)
some_failed (Some k) d n since no_doubt is = no_doubt

told_failed : {T S : Type 0} (answer : Result ℕ (PublishErr T S)) → publish_stopped answer ≡ has_failed (told answer)
told_failed (Ok s) = refl
told_failed (Err publish.DiskFault) = refl
told_failed (Err (publish.Halted since pair)) = refl
told_failed (Err (publish.StampsSpent last pair)) = refl

module _ {S E H : Type 0} (facts : S → Facts E H) (Keeps : S → S → Type 0) where
  -- `stops` rises only in a turn in which a publication or an ageing failed
  pub stops_by : (v w : S) (p q : PassState S E H) (held next : List H) (failed : Bool) → IsTurn facts v w p q → MayTurn facts Keeps v w held next failed → q.card.stops ≡ cond failed (next_count p.card.stops) p.card.stops
  stops_by v w p q held next true t m =
      ⊎_elim (λ (s : ((facts w).halts ≡ (facts v).halts) × (q.card.stops ≡ p.card.stops)). absurd (let a = s.0 in let b = m.one refl in omega arith))
      (λ (s : ((facts w).halts ≡ next_count (facts v).halts) × (q.card.stops ≡ next_count p.card.stops) × ((facts v).halts < (facts w).halts)). s.1) t.stops
  stops_by v w p q held next false t m =
      ⊎_elim (λ (s : ((facts w).halts ≡ (facts v).halts) × (q.card.stops ≡ p.card.stops)). s.1)
      (λ (s : ((facts w).halts ≡ next_count (facts v).halts) × (q.card.stops ≡ next_count p.card.stops) × ((facts v).halts < (facts w).halts)). absurd (let a = s.2 in let b = m.halts in omega arith)) t.stops

module _ {D : Type 0} (W : List ℕ → List ℕ → Type 0) (log : D → Option Log) (faults home : D → ℕ) (loans : D → LoansView) where
  abbrev F : SpoolView D → Facts Event Span
  F = facts_of log faults home

  -- a shared publication may be a turn
  pub shared_turn : {T S : Type 0} (bytes : S → Option (List ℕ)) (x y : SpoolView D) (held : List Span) (pair : SealedPair T S) (floor : ℕ) (result : Result ℕ (SharedPublishErr T S))
      → SharedPublishes W log faults home loans x y bytes pair floor result → Stands W (log x.shelf) x.state → MayTurn F (KeepsOf log faults home) x y held held (has_failed result)
  shared_turn {T} {S} bytes x y held pair floor result by stands =
      ⊎_elim
      (λ (a : (answer : Result ℕ (PublishErr T S)) × (result ≡ told answer) × PublishesBy W log faults home loans x y bytes pair floor answer).
      subst (λ (b : Bool). MayTurn F (KeepsOf log faults home) x y held held b) (told_failed a.0 ∙ sym (ap has_failed a.1))
      (publish_turn log faults home W loans bytes x y held pair floor a.0 a.2 stands))
      (λ (a : (result ≡ Err (shared.NoMemory pair)) × (y ≡ record x { spare = y.spare })).
      subst (λ (b : Bool). MayTurn F (KeepsOf log faults home) x y held held b) (sym (ap has_failed a.0))
      (room_turn log faults home W loans x y y.spare held a.1))
      by

  module _ (b x y : SpoolView D) (p q : PassState (SpoolView D) Event Span) (t : IsTurn F x y p q) (stands : Stands W (log x.shelf) x.state) where
    halts_now : (n : ℕ) → y.state.halts ≡ n → q.card.halts ≡ n
    halts_now n is = t.halts.1 ∙ is

    module _ (kept : KeepsOf log faults home b x) where
      top_is : (l : Log) → log x.shelf ≡ Some l → x.state.last ≡ top_stamp b.state.last (history x.state l)
      top_is l is = let first = kept.known l is in (kept.images first.0 l first.1 is).last_is

      publish_refuses : {T S : Type 0} (bytes : S → Option (List ℕ)) (pair : SealedPair T S) (floor : ℕ) (answer : Result ℕ (PublishErr T S)) → PublishesBy W log faults home loans x y bytes pair floor answer
          → PublishRefuses log b.state.last x p.card q.card (told answer)
      publish_refuses bytes pair floor (Ok s) a =
          let may : MayPublish x.state = a.refused in
          let m = publish_turn log faults home W loans bytes x y p.held pair floor (Ok s) a stands in
          let none : x.state.halts ≡ 0 = none_failed x.state.halted x.state.doubt x.state.halts stands.3.no_doubt may.0 in
          let now : q.card.halts ≡ 0 = halts_now 0 (m.halts ∙ none) in
          record {
            stops = stops_by F (KeepsOf log faults home) x y p q p.held p.held false t m;
            halted = λ memory. (λ (e : false ≡ true). absurd (cc), λ h. absurd (let a = h.0 in omega arith));
            spent = λ memory l is. (λ (e : false ≡ true). absurd (cc), λ h. absurd (let a = h.1 in let c = top_is l is in let d = may.1 in omega arith));
          }
      publish_refuses bytes pair floor (Err publish.DiskFault) a =
          let may : MayPublish x.state = a.refused in
          let m = publish_turn log faults home W loans bytes x y p.held pair floor (Err publish.DiskFault) a stands in
          let up = m.one refl in
          let now : q.card.halts ≡ y.state.halts = t.halts.1 in
          record {
            stops = stops_by F (KeepsOf log faults home) x y p q p.held p.held true t m;
            halted = λ memory. (λ (e : false ≡ true). absurd (cc), λ h. absurd (let a : true ≡ false = h.1 in cc));
            spent = λ memory l is. (λ (e : false ≡ true). absurd (cc), λ h. absurd (let a = h.0 in omega arith));
          }
      publish_refuses bytes pair floor (Err (publish.Halted since back)) a =
          let m = publish_turn log faults home W loans bytes x y p.held pair floor (Err (publish.Halted since back)) a stands in
          let some : 0 < x.state.halts = some_failed x.state.halted x.state.doubt x.state.halts since stands.3.no_doubt a.refused.0 in
          let now : q.card.halts ≡ x.state.halts = halts_now x.state.halts m.halts in
          record {
            stops = stops_by F (KeepsOf log faults home) x y p q p.held p.held false t m;
            halted = λ memory. (λ e. (omega arith, refl), λ h. refl);
            spent = λ memory l is. (λ (e : false ≡ true). absurd (cc), λ h. absurd (let a = h.0 in omega arith));
          }
      publish_refuses bytes pair floor (Err (publish.StampsSpent last back)) a =
          let m = publish_turn log faults home W loans bytes x y p.held pair floor (Err (publish.StampsSpent last back)) a stands in
          let none : x.state.halts ≡ 0 = none_failed x.state.halted x.state.doubt x.state.halts stands.3.no_doubt a.refused.0 in
          let now : q.card.halts ≡ 0 = halts_now 0 (m.halts ∙ none) in
          record {
            stops = stops_by F (KeepsOf log faults home) x y p q p.held p.held false t m;
            halted = λ memory. (λ (e : false ≡ true). absurd (cc), λ h. absurd (let a = h.0 in omega arith));
            spent = λ memory l is. (λ e. (now, sym (top_is l is) ∙ a.refused.1), λ h. refl);
          }

      pub shared_refuses : {T S : Type 0} (bytes : S → Option (List ℕ)) (pair : SealedPair T S) (floor : ℕ) (result : Result ℕ (SharedPublishErr T S)) → SharedPublishes W log faults home loans x y bytes pair floor result
          → PublishRefuses log b.state.last x p.card q.card result
      shared_refuses {T} {S} bytes pair floor result by =
          ⊎_elim
          (λ (a : (answer : Result ℕ (PublishErr T S)) × (result ≡ told answer) × PublishesBy W log faults home loans x y bytes pair floor answer).
          subst (λ (r : Result ℕ (SharedPublishErr T S)). PublishRefuses log b.state.last x p.card q.card r) (sym a.1) (publish_refuses bytes pair floor a.0 a.2))
          (λ (a : (result ≡ Err (shared.NoMemory pair)) × (y ≡ record x { spare = y.spare })).
          subst (λ (r : Result ℕ (SharedPublishErr T S)). PublishRefuses log b.state.last x p.card q.card r) (sym a.0)
          (record {
            stops = stops_by F (KeepsOf log faults home) x y p q p.held p.held false t (room_turn log faults home W loans x y y.spare p.held a.1);
            halted = λ (memory : false ≡ true). absurd (cc);
            spent = λ (memory : false ≡ true). absurd (cc);
          }))
          by

    pub age_refuses : (result : Result Bool AgeErr) → AgesBy W log faults home loans x y result → AgeRefuses p.card q.card result
    age_refuses (Ok b) a =
        let m = age_turn log faults home W loans x y p.held (Ok b) a stands in
        let none : x.state.halts ≡ 0 = none_failed x.state.halted x.state.doubt x.state.halts stands.3.no_doubt a.refused in
        let now : q.card.halts ≡ 0 = halts_now 0 (m.halts ∙ none) in
        record {
          stops = stops_by F (KeepsOf log faults home) x y p q p.held p.held false t m;
          halted = (λ (e : false ≡ true). absurd (cc), λ h. absurd (let a = h.0 in omega arith));
        }
    age_refuses (Err age.DiskFault) a =
        let m = age_turn log faults home W loans x y p.held (Err age.DiskFault) a stands in
        record {
          stops = stops_by F (KeepsOf log faults home) x y p q p.held p.held true t m;
          halted = (λ (e : false ≡ true). absurd (cc), λ h. absurd (let a : true ≡ false = h.1 in cc));
        }
    age_refuses (Err (age.Halted since)) a =
        let m = age_turn log faults home W loans x y p.held (Err (age.Halted since)) a stands in
        let some : 0 < x.state.halts = some_failed x.state.halted x.state.doubt x.state.halts since stands.3.no_doubt a.refused.0 in
        let now : q.card.halts ≡ x.state.halts = halts_now x.state.halts m.halts in
        record {
          stops = stops_by F (KeepsOf log faults home) x y p q p.held p.held false t m;
          halted = (λ e. (omega arith, refl), λ h. refl);
        }

  -- room that was made keeps what the spool keeps
  pub room_keeps : (b x r : SpoolView D) (n : ℕ) → r ≡ record x { spare = n } → KeepsOf log faults home b x → KeepsOf log faults home b r
  room_keeps b x r n is k =
      subst (λ (s : SpoolView D). KeepsOf log faults home b s) (sym is)
      (record { shelf = k.shelf; limit = k.limit; later = k.later; history = k.history; known = k.known; still_known = k.still_known; images = k.images })
