-- What the rule tells the caller that takes the turn, and one that looks.
use Rattle.std.proofs.Common.{◌≡◌, ℕ, ◌<◌, List, arith}
use mathlib.Core.Option.{some}
use mathlib.Core.Logic.{dite}
use native.Mathlib.Decide.{dec_lt}
use lib.ListN.{get_elem?}
use Rattle.st_turn.specs.Parts.{Facts, Booked, PassState, total, IsPrefix, numbered, HasNumber, IsCard, Parts}
use Rattle.st_turn.specs.Telling.{Learns, Saw}
use Rattle.st_turn.proofs.Totals.{total_at, each_on, number_self}

module _ {S E H : Type 0} (facts : S → Facts E H) (Keeps : S → S → Type 0) where
  pub learns : (key : Booked S) (id : ℕ) (p : PassState S E H) → HasNumber p → (x : Booked S) (ps : List (PassState S E H)) → Parts facts Keeps key x ps → get_elem? ps id ≡ some p → Learns facts Keeps x p
  learns key id p has x ps k at =
      record {
        start = key.spool;
        base = (k.each id p at).base has;
        keeps = k.keeps;
        own = k.each id p at;
        within = λ n e.
            let a = number_self n p.card.number e in
            let b = total_at (numbered n) ps id p at in
            let below : n < k.made = dite (dec_lt n k.made) (λ h. h) (λ h. absurd (let z = k.not_given n (omega arith) in omega arith)) in
            let few = k.few in omega arith;
        held = λ f. let a = total_at (λ q. total f q.held) ps id p at in let b = k.held f in omega arith;
        fits = k.fits;
      }

  pub saw : (key : Booked S) (id : ℕ) (p : PassState S E H) (x : Booked S) (ps : List (PassState S E H)) → Parts facts Keeps key x ps → get_elem? ps id ≡ some p → Saw p
  saw key id p x ps k at =
      record {
        history = (facts x.spool).history;
        seen = (k.each id p at).card.seen;
        notes = each_on (IsCard (facts x.spool) x.lines) (λ c. IsPrefix c.seen (facts x.spool).history) p.notes (λ c own. own.seen) (k.each id p at).notes;
      }
