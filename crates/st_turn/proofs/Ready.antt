-- From the spool as it was taken to the end of the turn, in the words of the calls.
use Rattle.std.proofs.Common.{◌≡◌, ℕ, List, [], ◌∷◌, Some, None, Bool, sym, ◌∙◌, ap, subst}
use Rattle.st_turn.specs.declared.book.Line.{Line}
use Rattle.st_turn.specs.Turn.{SeatState, turning}
use Rattle.st_turn.specs.Parts.{Facts, Booked, PassState}
use Rattle.st_turn.specs.Telling.{Learns}
use Rattle.st_turn.specs.Calls.{IsTurn, MayTurn}

module _ {S E H : Type 0} (facts : S → Facts E H) (Keeps : S → S → Type 0) where
  pub ready : (me : SeatState (Booked S) (PassState S E H)) (p : PassState S E H) (x : Booked S) (v : S) (lines : List Line) (before : ℕ) (w : S) (next : List H) (stopped : Bool)
      → me ≡ (turning x p, (0, None) ∷ []) → Learns facts Keeps x p → record { spool = v; lines = lines } ≡ x → before ≡ (facts v).faults → MayTurn facts Keeps v w p.held next stopped
      → (y : Booked S) × (n : List H) × (me ≡ (turning y me.0.pass, (0, None) ∷ [])) × Learns facts Keeps y me.0.pass × (lines ≡ y.lines) × (before ≡ (facts y.spool).faults) × MayTurn facts Keeps y.spool w me.0.pass.held n stopped
  ready me p x v lines before w next stopped is learns view count may =
      let same : p ≡ me.0.pass = sym (ap (λ (m : SeatState (Booked S) (PassState S E H)). m.0.pass) is) in
      let spool : v ≡ x.spool = ap (λ (b : Booked S). b.spool) view in (
        x,
        next,
        subst (λ (q : PassState S E H). me ≡ (turning x q, (0, None) ∷ [])) same is,
        subst (λ (q : PassState S E H). Learns facts Keeps x q) same learns,
        ap (λ (b : Booked S). b.lines) view,
        count ∙ ap (λ (s : S). (facts s).faults) spool,
        subst (λ (q : PassState S E H). MayTurn facts Keeps x.spool w q.held next stopped) same (subst (λ (s : S). MayTurn facts Keeps s w p.held next stopped) spool may),
      )

  pub done : (me : SeatState (Booked S) (PassState S E H)) (p q state : PassState S E H) (x : Booked S) (v : S) (lines : List Line) (w : S)
      → me ≡ (turning x p, (0, None) ∷ []) → record { spool = v; lines = lines } ≡ x → p ≡ state
      → ((y : Booked S) → me.0.taken ≡ Some y → IsTurn facts y.spool w me.0.pass q) → IsTurn facts v w state q
  done me p q state x v lines w is view same turn =
      let t : IsTurn facts x.spool w me.0.pass q = turn x (ap (λ (m : SeatState (Booked S) (PassState S E H)). m.0.taken) is) in
      subst (λ (s : S). IsTurn facts s w state q) (sym (ap (λ (b : Booked S). b.spool) view))
      (subst (λ (r : PassState S E H). IsTurn facts x.spool w r q) (ap (λ (m : SeatState (Booked S) (PassState S E H)). m.0.pass) is ∙ same) t)
