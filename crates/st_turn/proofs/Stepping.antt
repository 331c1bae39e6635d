-- Each kind of step of a caller is allowed, in the form that the table's calls ask for.
use Rattle.std.proofs.Common.{◌≡◌, ℕ, ◌<◌, ◌≤◌, ◌^◌, List, [], ◌∷◌, length, eqb, replicate, Option, Some, sym, subst}
use mathlib.Core.Option.{some, none}
use prog.Atomic.{either}
use lib.ListN.{get_elem?}
use Rattle.atomic_table.specs.Table.{step, Allows, Splits, Joins, Final, Seen, opening}
use Rattle.st_turn.specs.Turn.{Caller, SeatState, idle, turning, with_pass, Turning, Takes, Gives, Looks}
use Rattle.st_turn.specs.Parts.{Facts, Booked, PassState, is_number, blank, HasNumber, Parts}
use Rattle.st_turn.specs.Steps.{visitor, starts, gave_out, next_pass, joined, Moves}
use Rattle.st_turn.specs.Telling.{Learns, Saw}
use Rattle.st_turn.specs.Ends.{gathered, AreNumbered, Ended}
use Rattle.st_turn.proofs.Turns.{try_takes, gives_back, looks_on, splits, joins, opens, ends}
use Rattle.st_turn.proofs.Moved.{moves_keeps}
use Rattle.st_turn.proofs.Joined.{number_keeps, visit_keeps, join_keeps}
use Rattle.st_turn.proofs.Ending.{starts_keeps, alone, ended}
use Rattle.st_turn.proofs.Telling.{learns, saw}

module _ {S E H : Type 0} (facts : S → Facts E H) (Keeps : S → S → Type 0) (key : Booked S) where
  abbrev Seat : Type 0
  Seat = SeatState (Booked S) (PassState S E H)

  pub may_take : (slots id : ℕ) (me : Seat) → me ≡ (idle me.0.pass, []) → HasNumber me.0.pass
      → Allows (Turning HasNumber (Parts facts Keeps key)) slots id me 0 (λ n. either (eqb n 0) 1 n) (Takes (Learns facts Keeps) (step slots 0 0 1 none) me)
  may_take slots id me is has =
      subst (λ (m : Seat). Allows (Turning HasNumber (Parts facts Keeps key)) slots id m 0 (λ n. either (eqb n 0) 1 n) (Takes (Learns facts Keeps) (step slots 0 0 1 none) m)) (sym is)
      (try_takes HasNumber (Parts facts Keeps key) slots id me.0.pass (Learns facts Keeps) has (learns facts Keeps key id me.0.pass has))

  pub may_give : (makes : Booked S → Booked S → PassState S E H → PassState S E H → Type 0) (slots id : ℕ) (me : Seat) (x y : Booked S) (q : PassState S E H) → me ≡ (turning x me.0.pass, (0, Some y) ∷ []) → Moves facts Keeps x y me.0.pass q → makes x y me.0.pass q
      → Allows (Turning HasNumber (Parts facts Keeps key)) slots id me 0 (λ _. 0) (λ _. Gives (λ a b p r. Moves facts Keeps a b p r × makes a b p r) (step slots 0 0 0 none) me 0)
  may_give makes slots id me x y q is moved made =
      subst (λ (m : Seat). Allows (Turning HasNumber (Parts facts Keeps key)) slots id m 0 (λ _. 0) (λ _. Gives (λ a b p r. Moves facts Keeps a b p r × makes a b p r) (step slots 0 0 0 none) m 0)) (sym is)
      (gives_back HasNumber (Parts facts Keeps key) slots id x y me.0.pass q (λ a b p r. Moves facts Keeps a b p r × makes a b p r) (moves_keeps facts Keeps key x y id me.0.pass q moved) (moved, made))

  pub may_look : (slots id : ℕ) (me : Seat) → me ≡ (idle me.0.pass, [])
      → Allows (Turning HasNumber (Parts facts Keeps key)) slots id me 0 (λ n. n) (Looks Saw (step slots 0 0 0 none) me)
  may_look slots id me is =
      subst (λ (m : Seat). Allows (Turning HasNumber (Parts facts Keeps key)) slots id m 0 (λ n. n) (Looks Saw (step slots 0 0 0 none) m)) (sym is)
      (looks_on HasNumber (Parts facts Keeps key) slots id me.0.pass Saw (saw facts Keeps key id me.0.pass))

  pub may_number : (id : ℕ) (d : Caller (Booked S) (PassState S E H)) → d ≡ idle d.pass → d.pass.card.number ≡ Some 0 → d.pass.made < length key.lines
      → Splits (Turning HasNumber (Parts facts Keeps key)) id d (with_pass gave_out d) (idle (next_pass d.pass))
  may_number id d is zero_is below =
      subst (λ (c : Caller (Booked S) (PassState S E H)). Splits (Turning HasNumber (Parts facts Keeps key)) id c (with_pass gave_out c) (idle (next_pass c.pass))) (sym is)
      (splits HasNumber (Parts facts Keeps key) id d.pass (gave_out d.pass) (next_pass d.pass) (λ x ps k at. number_keeps facts Keeps key x id d.pass zero_is below ps k at))

  pub may_visit : (id : ℕ) (d : Caller (Booked S) (PassState S E H)) → d ≡ idle d.pass
      → Splits (Turning HasNumber (Parts facts Keeps key)) id d d (idle (visitor d.pass.card.seen))
  may_visit id d is =
      subst (λ (c : Caller (Booked S) (PassState S E H)). Splits (Turning HasNumber (Parts facts Keeps key)) id c c (idle (visitor c.pass.card.seen))) (sym is)
      (splits HasNumber (Parts facts Keeps key) id d.pass d.pass (visitor d.pass.card.seen) (λ x ps k at. visit_keeps facts Keeps key x id d.pass ps k at))

  pub may_join : (id other : ℕ) (d e : Caller (Booked S) (PassState S E H)) → d ≡ idle d.pass → e ≡ idle e.pass → HasNumber d.pass → is_number 0 e.pass.card.number ≡ 0
      → Joins (Turning HasNumber (Parts facts Keeps key)) id d other e (idle (joined d.pass e.pass)) (idle (visitor []))
  may_join id other d e is its has not_lead =
      subst (λ (c : Caller (Booked S) (PassState S E H)). Joins (Turning HasNumber (Parts facts Keeps key)) id c other e (idle (joined d.pass e.pass)) (idle (visitor []))) (sym is)
      (subst (λ (c : Caller (Booked S) (PassState S E H)). Joins (Turning HasNumber (Parts facts Keeps key)) id (idle d.pass) other c (idle (joined d.pass e.pass)) (idle (visitor []))) (sym its)
      (joins HasNumber (Parts facts Keeps key) id other d.pass e.pass (joined d.pass e.pass) (visitor []) (λ x ps k at apart there. join_keeps facts Keeps key x id other d.pass e.pass has not_lead ps k at apart there)))

  pub may_open : (n : ℕ) → key.lines ≡ replicate n blank → length key.lines ≡ n → 1 ≤ n → (facts key.spool).holds ≡ [] → (facts key.spool).halts < 2 ^ 64 → Keeps key.spool key.spool
      → Turning HasNumber (Parts facts Keeps key) (opening (0 ∷ []) (Some key ∷ []) (idle (starts key.spool (facts key.spool) 0 n 1)))
  may_open n lines len some_lines no_holds fits same =
      opens HasNumber (Parts facts Keeps key) key (starts key.spool (facts key.spool) 0 n 1) (starts_keeps facts Keeps key n lines len some_lines no_holds fits same)

  pub may_end : (id : ℕ) (p : PassState S E H) (os : List (PassState S E H)) (d : Caller (Booked S) (PassState S E H)) (ws : List ℕ) (xs : List (Option (Booked S))) → d ≡ idle (gathered p os) → AreNumbered 0 (p ∷ os) → length (p ∷ os) ≡ length key.lines
      → Final (Seen (Turning HasNumber (Parts facts Keeps key)) id d) ws xs
      → (x : Booked S) × (get_elem? xs 0 ≡ some (Some x)) × Ended (facts key.spool) (facts x.spool) (p ∷ os) × Keeps key.spool x.spool
  may_end id p os d ws xs is numbers len final =
      let shut : Final (Seen (Turning HasNumber (Parts facts Keeps key)) id (idle (gathered p os))) ws xs = subst (λ (c : Caller (Booked S) (PassState S E H)). Final (Seen (Turning HasNumber (Parts facts Keeps key)) id c) ws xs) is final in
      let out = ends HasNumber (Parts facts Keeps key) id (gathered p os) ws xs (λ x ps i q k at there has. alone facts Keeps key p os numbers len x ps id i q k at there has) shut in
      let told = ended facts Keeps key p os numbers len out.0 out.1 id out.3 out.4 in
      (out.0, out.2, told.0, told.1)
