-- The table is shut, once the first pass took in all others: the spool is at home.
use Rattle.std.proofs.Common.{◌≡◌, ℕ, ◌≤◌, List, [], ◌∷◌, length, map, Option, Some, sym, ◌∙◌, ap, subst, arith}
use Rattle.std.proofs.lemmas.List.{length-map}
use mathlib.Core.Option.{some, some-injective}
use lib.ListN.{get_elem?}
use Rattle.atomic_table.specs.Table.{Final, Seen}
use Rattle.st_disk.specs.Events.{Event}
use Rattle.st_spool.specs.declared.state.Span.{Span}
use Rattle.st_turn.specs.Turn.{Caller, SeatState, idle, Turning}
use Rattle.st_turn.specs.Parts.{Facts, Booked, PassState, HasNumber, Parts}
use Rattle.st_turn.specs.Passes.{PassView, state_of}
use Rattle.st_turn.specs.Ends.{gathered_all, AreNumbered, Ended}
use Rattle.st_turn.proofs.Stepping.{may_end}

module _ {S : Type 0} (facts : S → Facts Event Span) (Keeps : S → S → Type 0) (key : Booked S) where
  shuts : (id : ℕ) (all : List (PassState S Event Span)) (d : Caller (Booked S) (PassState S Event Span)) (ws : List ℕ) (xs : List (Option (Booked S))) → d ≡ idle (gathered_all all) → AreNumbered 0 all → 1 ≤ length all → length all ≡ length key.lines
      → Final (Seen (Turning HasNumber (Parts facts Keeps key)) id d) ws xs
      → (x : Booked S) × (get_elem? xs 0 ≡ some (Some x)) × Ended (facts key.spool) (facts x.spool) all × Keeps key.spool x.spool
  shuts id [] d ws xs is numbers le len final = absurd (omega arith)
  shuts id (p ∷ os) d ws xs is numbers le len final = may_end facts Keeps key id p os d ws xs is numbers len final

  -- what was in the slot
  pub shut : (id : ℕ) (passes : List (PassView S)) (me : SeatState (Booked S) (PassState S Event Span)) (ws : List ℕ) (xs : List (Option (Booked S))) (slot : Option (Booked S)) (base : S) (count inside : ℕ)
      → me ≡ (idle me.0.pass, []) → me.0.pass ≡ gathered_all (map state_of passes) → AreNumbered 0 (map state_of passes) → length passes ≡ count → 1 ≤ count → inside ≡ count → length key.lines ≡ inside → key.spool ≡ base
      → Final (Seen (Turning HasNumber (Parts facts Keeps key)) id me.0) ws xs → get_elem? xs 0 ≡ some slot
      → (x : Booked S) × (slot ≡ Some x) × Ended (facts base) (facts x.spool) (map state_of passes) × Keeps base x.spool
  shut id passes me ws xs slot base count inside waits state numbers len some_passes same lines is final taken =
      let size = length-map passes state_of in
      let out = shuts id (map state_of passes) me.0 ws xs (ap (λ (m : SeatState (Booked S) (PassState S Event Span)). m.0) waits ∙ ap (λ (p : PassState S Event Span). idle p) state) numbers (omega arith) (omega arith) final in (
        out.0,
        some-injective slot (Some out.0) (sym taken ∙ out.1),
        subst (λ (b : S). Ended (facts b) (facts out.0.spool) (map state_of passes)) is out.2,
        subst (λ (b : S). Keeps b out.0.spool) is out.3,
      )

  pub in_slot : (slot : Option (Booked S)) (x y z : Booked S) → slot ≡ Some x → slot ≡ Some y → z ≡ y → x ≡ z
  in_slot slot x y z a b e = let h : Some x ≡ Some y = sym a ∙ b in let k : x ≡ y = cc in k ∙ sym e
