-- The file sets that a spool holds, by the history that it stands for.
use Rattle.std.proofs.Common.{◌≡◌, ◌≤◌, ◌-◌, ℕ, zero, suc, List, [], ◌∷◌, length, get_or, take, drop, Option, None, Some, Contains, refl, sym, ◌∙◌, ap, subst, arith, length-drop}
use Rattle.std.specs.Prelude.{option_map}
use Rattle.std.proofs.Math.Seq.{drop-cons}
use Rattle.std.proofs.lemmas.List.{take_all, length-take}
use Rattle.st_disk.specs.Disks.{Log}
use Rattle.st_disk.specs.Events.{Event, Found, Publish, Remove}
use Rattle.st_disk.specs.Pairs.{Entry, Files, IsBelow, IsFileSet}
use Rattle.st_spool.specs.History.{set_of, entries_of, Legal}
use Rattle.st_spool.specs.Holding.{size_of, whole_set}
use Rattle.st_spool.specs.Recalling.{history, taken_count}
use Rattle.st_spool.specs.Standing.{StandsFor, Stands, after_found}
use Rattle.st_spool.specs.States.{SpoolState, held}
use Rattle.st_spool.specs.declared.state.Span.{Span}
use Rattle.st_answer.specs.Spools.{set_in}
use Rattle.st_answer.specs.Stores.{IsSetOfSize, OfEntry}

-- a part of a file set is one
below_drop : (k s : ℕ) (es : List Entry) → IsBelow s es → IsBelow s (drop k es)
below_drop zero s es h = h
below_drop (suc k) s [] h = h
below_drop (suc k) s (e ∷ es) h = below_drop k s es h.1

set_drop : (k : ℕ) (es : List Entry) → IsFileSet es → IsFileSet (drop k es)
set_drop zero es h = h
set_drop (suc k) [] h = h
set_drop (suc k) (e ∷ es) h = set_drop k es h.1

below_take : (k s : ℕ) (es : List Entry) → IsBelow s es → IsBelow s (take k es)
below_take zero s es h = tt
below_take (suc k) s [] h = h
below_take (suc k) s (e ∷ es) h = (h.0, below_take k s es h.1)

set_take : (k : ℕ) (es : List Entry) → IsFileSet es → IsFileSet (take k es)
set_take zero es h = tt
set_take (suc k) [] h = h
set_take (suc k) (e ∷ es) h = (below_take k e.stamp es h.0, set_take k es h.1)

-- the length of a hold's set
held_length : (hold : Span) (h : List Event) → hold.from ≤ hold.to → hold.to ≤ length (entries_of h) → length (held hold h) ≡ size_of hold
held_length hold h low high =
    let a = length-take (hold.to - hold.from) (drop hold.from (entries_of h)) in
    let b = length-drop hold.from (entries_of h) in
    omega (arith, a, b, low, high)

-- what the set of a hold is, if it is known
pub known_set : (W : List ℕ → List ℕ → Type 0) (known : Option Log) (st : SpoolState) (earlier h : List Event) (f : Files) (hold : Span) (set : List Entry)
    → StandsFor W known st earlier h f → set_in (option_map (history st) known) hold ≡ Some set → (log : Log) × (known ≡ Some log) × (held hold h ≡ set)
known_set W None st earlier h f hold set stands is = absurd (cc)
known_set W (Some log) st earlier h f hold set stands is =
    let recalls = (stands.disk log refl).recalls in
    let here : held hold (history st log) ≡ set = cc in
    (log, refl, ap (held hold) (sym recalls) ∙ here)

pub set_of_size : (W : List ℕ → List ℕ → Type 0) (known : Option Log) (st : SpoolState) (hold : Span) → Stands W known st → Contains st.holds hold
    → IsSetOfSize (set_in (option_map (history st) known) hold) (size_of hold)
set_of_size W known st hold (earlier, h, f, stands) has set is =
    let (log, told, same) = known_set W known st earlier h f hold set stands is in
    let within = stands.holds hold has in (
      ap length (sym same) ∙ held_length hold h within.0 within.1,
      subst IsFileSet same (set_take (hold.to - hold.from) (drop hold.from (entries_of h)) (set_drop hold.from (entries_of h) stands.rises)),
    )

-- of an entry of a hold: what is so wherever the spool stands for a history
pub of_entry : (W : List ℕ → List ℕ → Type 0) (known : Option Log) (st : SpoolState) (hold : Span) (i : ℕ) (P : Entry → Type 0) → Stands W known st
    → ((log : Log) (earlier h : List Event) (f : Files) (e : Entry) (after : List Entry) → known ≡ Some log → StandsFor W known st earlier h f → drop i (held hold h) ≡ e ∷ after → P e)
    → OfEntry (set_in (option_map (history st) known) hold) i P
of_entry W known st hold i P (earlier, h, f, stands) each set d is below =
    let (log, told, same) = known_set W known st earlier h f hold set stands is in
    let at = drop-cons set i d below in
    each log earlier h f (get_or set i d) (drop (suc i) set) told stands (ap (drop i) same ∙ at)

-- a history begins with what was found
length_after : (limit : ℕ) (h : List Event) → Legal limit h → length h ≡ suc (length (after_found h))
length_after limit [] legal = absurd legal
length_after limit (Found es ∷ h) legal = refl
length_after limit (Publish e ∷ h) legal = absurd legal
length_after limit (Remove s ∷ h) legal = absurd legal

-- a hold of all that is published took the whole history
pub taken_all : (W : List ℕ → List ℕ → Type 0) (known : Option Log) (st : SpoolState) → Stands W known st → st.asked ≡ whole_set st
    → option_map (take (taken_count st)) (option_map (history st) known) ≡ option_map (history st) known
taken_all W None st stands asked = refl
taken_all W (Some log) st (earlier, h, f, stands) asked =
    let recalls = (stands.disk log refl).recalls in
    let from = ap (λ (s : Span). s.from) asked in
    let to = ap (λ (s : Span). s.to) asked in
    let long = length_after st.limit h stands.legal in
    let same = ap length recalls in
    ap Some (take_all (taken_count st) (history st log) (omega (arith, from, to, long, same, stands.counts)))

-- the set of a hold of all that is published is that of the history
pub whole_held : (W : List ℕ → List ℕ → Type 0) (known : Option Log) (st : SpoolState) (earlier h : List Event) (f : Files) (hold : Span)
    → StandsFor W known st earlier h f → held hold h ≡ set_of h → set_in (option_map (history st) known) hold ≡ option_map set_of (option_map (history st) known)
whole_held W None st earlier h f hold stands is = refl
whole_held W (Some log) st earlier h f hold stands is =
    let recalls = (stands.disk log refl).recalls in
    ap Some (subst (λ z. held hold z ≡ set_of z) (sym recalls) is)
