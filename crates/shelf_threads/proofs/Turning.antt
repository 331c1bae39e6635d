-- Taking the turn and giving it back keep the rule.
use Rattle.std.proofs.Common.{◌≡◌, ℕ, List, [], ◌∷◌, length, Option, Some, refl, ◌∙◌, ap, arith, slice_index, slice_set}
use mathlib.Core.Logic.{dite}
use native.Mathlib.Decide.{ℕ_discrete}
use mathlib.Core.Option.{Option as Home, some}
use Rattle.atomic_table.specs.Table.{Me, Step, keeps, takes, gives, put_back, Allows, Arrives}
use lib.ListN.{get_elem?}
use Rattle.shelf_threads.specs.Turns.{IsAtHome, Took}

one_word : (ws : List ℕ) (n : ℕ) → length ws ≡ 1 → (length (slice_set ws 0 n) ≡ 1) × (slice_index (slice_set ws 0 n) 0 ≡ n)
one_word [] n e = absurd (omega arith)
one_word (w ∷ ws) n e = (e, refl)

one_home : {Y : Type 0} (hs : List Y) (h : Y) → length hs ≡ 1 → slice_set hs 0 h ≡ h ∷ []
one_home [] h e = absurd (omega arith)
one_home (k ∷ []) h e = refl
one_home (k ∷ (l ∷ ls)) h e = absurd (omega arith)

module _ {X V : Type 0} where
  pub seizes : (v : V) (p : Step (Option X)) (me : Me (Option X) V) → Arrives IsAtHome 1 0 (λ _. 1) (Took p me)
  seizes v p me s holds slots small =
      let word = one_word s.words 1 holds.0 in
      dite
      (ℕ_discrete (slice_index s.words 0) 0)
      (λ e. let here = holds.1 e in (v, takes 0 (Some here.0), ap (λ (hs : List (Home (Option X))). get_elem? hs 0) here.1, (word.0, λ z. absurd (omega (arith, word.1))), λ r. (here.0, refl)))
      (λ n. (v, keeps, tt, (word.0, λ z. absurd (omega (arith, word.1))), λ r. absurd (n r)))

  pub releases : (id : ℕ) (me : Me (Option X) V) (x : X) → me.1 ≡ (0, Some x) ∷ [] → Allows IsAtHome 1 id me 0 (λ _. 0) (λ _ _. Unit {0})
  releases id me x has s holds slots here small =
      let word = one_word s.words 0 holds.0 in
      (me.0, gives, tt, (word.0, λ z. (x, ap (put_back s.homes) has ∙ one_home s.homes (some (Some x)) slots)), tt)
