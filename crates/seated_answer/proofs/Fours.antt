-- Four passes, taken from the end of a list and put back in its order.
use Rattle.std.proofs.Common.{◌≡◌, ◌<◌, ◌+◌, ℕ, List, [], ◌∷◌, ◌++◌, length, map, Option, Some, None, refl, ◌∙◌, ap, arith, length-append}
use Rattle.std.specs.Prelude.{IsSome, option_to_list}
use Rattle.st_disk.specs.Disks.{Log}
use Rattle.st_disk.specs.Events.{Event}
use Rattle.st_spool.specs.declared.state.Span.{Span}
use Rattle.st_turn.specs.Parts.{Facts, PassState}
use Rattle.st_turn.specs.Passes.{PassView, SharedView, AreOf, AreStarted, state_of}
use Rattle.st_turn.specs.Steps.{starts}
use Rattle.st_turn.specs.Ends.{AreNumbered}
use Rattle.st_seated.specs.Sitting.{StartsSeatable}
use Rattle.seated_answer.specs.Resting.{Rests, Rested}
use Rattle.seated_answer.proofs.Rests.{rests_at}

-- four members that were popped, the last one first
pub record Popped {A : Type 0} (all : List A) (a b c d : Option A) : Type 0 where
  pub w : A
  pub x : A
  pub y : A
  pub z : A
  pub a_is : a ≡ Some w
  pub b_is : b ≡ Some x
  pub c_is : c ≡ Some y
  pub d_is : d ≡ Some z
  pub all_is : all ≡ w ∷ (x ∷ (y ∷ (z ∷ [])))

none_left : {A : Type 0} (xs : List A) → length xs ≡ 0 → xs ≡ []
none_left [] len = refl
none_left (x ∷ xs) len = absurd (omega arith)

module _ {A : Type 0} (all three two one none : List A) (n4 n3 n2 n1 n0 : ℕ) (whole : length all ≡ 4) (len : n4 ≡ 4) where
  pub popped : (a b c d : Option A) → (0 < n4 → IsSome d) → n3 + length (option_to_list d) ≡ n4 → all ≡ three ++ option_to_list d
      → (0 < n3 → IsSome c) → n2 + length (option_to_list c) ≡ n3 → three ≡ two ++ option_to_list c
      → (0 < n2 → IsSome b) → n1 + length (option_to_list b) ≡ n2 → two ≡ one ++ option_to_list b
      → (0 < n1 → IsSome a) → n0 + length (option_to_list a) ≡ n1 → one ≡ none ++ option_to_list a → Popped all a b c d
  popped a b c None sd ld ed sc lc ec sb lb eb sa la ea = absurd (let h : IsSome {T = A} None = sd (omega (arith, len)) in cc)
  popped a b None (Some z) sd ld ed sc lc ec sb lb eb sa la ea = absurd (let h : IsSome {T = A} None = sc (omega (arith, len, ld)) in cc)
  popped a None (Some y) (Some z) sd ld ed sc lc ec sb lb eb sa la ea = absurd (let h : IsSome {T = A} None = sb (omega (arith, len, ld, lc)) in cc)
  popped None (Some x) (Some y) (Some z) sd ld ed sc lc ec sb lb eb sa la ea = absurd (let h : IsSome {T = A} None = sa (omega (arith, len, ld, lc, lb)) in cc)
  popped (Some w) (Some x) (Some y) (Some z) sd ld ed sc lc ec sb lb eb sa la ea =
      let d = ap length ed ∙ length-append three (z ∷ []) in
      let c = ap length ec ∙ length-append two (y ∷ []) in
      let b = ap length eb ∙ length-append one (x ∷ []) in
      let a = ap length ea ∙ length-append none (w ∷ []) in
      let no : none ≡ [] = none_left none (omega (arith, whole, a, b, c, d)) in
      record {
        w = w;
        x = x;
        y = y;
        z = z;
        a_is = refl;
        b_is = refl;
        c_is = refl;
        d_is = refl;
        all_is = ed ∙ ap (λ (l : List A). l ++ z ∷ []) (ec ∙ ap (λ (l : List A). l ++ y ∷ []) (eb ∙ ap (λ (l : List A). l ++ x ∷ []) (ea ∙ ap (λ (l : List A). l ++ w ∷ []) no)));
      }

module _ {S : Type 0} (s : SharedView S) (h : Facts Event Span) (n made : ℕ) (w x y z : PassView S) (started : AreStarted s.table s.base h n made (w ∷ (x ∷ (y ∷ (z ∷ []))))) where
  module _ (sits : StartsSeatable S) (known : Option Log) where
    pub first_rests : Rests known s w
    first_rests = rests_at sits known s w h 0 n made started.0 started.1

    pub second_rests : Rests known s x
    second_rests = rests_at sits known s x h 1 n 0 started.2.0 started.2.1

    pub third_rests : Rests known s y
    third_rests = rests_at sits known s y h 2 n 0 started.2.2.0 started.2.2.1

    pub fourth_rests : Rests known s z
    fourth_rests = rests_at sits known s z h 3 n 0 started.2.2.2.0 started.2.2.2.1

  module _ (w' x' y' z' : PassView S) (one : Rested w w') (two : Rested x x') (three : Rested y y') (four : Rested z z') where
    number : (p q : PassView S) (i k : ℕ) → Rested p q → p.state ≡ starts s.base h i n k → q.state.card.number ≡ Some i
    number p q i k rested is = rested.same.3 ∙ ap (λ (r : PassState S Event Span). r.card.number) is

    pub are_of : AreOf s.table (w' ∷ (x' ∷ (y' ∷ (z' ∷ []))))
    are_of =
        (one.same.0 ∙ started.0, (two.same.0 ∙ started.2.0, (three.same.0 ∙ started.2.2.0, (four.same.0 ∙ started.2.2.2.0, tt))))

    pub are_numbered : AreNumbered 0 (map state_of (w' ∷ (x' ∷ (y' ∷ (z' ∷ [])))))
    are_numbered =
        (number w w' 0 made one started.1, one.empty, (number x x' 1 0 two started.2.1, two.empty, (number y y' 2 0 three started.2.2.1, three.empty, (number z z' 3 0 four started.2.2.2.1, four.empty, tt))))
