-- The rule of a spool that passes share: what holds, between any two steps, of the spool, of its
-- book and of what each pass knows. The spool is meant as it is at home or, while one pass has the
-- turn, as that pass took it.
use Rattle.std.specs.Prelude.{◌≡◌, ◌<◌, ◌≤◌, ◌+◌, ◌-◌, ◌^◌, ℕ, zero, suc, List, [], ◌∷◌, ◌++◌, length, min, Option, None, Some, cond, nat_eq}
use mathlib.Core.Option.{some}
use lib.ListN.{get_elem?}
use Rattle.st_turn.specs.declared.book.Line.{Line}

-- what the rule reads of a spool: its history, its holds, its shelf's count of faults, and how many
-- of its publications and ageings failed
pub record Facts (E H : Type 0) : Type 0 where
  pub history : List E
  pub holds : List H
  pub faults : ℕ
  pub halts : ℕ

-- what lies in the slot: the spool, and the book with a line for each pass
pub record Booked (S : Type 0) : Type 0 where
  pub spool : S
  pub lines : List Line

-- What a pass saw and counted: its number among the passes, if it has one; the history, as the pass
-- saw it last; where in that history the events of its own turns are; its two counts of the book;
-- and how many publications and ageings of the spool had failed, as its last turn left them.
pub record Card (E : Type 0) : Type 0 where
  pub number : Option ℕ
  pub seen : List E
  pub own : List ℕ
  pub failed : ℕ
  pub stops : ℕ
  pub halts : ℕ

-- A pass: its card; the spool as it was shared; of how many passes it is one; how many numbers are
-- given out, which the pass with number 0 alone knows; its holds; how many it took in all, and
-- the history that the last of these took; and the cards of the passes that were joined into it.
pub record PassState (S E H : Type 0) : Type 0 where
  pub card : Card E
  pub base : Option S
  pub passes : ℕ
  pub made : ℕ
  pub held : List H
  pub asks : ℕ
  pub asked : List E
  pub notes : List (Card E)

-- the sum of a number of each member
abbrev pub total : {A : Type 0} → (A → ℕ) → List A → ℕ
total f [] = 0
total f (x ∷ xs) = f x + total f xs

-- the first list begins the second
abbrev pub IsPrefix : {A : Type 0} → List A → List A → Type 0
IsPrefix {A} xs ys = (rest : List A) × (ys ≡ xs ++ rest)

-- each member has P
abbrev pub Each : {A : Type 0} → (A → Type 0) → List A → Type 0
Each P [] = Unit {0}
Each P (x ∷ xs) = P x × Each P xs

-- each number is above all before it
abbrev pub Rises : List ℕ → Type 0
Rises [] = Unit {0}
Rises (n ∷ ns) = Each (λ k. n < k) ns × Rises ns

-- 1 if two numbers are equal, and 0 if not
abbrev pub is_same : ℕ → ℕ → ℕ
is_same n k = cond (nat_eq n k) 1 0

-- 1 if there is a number and it is this one, and 0 if not
abbrev pub is_number : ℕ → Option ℕ → ℕ
is_number n None = 0
is_number n (Some k) = is_same n k

-- the line of a pass that did nothing
abbrev pub blank : Line
blank = record { failed = 0; stops = 0 }

-- the line with this number, from 0 on, and a blank one past the last
abbrev pub line_of : List Line → ℕ → Line
line_of [] n = blank
line_of (l ∷ ls) zero = l
line_of (l ∷ ls) (suc n) = line_of ls n

module _ {E H : Type 0} where
  -- what is so of a card, of a pass or of one of its notes, with the spool and its book as they are
  pub record IsCard (h : Facts E H) (lines : List Line) (c : Card E) : Type 0 where
    pub seen : IsPrefix c.seen h.history
    pub below : Each (λ k. k < length c.seen) c.own
    pub rises : Rises c.own
    pub halts : c.halts ≤ h.halts
    pub stops : c.stops ≤ c.failed
    pub fits : c.failed < 2 ^ 64
    pub line : (n : ℕ) → c.number ≡ Some n
        → (c.failed ≡ (line_of lines n).failed) × (c.stops ≡ (line_of lines n).stops)
    -- a pass without a number was cut off another one, and did nothing
    pub unnumbered : c.number ≡ None
        → (c.own ≡ []) × (c.failed ≡ 0) × (c.stops ≡ 0) × (c.halts ≡ 0)

module _ {S E H : Type 0} where
  -- how many of a pass and its notes have this number
  abbrev pub numbered : ℕ → PassState S E H → ℕ
  numbered n p = is_number n p.card.number + total (λ c. is_number n c.number) p.notes

  -- how often a pass and its notes own this place
  abbrev pub owned : ℕ → PassState S E H → ℕ
  owned k p = total (is_same k) p.card.own + total (λ c. total (is_same k) c.own) p.notes

  -- a pass has a number
  abbrev pub HasNumber : PassState S E H → Type 0
  HasNumber p = (n : ℕ) × (p.card.number ≡ Some n)

  -- what is so of a pass, with the spool as it was shared, and as it is, with its book
  pub record IsPass (start : S) (h : Facts E H) (lines : List Line) (p : PassState S E H)
      : Type 0 where
    pub card : IsCard h lines p.card
    pub notes : Each (IsCard h lines) p.notes
    pub base : HasNumber p → p.base ≡ Some start
    pub passes : HasNumber p → p.passes ≡ length lines
    pub asked : IsPrefix p.asked p.card.seen
    pub unnumbered : p.card.number ≡ None → p.held ≡ []

  -- The rule. Of a spool it reads the facts; `Keeps` says what a later state of a spool keeps of an
  -- earlier one; `key` is the spool and the book as it was shared.
  pub record Parts (facts : S → Facts E H) (Keeps : S → S → Type 0) (key now : Booked S)
      (ps : List (PassState S E H)) : Type 0 where
    -- numbers: each below `made` is that of one pass or note, and no other is given out; one pass
    -- has number 0, and knows how many are given out
    pub made : ℕ
    pub few : made ≤ length now.lines
    pub given : (n : ℕ) → n < made → total (numbered n) ps ≡ 1
    pub not_given : (n : ℕ) → made ≤ n → total (numbered n) ps ≡ 0
    pub lead : total (λ p. is_number 0 p.card.number) ps ≡ 1
    pub first : (i : ℕ) (p : PassState S E H) → get_elem? ps i ≡ some p → p.card.number ≡ Some 0
        → p.made ≡ made
    -- passes: each saw a beginning of the one history, no two own one place, and the spool's holds
    -- are those of all passes, each as often as it is held
    pub each : (i : ℕ) (p : PassState S E H) → get_elem? ps i ≡ some p
        → IsPass key.spool (facts now.spool) now.lines p
    pub places : (k : ℕ) → total (owned k) ps ≤ 1
    pub held : (f : H → ℕ) → total (λ p. total f p.held) ps ≡ total f (facts now.spool).holds
    -- the book: a line for each pass, zeros where no number is given out; the shelf's count rose at
    -- least as often as the lines say, or stands at its greatest number, and no more publications
    -- and ageings failed than they say
    pub wide : length now.lines ≡ length key.lines
    pub unmade : (n : ℕ) → made ≤ n → line_of now.lines n ≡ blank
    pub faults : min ((facts key.spool).faults + total (λ l. l.failed) now.lines) (2 ^ 64 - 1)
        ≤ (facts now.spool).faults
    pub fits : (facts now.spool).halts < 2 ^ 64
    pub halts : (facts now.spool).halts
        ≤ (facts key.spool).halts + total (λ l. l.stops) now.lines
    -- what the spool keeps of itself as it was shared
    pub keeps : Keeps key.spool now.spool
