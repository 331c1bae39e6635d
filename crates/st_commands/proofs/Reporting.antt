-- Lines of pairs, one after the other.
use Rattle.std.proofs.Common.{◌≡◌, ◌≤◌, ◌+◌, ℕ, List, [], ◌∷◌, ◌++◌, length, length-append, drop, refl, sym, ◌∙◌, ap, subst, arith, append-nil, Option, Err, inl, inr}
use Rattle.std.proofs.lemmas.Grind.{flat_map-append}
use Rattle.std.specs.Io.KnownBytes.{Appends}
use Rattle.std.proofs.KnownBytes.{Appends-trans, Appends-nil}
use Rattle.st_base.specs.Pieces.{AppendsPrefix}
use Rattle.st_base.proofs.Putting.{prefix-then}
use Rattle.st_disk.specs.Pairs.{Entry}
use Rattle.st_commands.specs.Reports.{LineView, IsLine, AreLines, IsSaid, text_of, first_of_two, outcome_of, TellsPair, WritesAll, Reports}
use Rattle.st_commands.specs.Telling.{Stops}
use Rattle.st_commands.specs.declared.outcomes.Outcome.{Outcome}
use Rattle.st_commands.specs.declared.outcomes.Outcome.TheVariants.{Done, WriteFault, DiskFault, Damaged, NoMemory}
use Rattle.st_commands.specs.declared.outcomes.PairErr.{PairErr}
use Rattle.st_commands.specs.declared.outcomes.PairErr.TheVariants as pair
use Rattle.st_commands.specs.declared.outcomes.Report.{Report}

lines_length : (r : Report) (ps : List Entry) (ls : List LineView) (rest : List Entry) → AreLines r ps ls rest → length ps ≡ length ls + length rest
lines_length r ps [] rest are = let e : length ps ≡ length rest = ap length are in omega arith
lines_length r [] (l ∷ ls) rest are = absurd are
lines_length r (e ∷ ps) (l ∷ ls) rest are = let more = lines_length r ps ls rest are.1 in omega arith

lines_drop : (r : Report) (ps : List Entry) (ls : List LineView) (rest : List Entry) → AreLines r ps ls rest → drop (length ls) ps ≡ rest
lines_drop r ps [] rest are = are
lines_drop r [] (l ∷ ls) rest are = absurd are
lines_drop r (e ∷ ps) (l ∷ ls) rest are = lines_drop r ps ls rest are.1

lines_more : (r : Report) (ps : List Entry) (ls : List LineView) (e : Entry) (l : LineView) (rest : List Entry) → AreLines r ps ls (e ∷ rest) → IsLine r e l
    → AreLines r ps (ls ++ l ∷ []) rest
lines_more r [] [] e l rest are is = absurd (cc)
lines_more r (p ∷ ps) [] e l rest are is =
    subst (λ (qs : List Entry). AreLines r qs (l ∷ []) rest) (sym are) (is, refl)
lines_more r [] (k ∷ ls) e l rest are is = absurd are
lines_more r (p ∷ ps) (k ∷ ls) e l rest are is = (are.0, lines_more r ps ls e l rest are.1 is)

text_more : (ls : List LineView) (l : LineView) → text_of (ls ++ l ∷ []) ≡ text_of ls ++ l.text
text_more ls l = flat_map-append (λ (l : LineView). l.text) ls (l ∷ []) ∙ ap (λ t. text_of ls ++ t) (append-nil l.text)

assoc : (a b c : Outcome) → first_of_two a (first_of_two b c) ≡ first_of_two (first_of_two a b) c
assoc Done b c = refl
assoc WriteFault b c = refl
assoc DiskFault b c = refl
assoc (Damaged s d) b c = refl
assoc NoMemory b c = refl

then_done : (a : Outcome) → first_of_two a Done ≡ a
then_done Done = refl
then_done WriteFault = refl
then_done DiskFault = refl
then_done (Damaged s d) = refl
then_done NoMemory = refl

says_more : (ls : List LineView) (l : LineView) → outcome_of (ls ++ l ∷ []) ≡ first_of_two (outcome_of ls) l.outcome
says_more [] l = then_done l.outcome
says_more (k ∷ ls) l = ap (first_of_two k.outcome) (says_more ls l) ∙ assoc k.outcome (outcome_of ls) l.outcome

-- the lines of the first pairs were written, so many, and say this
pub record Progress (r : Report) (ps : List Entry) (old new : Option (List ℕ)) (found : Outcome) (i : ℕ) : Type 0 where
  pub lines : List LineView
  pub rest : List Entry
  pub are : AreLines r ps lines rest
  pub says : outcome_of lines ≡ found
  pub count : length lines ≡ i
  pub put : Appends old new (text_of lines)

pub begun : (r : Report) (ps : List Entry) (old : Option (List ℕ)) → Progress r ps old old Done 0
begun r ps old = record { lines = []; rest = ps; are = refl; says = refl; count = refl; put = Appends-nil old }

here : (r : Report) (ps : List Entry) (old new : Option (List ℕ)) (found : Outcome) (i : ℕ) (e : Entry) (after : List Entry) (p : Progress r ps old new found i)
    → drop i ps ≡ e ∷ after → AreLines r ps p.lines (e ∷ after)
here r ps old new found i e after p at =
    let now : p.rest ≡ e ∷ after = sym (lines_drop r ps p.lines p.rest p.are) ∙ (ap (λ n. drop n ps) p.count ∙ at) in
    subst (AreLines r ps p.lines) now p.are

pub next_line : (r : Report) (ps : List Entry) (old mid new : Option (List ℕ)) (found : Outcome) (i : ℕ) (e : Entry) (after : List Entry) (l : LineView)
    → Progress r ps old mid found i → drop i ps ≡ e ∷ after → IsLine r e l → Appends mid new l.text → Progress r ps old new (first_of_two found l.outcome) (i + 1)
next_line r ps old mid new found i e after l p at is put = record {
  lines = p.lines ++ l ∷ [];
  rest = after;
  are = lines_more r ps p.lines e l after (here r ps old mid found i e after p at) is;
  says = says_more p.lines l ∙ ap (λ o. first_of_two o l.outcome) p.says;
  count = let n = p.count in let m : length (p.lines ++ l ∷ []) ≡ length p.lines + 1 = length-append p.lines (l ∷ []) in omega arith;
  put = subst (Appends old new) (sym (text_more p.lines l)) (Appends-trans old mid new (text_of p.lines) l.text p.put put);
}

-- the line's text was written in part
pub failed_line : (r : Report) (ps : List Entry) (old mid new : Option (List ℕ)) (found : Outcome) (i : ℕ) (e : Entry) (after : List Entry) (l : LineView)
    → Progress r ps old mid found i → drop i ps ≡ e ∷ after → IsLine r e l → AppendsPrefix mid new l.text → Reports r ps old new WriteFault
failed_line r ps old mid new found i e after l p at is put = record {
  lines = p.lines ++ l ∷ [];
  rest = after;
  are = lines_more r ps p.lines e l after (here r ps old mid found i e after p at) is;
  put = subst (AppendsPrefix old new) (sym (text_more p.lines l)) (prefix-then old mid new (text_of p.lines) l.text p.put put);
}

-- the pair has no line
pub no_line : (r : Report) (ps : List Entry) (old new : Option (List ℕ)) (found : Outcome) (i : ℕ) (e : Entry) (after : List Entry) (stamp : ℕ) (x : PairErr) (o : Outcome)
    → Progress r ps old new found i → drop i ps ≡ e ∷ after → stamp ≡ e.stamp → TellsPair r e (Err x) → Stops stamp x o → Reports r ps old new o
no_line r ps old new found i e after stamp pair.DiskFault o p at same tells stops =
    subst (Reports r ps old new) (sym stops) (record { lines = p.lines; rest = p.rest; are = p.are; put = p.put })
no_line r ps old new found i e after stamp (pair.Damaged d) o p at same tells stops =
    subst (Reports r ps old new) (sym stops)
    (inr (record { lines = p.lines; e = e; rest = after; are = here r ps old new found i e after p at; stamp_is = sym same; none = tells; put = p.put }))
no_line r ps old new found i e after stamp pair.NoMemory o p at same tells stops =
    subst (Reports r ps old new) (sym stops) (record { lines = p.lines; rest = p.rest; are = p.are; put = p.put })

empty : {X : Type 0} (xs : List X) → length xs ≡ 0 → xs ≡ []
empty [] e = refl
empty (x ∷ xs) e = absurd (omega arith)

all_lines : (r : Report) (ps : List Entry) (old new : Option (List ℕ)) (found : Outcome) (i : ℕ) → Progress r ps old new found i → length ps ≤ i → WritesAll r ps old new found
all_lines r ps old new found i p end =
    let n = lines_length r ps p.lines p.rest p.are in
    let none : p.rest ≡ [] = empty p.rest (let k = p.count in omega arith) in
    record { lines = p.lines; are = subst (AreLines r ps p.lines) none p.are; says = p.says; put = p.put }

-- all lines were written
pub ended : (r : Report) (ps : List Entry) (old new : Option (List ℕ)) (found : Outcome) (i : ℕ) → Progress r ps old new found i → length ps ≤ i → IsSaid found
    → Reports r ps old new found
ended r ps old new Done i p end said = all_lines r ps old new Done i p end
ended r ps old new WriteFault i p end said = absurd said
ended r ps old new DiskFault i p end said = absurd said
ended r ps old new (Damaged s d) i p end said = inl (all_lines r ps old new (Damaged s d) i p end)
ended r ps old new NoMemory i p end said = absurd said

pub said_first : (a b : Outcome) → IsSaid a → IsSaid b → IsSaid (first_of_two a b)
said_first Done b x y = y
said_first WriteFault b x y = absurd x
said_first DiskFault b x y = absurd x
said_first (Damaged s d) b x y = x
said_first NoMemory b x y = absurd x
