-- Reading the rows between two keys, one after the other.
use Rattle.std.proofs.Common.{◌≡◌, ℕ, suc, Bool, ◌||◌, List, ◌∷◌, ◌++◌, Option, Some, None, Result, Ok, Err, All, sym, ap, ◌∙◌, subst, inl, inr, arith}
use Rattle.std.specs.List.{list_any}
use Rattle.st_tblock.specs.Block.{RowView}
use Rattle.st_table.specs.Cursor.{CursorView, unread, Coming, StepsRow, Steps, GivesNamed, HoldsNamed}
use Rattle.st_table.specs.Index.{Entered, Decodes}
use Rattle.st_table.specs.TableFile.{HasIndex, footer_at}
use Rattle.st_table.specs.declared.errors.TableErr.{TableErr}
use Rattle.st_table.specs.declared.index.IndexEntry.{IndexEntry}
use Rattle.st_rows.specs.Positions.{has, positions_in}
use Rattle.st_eval.specs.declared.errors.EvalErr.{EvalErr}
use Rattle.st_rows.specs.Values.{positions_wrong}
use Rattle.st_eval.specs.Refusals.{Repeats, RefusesEval}
use Rattle.st_eval.specs.Selection.{IsEntered}
use Rattle.st_eval.specs.Selecting.{row_has}
use Rattle.st_eval.proofs.Gathering.{or_assoc, or_false, has_append}

-- the entries of an index that stay are those of the same index block
abbrev pub entered_later : (entries next : List IndexEntry) (bytes : List ℕ) (index : List RowView) → next ≡ entries → HasIndex bytes index → Decodes index entries → Entered bytes next
entered_later entries next bytes index e has decoded = record { index = index; has = has; decoded = subst (λ (es : List IndexEntry). Decodes index es) (sym e) decoded }

-- the values of rows are sound
abbrev pub AreSound : List RowView → Type 0
AreSound rows = All (λ row. positions_wrong row.1 ≡ None) rows

-- what was appended so far, or is still to come, is all that is to be appended
pub record Collects (bytes : List ℕ) (index : List RowView) (cursor : CursorView) (old all : List ℕ) (whole : List RowView) : Type 0 where
  pub more : List RowView
  pub coming : Coming (footer_at bytes) bytes index cursor more
  pub test : (p : ℕ) → (has all p || list_any (row_has p) more) ≡ (has old p || list_any (row_has p) whole)
  pub sound : AreSound whole → AreSound more

-- a step, as the table says it
abbrev pub SaysStep : Option (List ℕ) → List IndexEntry → CursorView → CursorView → Result (Option RowView) TableErr → Type 0
SaysStep content entries old new result =
    (bytes : List ℕ) (more : List RowView) → content ≡ Some bytes → (entered : Entered bytes entries) → Coming (footer_at bytes) bytes entered.index old more
    → StepsRow (footer_at bytes) bytes entered.index more new result

all_tail : (x : RowView) (xs : List RowView) → AreSound (x ∷ xs) → AreSound xs
all_tail x xs h = λ k d less. h (suc k) d (omega arith)

-- one more row was given, and its positions were appended
pub collects_more : (bytes : List ℕ) (index : List RowView) (old new : CursorView) (start all added : List ℕ) (r : RowView) (whole : List RowView)
    → ((more : List RowView) → Coming (footer_at bytes) bytes index old more → StepsRow (footer_at bytes) bytes index more new (Ok (Some r)))
    → added ≡ all ++ positions_in r.1
    → Collects bytes index old start all whole → Collects bytes index new start added whole
collects_more bytes index old new start all added r whole says e has_it =
    let (rest, first, on) = says has_it.more has_it.coming in
    record {
      more = rest;
      coming = on;
      test = λ p.
          ap (λ (xs : List ℕ). has xs p || list_any (row_has p) rest) e
          ∙ (ap (λ b. b || list_any (row_has p) rest) (has_append all (positions_in r.1) p)
          ∙ (or_assoc (has all p) (has (positions_in r.1) p) (list_any (row_has p) rest)
          ∙ (ap (λ (rs : List RowView). has all p || list_any (row_has p) rs) (sym first) ∙ has_it.test p)));
      sound = λ s. all_tail r rest (subst (λ (rs : List RowView). AreSound rs) first (has_it.sound s));
    }

-- no row is left
pub collects_all : (bytes : List ℕ) (index : List RowView) (old new : CursorView) (start all : List ℕ) (whole : List RowView)
    → ((more : List RowView) → Coming (footer_at bytes) bytes index old more → StepsRow (footer_at bytes) bytes index more new (Ok None))
    → Collects bytes index old start all whole → (p : ℕ) → has all p ≡ (has start p || list_any (row_has p) whole)
collects_all bytes index old new start all whole says has_it p =
    let (none, on) = says has_it.more has_it.coming in
    sym (or_false (has all p)) ∙ (ap (λ (rs : List RowView). has all p || list_any (row_has p) rs) (sym none) ∙ has_it.test p)

-- the next row's value is sound where all are
pub next_sound : (bytes : List ℕ) (index : List RowView) (old new : CursorView) (start all : List ℕ) (r : RowView) (whole : List RowView)
    → ((more : List RowView) → Coming (footer_at bytes) bytes index old more → StepsRow (footer_at bytes) bytes index more new (Ok (Some r)))
    → Collects bytes index old start all whole → AreSound whole → positions_wrong r.1 ≡ None
next_sound bytes index old new start all r whole says has_it s =
    let (rest, first, on) = says has_it.more has_it.coming in
    subst (λ (rs : List RowView). AreSound rs) first (has_it.sound s) 0 r (omega arith)

-- a reading that gave no row yet holds none
pub holds_unread : (limit : ℕ) (bytes : List ℕ) (index : List RowView) (low high : List ℕ) (next : ℕ) (cursor : CursorView) → cursor ≡ unread low high next → HoldsNamed limit bytes index cursor
holds_unread limit bytes index low high next cursor e = subst (λ (c : CursorView). HoldsNamed limit bytes index c) (sym e) (λ k d less. let no : ⊥ = omega arith in absurd no)

-- what the clauses of a step say, where the file and the entries stayed so far
pub step_says : (content later : Option (List ℕ)) (entries next : List IndexEntry) (checked : List Bool) (old new : CursorView) (bytes : List ℕ) (index : List RowView) (result : Result (Option RowView) TableErr)
    → later ≡ content → next ≡ entries → SaysStep later next old new result → IsEntered content entries checked bytes index
    → (more : List RowView) → Coming (footer_at bytes) bytes index old more → StepsRow (footer_at bytes) bytes index more new result
step_says content later entries next checked old new bytes index result e f says is more coming =
    says bytes more (e ∙ is.known) (entered_later entries next bytes index f is.has is.decoded) coming

abbrev pub SaysNamed : Option (List ℕ) → List IndexEntry → CursorView → CursorView → Result (Option RowView) TableErr → Type 0
SaysNamed content entries old new result =
    (bytes : List ℕ) → content ≡ Some bytes → (entered : Entered bytes entries) → HoldsNamed (footer_at bytes) bytes entered.index old
    → HoldsNamed (footer_at bytes) bytes entered.index new × GivesNamed (footer_at bytes) bytes entered.index result

pub step_named : (content later : Option (List ℕ)) (entries next : List IndexEntry) (checked : List Bool) (old new : CursorView) (bytes : List ℕ) (index : List RowView) (result : Result (Option RowView) TableErr)
    → later ≡ content → next ≡ entries → SaysNamed later next old new result → IsEntered content entries checked bytes index
    → HoldsNamed (footer_at bytes) bytes index old → HoldsNamed (footer_at bytes) bytes index new × GivesNamed (footer_at bytes) bytes index result
step_named content later entries next checked old new bytes index result e f says is holds =
    says bytes (e ∙ is.known) (entered_later entries next bytes index f is.has is.decoded) holds

abbrev pub SaysSteps : Option (List ℕ) → List IndexEntry → CursorView → CursorView → Result (Option RowView) TableErr → Type 0
SaysSteps content entries old new result =
    (bytes : List ℕ) → content ≡ Some bytes → (entered : Entered bytes entries) → Steps (footer_at bytes) bytes entered.index old new result

pub step_refused : (content later : Option (List ℕ)) (entries next : List IndexEntry) (checked : List Bool) (old new : CursorView) (bytes : List ℕ) (index : List RowView) (t : TableErr) (e : EvalErr)
    → later ≡ content → next ≡ entries → SaysSteps later next old new (Err t) → IsEntered content entries checked bytes index → Repeats t e → RefusesEval bytes index e
step_refused content later entries next checked old new bytes index t e f h says is r =
    inr (inl (t, r, inr (new.next, (says bytes (f ∙ is.known) (entered_later entries next bytes index h is.has is.decoded)).1)))
