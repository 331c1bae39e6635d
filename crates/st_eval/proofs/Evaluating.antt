-- What the parts of a query add to the positions so far.
use Rattle.std.proofs.Common.{◌≡◌, ℕ, Bool, true, false, ◌||◌, ◌&&◌, List, [], Option, Result, Ok, Err, OnOk, IfOk, IfErr, refl, sym, ap, ◌∙◌}
use Rattle.st_tblock.specs.Block.{RowView}
use Rattle.st_table.specs.declared.index.IndexEntry.{IndexEntry}
use Rattle.st_query.specs.declared.nodes.Node.{Node}
use Rattle.st_query.specs.Trees.{Tree, both, either, tree, InRange}
use Rattle.st_block.specs.Scan.{PositionedRecord}
use Rattle.st_rows.specs.Positions.{has, Rising}
use Rattle.st_eval.specs.declared.errors.EvalErr.{EvalErr}
use Rattle.st_eval.specs.declared.errors.EvalErr.TheVariants as error
use Rattle.st_eval.specs.Refusals.{damage_in}
use Rattle.st_eval.specs.Selection.{IsEntered, IsOver, IsIndexOf, Selects}
use Rattle.st_eval.specs.Selecting.{selects}
use Rattle.st_eval.specs.Lookups.{Appends, Finds, Gains, HasSoundValues}
use Rattle.st_eval.proofs.Joining.{selects_matching}
use Rattle.st_eval.proofs.SoundValues.{sound_values}

-- a table that stays entered is over the same rows
pub over_later : (content later : Option (List ℕ)) (entries next : List IndexEntry) (checked marks : List Bool) (rows : List RowView)
    → ((bytes : List ℕ) (index : List RowView) → IsEntered content entries checked bytes index → IsEntered later next marks bytes index)
    → IsOver content entries checked rows → IsOver later next marks rows
over_later content later entries next checked marks rows stays over = record {
  bytes = over.bytes;
  index = over.index;
  is = stays over.bytes over.index over.is;
  table = over.table;
}

-- ---- tests

or_in : (x a b : Bool) → ((x || b) || a) ≡ (x || (a || b))
or_in true a b = refl
or_in false true true = refl
or_in false true false = refl
or_in false false true = refl
or_in false false false = refl

and_turn : (a b : Bool) → (b && a) ≡ (a && b)
and_turn true true = refl
and_turn true false = refl
and_turn false true = refl
and_turn false false = refl

or_kept : (x k a b : Bool) → ((x || (b && k)) || (k && a)) ≡ (x || (k && (a || b)))
or_kept true k a b = refl
or_kept false true true true = refl
or_kept false true true false = refl
or_kept false true false true = refl
or_kept false true false false = refl
or_kept false false a true = refl
or_kept false false a false = refl

and_kept : (k a b : Bool) → ((k && b) && a) ≡ (k && (a && b))
and_kept true a b = and_turn a b
and_kept false a b = refl

-- ---- parts

-- the last part of an `or` was appended
pub or_appended : (rows : List RowView) (now : ℕ) (rest a b : Tree) (all added : List ℕ) (whole : ℕ → Bool)
    → rest ≡ either a b → ((p : ℕ) → has added p ≡ (has all p || selects rows b now p))
    → ((p : ℕ) → (has all p || selects rows rest now p) ≡ whole p)
    → (p : ℕ) → (has added p || selects rows a now p) ≡ whole p
or_appended rows now rest a b all added whole e h i p =
    ap (λ x. x || selects rows a now p) (h p)
    ∙ (or_in (has all p) (selects rows a now p) (selects rows b now p)
    ∙ (ap (λ (q : Tree). has all p || selects rows q now p) (sym e) ∙ i p))

-- what was appended last ends it
pub appends_end : {T : Type 0} (test rest whole : ℕ → Bool) (Sound : Type 0) (all old new : List ℕ) (result : Result T EvalErr)
    → ((p : ℕ) → test p ≡ rest p) → ((p : ℕ) → (has all p || rest p) ≡ (has old p || whole p))
    → Appends test Sound all new result → Appends whole Sound old new result
appends_end test rest whole Sound all old new (Ok x) e i h = λ p. h p ∙ (ap (λ b. has all p || b) (e p) ∙ i p)
appends_end test rest whole Sound all old new (Err x) e i h = h

-- the last part of an `and` was found, and what it keeps of the others is appended
pub and_found : (rows : List RowView) (now : ℕ) (rest a b : Tree) (keep : List ℕ)
    → rest ≡ both a b → ((p : ℕ) → has keep p ≡ selects rows b now p)
    → (p : ℕ) → (has keep p && selects rows a now p) ≡ selects rows rest now p
and_found rows now rest a b keep e h p =
    ap (λ x. x && selects rows a now p) (h p)
    ∙ (and_turn (selects rows a now p) (selects rows b now p) ∙ ap (λ (q : Tree). selects rows q now p) (sym e))

-- the last part of an `or` was found, and what is kept of it was appended
pub or_kept_appended : (rows : List RowView) (now : ℕ) (rest a b : Tree) (keep found all added : List ℕ) (whole : ℕ → Bool)
    → rest ≡ either a b → ((p : ℕ) → has found p ≡ selects rows b now p)
    → ((p : ℕ) → has added p ≡ (has all p || (has found p && has keep p)))
    → ((p : ℕ) → (has all p || (has keep p && selects rows rest now p)) ≡ whole p)
    → (p : ℕ) → (has added p || (has keep p && selects rows a now p)) ≡ whole p
or_kept_appended rows now rest a b keep found all added whole e f h i p =
    ap (λ x. x || (has keep p && selects rows a now p)) (h p ∙ ap (λ y. has all p || (y && has keep p)) (f p))
    ∙ (or_kept (has all p) (has keep p) (selects rows a now p) (selects rows b now p)
    ∙ (ap (λ (q : Tree). has all p || (has keep p && selects rows q now p)) (sym e) ∙ i p))

-- the last part of an `and` was found, and less is kept by that
pub and_kept_found : (rows : List RowView) (now : ℕ) (rest a b : Tree) (keep less found all : List ℕ) (whole : ℕ → Bool)
    → rest ≡ both a b → ((p : ℕ) → has found p ≡ selects rows b now p)
    → ((p : ℕ) → has less p ≡ (has keep p && has found p))
    → ((p : ℕ) → (has all p || (has keep p && selects rows rest now p)) ≡ whole p)
    → (p : ℕ) → (has all p || (has less p && selects rows a now p)) ≡ whole p
and_kept_found rows now rest a b keep less found all whole e f h i p =
    ap (λ x. has all p || (x && selects rows a now p)) (h p ∙ ap (λ y. has keep p && y) (f p))
    ∙ (ap (λ x. has all p || x) (and_kept (has keep p) (selects rows a now p) (selects rows b now p))
    ∙ (ap (λ (q : Tree). has all p || (has keep p && selects rows q now p)) (sym e) ∙ i p))

-- a primitive was found, and what is kept of it is appended
pub kept_found : (rows : List RowView) (now : ℕ) (rest : Tree) (keep found list : List ℕ)
    → ((p : ℕ) → has list p ≡ has found p) → ((p : ℕ) → has found p ≡ (has [] p || selects rows rest now p))
    → (p : ℕ) → (has list p && has keep p) ≡ (has keep p && selects rows rest now p)
kept_found rows now rest keep found list e f p =
    ap (λ x. x && has keep p) (e p ∙ f p) ∙ and_turn (has keep p) (selects rows rest now p)

-- what is kept of the last part was appended, or memory ran out
pub common_end : {T : Type 0} (test rest whole : ℕ → Bool) (Sound : Type 0) (all old new : List ℕ) (result : Result T EvalErr)
    → ((p : ℕ) → test p ≡ rest p) → ((p : ℕ) → (has all p || rest p) ≡ (has old p || whole p))
    → OnOk result (Gains test all new) → IfErr result (λ e. e ≡ error.NoMemory) → Appends whole Sound old new result
common_end test rest whole Sound all old new (Ok x) e i h m = λ p. h p ∙ (ap (λ b. has all p || b) (e p) ∙ i p)
common_end test rest whole Sound all old new (Err x) e i h m = λ s. ap damage_in m

-- ---- the whole query

-- what a query's parts find over an index of packets is the positions of those that match
pub selects_found : (given : List PositionedRecord) (rows : List RowView) (q : Node) (now : ℕ) (result : Result (List ℕ) EvalErr)
    → IsIndexOf given rows → InRange (tree q) → IfOk result Rising
    → Finds (selects rows (tree q) now) (HasSoundValues rows) result → Selects q now given result
selects_found given rows q now (Ok ps) is ok rise h = record {
  rising = rise;
  exact = λ p.
      let law = selects_matching given rows q now p is ok in
      (λ a. law.0 (sym (h p) ∙ a), λ b. h p ∙ law.1 b);
}
selects_found given rows q now (Err e) is ok rise h = h (sound_values given rows is)
