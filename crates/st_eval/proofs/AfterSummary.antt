-- The rows that a reading gives are after the summary row.
use Rattle.std.proofs.Common.{◌≡◌, ℕ, Bool, true, false, not, ◌&&◌, List, [], ◌∷◌, Option, Some, Ok, IsTrue, All, refl, sym, ap, ◌∙◌, subst, true≢false, arith}
use Rattle.std.specs.Ordering.{nat_cmp, is_lt, ordering_reverse}
use Rattle.std.specs.declared.cmp.Ordering.{Ordering}
use Rattle.std.specs.declared.cmp.Ordering.TheVariants.{Less, Equal, Greater}
use Rattle.std.specs.Cmp.Lexicographic.{slice_cmp}
use Rattle.std.proofs.lemmas.Cmp.{nat_list_cmp_total}
use Rattle.std.proofs.lemmas.List.Elements.{All-append, All-head, All-tail}
use Rattle.st_walk.specs.declared.text.Key.{Key}
use Rattle.st_walk.specs.declared.text.Key.TheVariants as key
use Rattle.st_walk.specs.KeyText.{key_text}
use Rattle.st_tblock.specs.Block.{RowView, is_before}
use Rattle.st_table.specs.Cursor.{CursorView, unread, Goes, Steps}
use Rattle.st_table.specs.RowOrder.{in_range}
use Rattle.st_table.specs.TableFile.{is_at_most, footer_at}
use Rattle.st_table.specs.declared.index.IndexEntry.{IndexEntry}
use Rattle.st_rows.specs.Rows.{summary_key}
use Rattle.st_eval.specs.Refusals.{IsAfterSummary}
use Rattle.st_eval.specs.Selection.{IsEntered}
use Rattle.st_eval.proofs.Reading.{SaysSteps, entered_later}
use Rattle.st_eval.proofs.SoundValues.{all_in_range}

text_after : (k : Key) → IsAfterSummary (key_text k)
text_after (key.Proto n) = refl
text_after (key.Port n) = refl
text_after (key.Vlan n) = refl
text_after (key.V4 n) = refl
text_after (key.Mpls n) = refl
text_after (key.V6 n) = refl
text_after (key.Second n) = refl

-- the text of a key is after the summary row's
pub key_after : (k : Key) (text : List ℕ) → text ≡ key_text k → IsAfterSummary text
key_after k text e = subst (λ (t : List ℕ). IsAfterSummary t) (sym e) (text_after k)

less : (o : Ordering) → is_lt o ≡ true → o ≡ Less
less Less e = refl
less Equal e = cc
less Greater e = cc

-- so is what isn't below a key that is
pub after_low : (low text : List ℕ) → IsAfterSummary low → IsTrue (is_at_most text low) → IsAfterSummary text
after_low low text h l = by (slice_cmp nat_cmp text summary_key) refl
  where
    no : is_before text low ≡ true → ⊥
    no e = true≢false (sym l ∙ ap not e)

    by : (o : Ordering) → slice_cmp nat_cmp text summary_key ≡ o → is_before summary_key text ≡ true
    by Less e = absurd (no (ap is_lt (nat_list_cmp_total.trans text summary_key low e (less (slice_cmp nat_cmp summary_key low) h))))
    by Equal e = absurd (no (ap is_lt (nat_list_cmp_total.congr text summary_key low e) ∙ h))
    by Greater e = ap is_lt (nat_list_cmp_total.antisymm summary_key text) ∙ ap (λ (o : Ordering). is_lt (ordering_reverse o)) e

-- a row's key isn't below this one
abbrev pub IsRowFrom : List ℕ → RowView → Type 0
IsRowFrom low r = IsTrue (is_at_most r.0 low)

-- a reading from this key, below which no row at hand is
pub record IsFrom (low : List ℕ) (c : CursorView) : Type 0 where
  pub begins : c.low ≡ low
  pub rows : All (IsRowFrom low) c.rows

-- a reading that gave no row yet is from its key
pub from_unread : (low high : List ℕ) (next : ℕ) (cursor : CursorView) → cursor ≡ unread low high next → IsFrom low cursor
from_unread low high next cursor e = record {
  begins = ap (λ (c : CursorView). c.low) e;
  rows = subst (λ (c : CursorView). All (IsRowFrom low) c.rows) (sym e) (λ k d less. let no : ⊥ = omega arith in absurd no);
}

and_second : (a b : Bool) → (a && b) ≡ true → b ≡ true
and_second true b h = h
and_second false b h = absurd (true≢false (sym h))

-- a row that it gives isn't below it, and neither is what is at hand then
goes_from : (limit : ℕ) (bytes : List ℕ) (index : List RowView) (low : List ℕ) (old new : CursorView) (r : RowView)
    → IsFrom low old → Goes limit bytes index old new (r ∷ []) → IsRowFrom low r × IsFrom low new
goes_from limit bytes index low old new r from goes =
    let ranged : All (IsRowFrom low) (in_range low old.high goes.read) =
    all_in_range (IsRowFrom low) low old.high goes.read (λ row c l. and_second (is_at_most old.high row.0) (is_at_most row.0 low) l) in
    let read : All (IsRowFrom low) (in_range old.low old.high goes.read) =
    subst (λ (l : List ℕ). All (IsRowFrom low) (in_range l old.high goes.read)) (sym from.begins) ranged in
    let all : All (IsRowFrom low) (r ∷ new.rows) =
    subst (λ (rs : List RowView). All (IsRowFrom low) rs) goes.rows (All-append (IsRowFrom low) old.rows (in_range old.low old.high goes.read) from.rows read) in
    (All-head (IsRowFrom low) r new.rows all, record { begins = goes.low ∙ from.begins; rows = All-tail (IsRowFrom low) r new.rows all })

-- a step that gives a row
pub step_from : (content later : Option (List ℕ)) (entries next : List IndexEntry) (checked : List Bool) (old new : CursorView) (bytes : List ℕ) (index : List RowView) (low : List ℕ) (o : Option RowView) (r : RowView)
    → later ≡ content → next ≡ entries → SaysSteps later next old new (Ok o) → IsEntered content entries checked bytes index
    → o ≡ Some r → IsFrom low old → IsRowFrom low r × IsFrom low new
step_from content later entries next checked old new bytes index low o r e f says is given from =
    let steps = says bytes (e ∙ is.known) (entered_later entries next bytes index f is.has is.decoded) in
    goes_from (footer_at bytes) bytes index low old new r from (subst (λ (p : Option RowView). Steps (footer_at bytes) bytes index old new (Ok p)) given steps).0
