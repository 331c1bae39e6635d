-- The summary row of packets, looked up and read again.
use Rattle.std.proofs.Common.{◌≡◌, ℕ, ◌<◌, ◌^◌, Option, Some, None, Result, Ok, Err, List, [], ◌++◌, length, unwrap_or, IfOk, IfErr, refl, sym, ap, ◌∙◌, subst, ◌⊎◌, inl, inr, ⊎_elim}
use Rattle.std.proofs.lemmas.List.Elements.{All-contains}
use Rattle.byteorder.specs.Endian.{big_bytes}
use Rattle.byteorder.specs.Numbers.{big_number-reads_back}
use Rattle.st_tblock.specs.Block.{RowView}
use Rattle.st_tblock.specs.Lookup.{lookup}
use Rattle.st_table.specs.Errors.{NoCheckFailed}
use Rattle.st_table.specs.IndexLookup.{entry_for}
use Rattle.st_table.specs.Table.{RefusesNamed}
use Rattle.st_table.specs.TableFile.{footer_at}
use Rattle.st_table.specs.declared.errors.TableErr.{TableErr}
use Rattle.st_block.specs.BlockText.{HasBytes}
use Rattle.st_block.specs.Scan.{PositionedRecord}
use Rattle.st_rows.specs.Rows.{SummaryView, IsSummary, Moment, WasAt, summary_key, summary_value, AreRowsOf, AllFit}
use Rattle.st_eval.specs.declared.errors.EvalErr.{EvalErr}
use Rattle.st_eval.specs.declared.summaries.Summary.{Summary}
use Rattle.st_rows.specs.Values.{summary_wrong}
use Rattle.st_eval.specs.Refusals.{Repeats, RefusesSummary, Answers, damage_in}
use Rattle.st_eval.specs.Selection.{IsIndexOf, Summarizes, summary_view}
use Rattle.st_eval.specs.SummaryRow.{summary_at}
use Rattle.st_eval.proofs.Gathering.{no_damage}

-- the numbers of a summary fit their fields
pub record FitsFields (s : SummaryView) : Type 0 where
  pub packets : s.packets < 2 ^ 32
  pub first : (s.first.0 < 2 ^ 32) × (s.first.1 < 2 ^ 32)
  pub last : (s.last.0 < 2 ^ 32) × (s.last.1 < 2 ^ 32)

moment_fits : (given : List PositionedRecord) (m : Moment) → AllFit given → WasAt given m → (m.0 < 2 ^ 32) × (m.1 < 2 ^ 32)
moment_fits given m fit (x, c, e) =
    let h = All-contains (λ (x : PositionedRecord). (x.0 < 2 ^ 32) × (x.1.sec < 2 ^ 32) × (x.1.nsec < 2 ^ 32) × HasBytes x.1) given x fit c in
    (subst (λ (n : Moment). n.0 < 2 ^ 32) e h.1, subst (λ (n : Moment). n.1 < 2 ^ 32) e h.2)

summary_fits : (given : List PositionedRecord) (s : SummaryView) → AllFit given → length given < 2 ^ 32 → IsSummary given s → FitsFields s
summary_fits given s fit few is = record {
  packets = subst (λ n. n < 2 ^ 32) (sym is.packets) few;
  first = moment_fits given s.first fit is.first;
  last = moment_fits given s.last fit is.last;
}

-- the value that was made of a summary says it
summary_back : (s : SummaryView) → FitsFields s → summary_at (summary_value s) ≡ s
summary_back s fit =
    let a = big_number-reads_back 4 s.packets (big_bytes 4 s.first.0 ++ (big_bytes 4 s.first.1 ++ (big_bytes 4 s.last.0 ++ big_bytes 4 s.last.1))) fit.packets in
    let b = big_number-reads_back 4 s.first.0 (big_bytes 4 s.first.1 ++ (big_bytes 4 s.last.0 ++ big_bytes 4 s.last.1)) fit.first.0 in
    let c = big_number-reads_back 4 s.first.1 (big_bytes 4 s.last.0 ++ big_bytes 4 s.last.1) fit.first.1 in
    let d = big_number-reads_back 4 s.last.0 (big_bytes 4 s.last.1) fit.last.0 in
    let e = big_number-reads_back 4 s.last.1 [] fit.last.1 in
    λ i. record { packets = a i; first = (b i, c i); last = (d i, e i) }

-- nothing is wrong with it
value_sound : (s : SummaryView) → summary_wrong (Some (summary_value s)) ≡ None
value_sound s = refl

-- a lookup finds it
found : (given : List PositionedRecord) (rows : List RowView) (are : AreRowsOf given rows) → lookup summary_key rows ≡ Some (summary_value are.summary)
found given rows are = ap (lookup summary_key) are.split

-- what was read of the value that a lookup found is the summary
pub summarized : (given : List PositionedRecord) (rows : List RowView) (value : List ℕ) (result : Result Summary EvalErr)
    → IsIndexOf given rows → length given < 2 ^ 32 → Some value ≡ lookup summary_key rows
    → IfOk result (λ s. summary_view s ≡ summary_at value) → IfErr result (λ e. damage_in e ≡ summary_wrong (Some value)) → Summarizes given result
summarized given rows value (Ok s) is few e says refused =
    let whole = is.are.summary in
    let same : value ≡ summary_value whole = ap (λ (o : Option (List ℕ)). unwrap_or o []) (e ∙ found given rows is.are) in
    let back : summary_view s ≡ whole = says ∙ (ap summary_at same ∙ summary_back whole (summary_fits given whole is.fit few is.are.is)) in
    subst (λ (v : SummaryView). IsSummary given v) (sym back) is.are.is
summarized given rows value (Err x) is few e says refused = refused ∙ (ap summary_wrong (e ∙ found given rows is.are) ∙ value_sound is.are.summary)

-- the packets' index has the row
pub never_missing : {A : Type 0} (given : List PositionedRecord) (rows : List RowView) → IsIndexOf given rows → None ≡ lookup summary_key rows → A
never_missing given rows is e = none_some (e ∙ found given rows is.are)
  where
    none_some : {A : Type 0} {v : List ℕ} → None ≡ Some v → A
    none_some h = cc

pub refuses_summary : (bytes : List ℕ) (index : List RowView) (answer : Option (List ℕ)) (e : EvalErr) → Answers bytes index summary_key answer → damage_in e ≡ summary_wrong answer → RefusesSummary bytes index e
refuses_summary bytes index answer e a w = inr (inr (answer, a, w))

pub refuses_read : {T : Type 0} (bytes : List ℕ) (index : List RowView) (value : List ℕ) (result : Result T EvalErr) → Answers bytes index summary_key (Some value) → IfErr result (λ e. damage_in e ≡ summary_wrong (Some value)) → IfErr result (RefusesSummary bytes index)
refuses_read bytes index value (Ok x) a w = w
refuses_read bytes index value (Err e) a w = refuses_summary bytes index (Some value) e a w

pub refuses_block : (bytes : List ℕ) (index : List RowView) (t : TableErr) (e : EvalErr) → Repeats t e → NoCheckFailed t ⊎ RefusesNamed (footer_at bytes) bytes (entry_for summary_key None index) t → RefusesSummary bytes index e
refuses_block bytes index t e r h = ⊎_elim (λ n. inl (no_damage t e r n)) (λ n. inr (inl (t, r, n))) h
