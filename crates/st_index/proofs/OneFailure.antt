-- A pair fails in one way at most.
use Rattle.std.proofs.Common.{◌≡◌, ℕ, List, length, Option, Some, None, Result, Ok, Err, refl, sym, ap, ◌∙◌, subst, inl, inr}
use Rattle.st_base.specs.Damages.{DamageView, damage_view}
use Rattle.st_block.specs.Checks.{file_wrong}
use Rattle.st_block.specs.Scan.{PositionedRecord}
use Rattle.st_block.proofs.Unhurt.{file_unhurt, one_given_there}
use Rattle.st_table.proofs.OneTable.{one_table}
use Rattle.st_rows.specs.Rows.{AreRowsOf}
use Rattle.st_rows.proofs.OneRows.{one_list_of_rows}
use Rattle.st_index.specs.CheckRows.{content_wrong, rows_wrong}
use Rattle.st_rows.specs.Whole.{IsWhole}
use Rattle.st_index.specs.Verdict.{FailsAsIndex, FailsInRows, Judges}
use Rattle.st_index.specs.CheckLaws.{OneFailure, OneVerdict}
use Rattle.st_index.specs.declared.checker.Part.TheVariants as part
use Rattle.std.specs.Prelude.{IfOk}
use Rattle.st_index.specs.declared.checker.CheckErr.{CheckErr}
use Rattle.st_index.specs.declared.checker.Verdict.{Verdict}
use Rattle.st_index.specs.declared.checker.Verdict.TheVariants.{Whole, Differs}
use Rattle.st_index.proofs.TableStands.{table_stands}
use Rattle.st_index.proofs.PairStands.{pair_stands}
use Rattle.st_index.proofs.OneDamage.{one_table_failure}

one_some : (o p : Option DamageView) (d e : DamageView) → o ≡ p → o ≡ Some d → p ≡ Some e → d ≡ e
one_some o p d e s i j =
    let both : ◌≡◌ {A = Option DamageView} (Some d) (Some e) = sym i ∙ s ∙ j in
    cc

not_both : (o p : Option DamageView) (d : DamageView) → o ≡ p → o ≡ None → p ≡ Some d → ⊥
not_both o p d s i j =
    let both : ◌≡◌ {A = Option DamageView} None (Some d) = sym i ∙ s ∙ j in
    cc

-- an index fails in one way
one_index_failure : (bytes : List ℕ) (d e : DamageView) → FailsAsIndex bytes d → FailsAsIndex bytes e → d ≡ e
one_index_failure bytes d e (inl f) (inl g) = one_table_failure bytes d e f g
one_index_failure bytes d e (inl f) (inr (others, t, g)) = absurd (table_stands bytes others d t f)
one_index_failure bytes d e (inr (rows, t, f)) (inl g) = absurd (table_stands bytes rows e t g)
one_index_failure bytes d e (inr (rows, t, f)) (inr (others, u, g)) =
    one_some (content_wrong rows) (content_wrong others) d e (ap content_wrong (one_table bytes others rows u t)) f g

-- an index that fails has no rows to compare
index_or_rows : (block bytes : List ℕ) (d e : DamageView) → FailsAsIndex bytes d → FailsInRows block bytes e → ⊥
index_or_rows block bytes d e (inl f) r = table_stands bytes r.rows d r.table f
index_or_rows block bytes d e (inr (rows, t, f)) r =
    not_both (content_wrong r.rows) (content_wrong rows) d (ap content_wrong (one_table bytes rows r.rows t r.table)) r.content f

-- the rows differ in one way
one_difference : (block bytes : List ℕ) (d e : DamageView) → FailsInRows block bytes d → FailsInRows block bytes e → d ≡ e
one_difference block bytes d e f g =
    let packets : f.given ≡ g.given = one_given_there block f.given g.given f.file g.file in
    let rows : f.rows ≡ g.rows = one_table bytes g.rows f.rows g.table f.table in
    let wanted : f.wanted ≡ g.wanted = one_list_of_rows g.given f.wanted g.wanted (subst (λ (xs : List PositionedRecord). AreRowsOf xs f.wanted) packets f.of_packets) g.of_packets in
    one_some (rows_wrong 0 f.rows f.wanted) (rows_wrong 0 g.rows g.wanted) d e (λ i. rows_wrong 0 (rows i) (wanted i)) f.differs g.differs

pub one_failure : OneFailure
one_failure block index part.Block part.Block d e f g = (refl, one_some (file_wrong block) (file_wrong block) d e refl f g)
one_failure block index part.Block part.Index d e f g = absurd (not_both (file_wrong block) (file_wrong block) d refl g.0 f)
one_failure block index part.Block part.Rows d e f g = absurd (not_both (file_wrong block) (file_wrong block) d refl (file_unhurt block g.given g.file) f)
one_failure block index part.Index part.Block d e f g = absurd (not_both (file_wrong block) (file_wrong block) e refl f.0 g)
one_failure block index part.Index part.Index d e f g = (refl, one_index_failure index d e f.1 g.1)
one_failure block index part.Index part.Rows d e f g = absurd (index_or_rows block index d e f.1 g)
one_failure block index part.Rows part.Block d e f g = absurd (not_both (file_wrong block) (file_wrong block) e refl (file_unhurt block f.given f.file) g)
one_failure block index part.Rows part.Index d e f g = absurd (index_or_rows block index e d g.1 f)
one_failure block index part.Rows part.Rows d e f g = (refl, one_difference block index d e f g)

-- and so it has one verdict
pub one_verdict : OneVerdict
one_verdict block index (Whole n) (Whole m) (xs, w, e) (ys, u, f) =
    e ∙ ap length (one_given_there block xs ys w.file u.file) ∙ sym f
one_verdict block index (Whole n) (Differs q d) (xs, w, e) f = pair_stands block index xs q (damage_view d) w f
one_verdict block index (Differs p d) (Whole m) f (xs, w, e) = pair_stands block index xs p (damage_view d) w f
one_verdict block index (Differs p d) (Differs q e) f g = one_failure block index p q (damage_view d) (damage_view e) f g

-- of a whole pair it says the number of its packets
pub whole_verdict : (block index : List ℕ) (given : List PositionedRecord) (v : Verdict) → Judges block index v → IsWhole block index given → v ≡ Whole (length given)
whole_verdict block index given (Whole n) (xs, w, e) u =
    ap (λ (m : ℕ). Whole m) (e ∙ ap length (one_given_there block xs given w.file u.file))
whole_verdict block index given (Differs p d) f u = absurd (pair_stands block index given p (damage_view d) u f)

pub whole_result : (block index : List ℕ) (given : List PositionedRecord) (r : Result Verdict CheckErr) → IfOk r (Judges block index) → IsWhole block index given → IfOk r (λ v. v ≡ Whole (length given))
whole_result block index given (Ok v) j w = whole_verdict block index given v j w
whole_result block index given (Err e) j w = tt
