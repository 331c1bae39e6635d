-- What is remembered of rows, with one row more.
use Rattle.std.proofs.Common.{◌≡◌, ℕ, Bool, true, false, List, [], ◌∷◌, ◌++◌, Option, None, Some, refl, sym, ap, ◌∙◌}
use Rattle.std.specs.Prelude.{is_some, option_map, if◌then◌else◌}
use Rattle.std.specs.Option.{option_or}
use Rattle.st_base.specs.Damages.{DamageView, damage_view}
use Rattle.st_base.specs.declared.damages.Damage.{Damage}
use Rattle.st_tblock.specs.Block.{RowView}
use Rattle.st_index.specs.CheckRows.{is_summary_key, summary_in, summary_wrong, positions_wrong, value_wrong, values_wrong}
use Rattle.st_index.specs.CheckContent.{Remembers}
use Rattle.st_index.specs.declared.checker.content.Content.{Content}

or_none : {X : Type 0} (o : Option X) → option_or o None ≡ o
or_none None = refl
or_none (Some x) = refl

or_later : {X : Type 0} (o p q : Option X) → option_or o (option_or p q) ≡ option_or (option_or o p) q
or_later None p q = refl
or_later (Some x) p q = refl

-- the summary row of rows with one more is the first of them
pub summary_more : (rows : List RowView) (r : RowView) → summary_in (rows ++ r ∷ []) ≡ option_or (summary_in rows) (if is_summary_key r.0 then Some r.1 else None)
summary_more [] r = refl
summary_more (q ∷ rows) r = either (is_summary_key q.0) (summary_more rows r)
  where
    either : (b : Bool) → summary_in (rows ++ r ∷ []) ≡ option_or (summary_in rows) (if is_summary_key r.0 then Some r.1 else None)
        → ◌≡◌ {A = Option (List ℕ)} (if b then Some q.1 else summary_in (rows ++ r ∷ [])) (option_or (if b then Some q.1 else summary_in rows) (if is_summary_key r.0 then Some r.1 else None))
    either true h = refl
    either false h = h

-- what is wrong with the positions of rows with one more is so with the first of them
pub values_more : (rows : List RowView) (r : RowView) → values_wrong (rows ++ r ∷ []) ≡ option_or (values_wrong rows) (value_wrong r)
values_more [] r = or_none (value_wrong r)
values_more (q ∷ rows) r =
    ap (option_or (value_wrong q)) (values_more rows r) ∙ or_later (value_wrong q) (values_wrong rows) (value_wrong r)

-- a second summary row is passed over
pub again : (c : Content) (rows : List RowView) (key value : List ℕ) → is_summary_key key ≡ true → c.has_summary ≡ true → Remembers c rows → Remembers c (rows ++ (key, value) ∷ [])
again c rows key value s h m =
    let r : RowView = (key, value) in
    let some : is_some (summary_in rows) ≡ true = sym m.has ∙ h in
    let same : summary_in (rows ++ r ∷ []) ≡ summary_in rows = summary_more rows r ∙ kept (summary_in rows) some in
    let none : value_wrong r ≡ None = rw s refl in
    let still : values_wrong (rows ++ r ∷ []) ≡ values_wrong rows =
    values_more rows r ∙ ap (option_or (values_wrong rows)) none ∙ or_none (values_wrong rows) in
    record {
      has = m.has ∙ sym (ap is_some same);
      summary = m.summary ∙ sym (ap summary_wrong same);
      values = m.values ∙ sym still;
    }
  where
    kept : (o : Option (List ℕ)) → is_some o ≡ true → option_or o (if is_summary_key key then Some value else None) ≡ o
    kept None e = cc
    kept (Some v) e = refl

-- the first summary row is remembered
pub begun : (c : Content) (rows : List RowView) (key value : List ℕ) (d : Option Damage) → is_summary_key key ≡ true → c.has_summary ≡ false → option_map damage_view d ≡ summary_wrong (Some value) → Remembers c rows → Remembers (record { has_summary = true; summary = d; values = c.values }) (rows ++ (key, value) ∷ [])
begun c rows key value d s h w m =
    let r : RowView = (key, value) in
    let none : summary_in rows ≡ None = nothing (summary_in rows) (sym m.has ∙ h) in
    let here : (if is_summary_key key then Some value else None) ≡ Some value = rw s refl in
    let now : summary_in (rows ++ r ∷ []) ≡ Some value =
    summary_more rows r ∙ ap (λ (o : Option (List ℕ)). option_or o (if is_summary_key key then Some value else None)) none ∙ here in
    let unhurt : value_wrong r ≡ None = rw s refl in
    let still : values_wrong (rows ++ r ∷ []) ≡ values_wrong rows =
    values_more rows r ∙ ap (option_or (values_wrong rows)) unhurt ∙ or_none (values_wrong rows) in
    record {
      has = sym (ap is_some now);
      summary = w ∙ sym (ap summary_wrong now);
      values = m.values ∙ sym still;
    }
  where
    nothing : (o : Option (List ℕ)) → is_some o ≡ false → o ≡ None
    nothing None e = refl
    nothing (Some v) e = cc

-- another row leaves the summary row
other : (rows : List RowView) (key value : List ℕ) → is_summary_key key ≡ false → (summary_in (rows ++ (key, value) ∷ []) ≡ summary_in rows) × (value_wrong (key, value) ≡ positions_wrong value)
other rows key value s =
    let none : (if is_summary_key key then Some value else None) ≡ None = rw s refl in
    let here : value_wrong (key, value) ≡ positions_wrong value = rw s refl in
    (summary_more rows (key, value) ∙ ap (option_or (summary_in rows)) none ∙ or_none (summary_in rows), here)

-- after the first damage of positions no other counts
pub passed : (c : Content) (rows : List RowView) (key value : List ℕ) → is_summary_key key ≡ false → is_some c.values ≡ true → Remembers c rows → Remembers c (rows ++ (key, value) ∷ [])
passed c rows key value s h m =
    let same = (other rows key value s).0 in
    let still : values_wrong (rows ++ (key, value) ∷ []) ≡ values_wrong rows =
    values_more rows (key, value) ∙ kept c.values (values_wrong rows) h m.values in
    record {
      has = m.has ∙ sym (ap is_some same);
      summary = m.summary ∙ sym (ap summary_wrong same);
      values = m.values ∙ sym still;
    }
  where
    kept : (d : Option Damage) (o : Option DamageView) → is_some d ≡ true → option_map damage_view d ≡ o → option_or o (value_wrong (key, value)) ≡ o
    kept None o e f = cc
    kept (Some d) o e f = ap (λ (p : Option DamageView). option_or p (value_wrong (key, value))) (sym f) ∙ f

-- until then that of the row counts
pub checked : (c : Content) (rows : List RowView) (key value : List ℕ) (d : Option Damage) → is_summary_key key ≡ false → is_some c.values ≡ false → option_map damage_view d ≡ positions_wrong value → Remembers c rows → Remembers (record { has_summary = c.has_summary; summary = c.summary; values = d }) (rows ++ (key, value) ∷ [])
checked c rows key value d s h w m =
    let same = (other rows key value s).0 in
    let now : values_wrong (rows ++ (key, value) ∷ []) ≡ value_wrong (key, value) =
    values_more rows (key, value) ∙ fresh c.values (values_wrong rows) h m.values in
    record {
      has = m.has ∙ sym (ap is_some same);
      summary = m.summary ∙ sym (ap summary_wrong same);
      values = w ∙ sym (other rows key value s).1 ∙ sym now;
    }
  where
    fresh : (d : Option Damage) (o : Option DamageView) → is_some d ≡ false → option_map damage_view d ≡ o → option_or o (value_wrong (key, value)) ≡ value_wrong (key, value)
    fresh None o e f = ap (λ (p : Option DamageView). option_or p (value_wrong (key, value))) (sym f)
    fresh (Some d) o e f = cc
