-- Rows compared one by one with those that are wanted.
use Rattle.std.proofs.Common.{◌≡◌, ℕ, ◌+◌, List, [], ◌∷◌, ◌++◌, append_assoc, append-nil, Option, None, Some, refl, sym, ap, ◌∙◌}
use Rattle.std.specs.Option.{option_or}
use Rattle.std.specs.Prelude.{option_map}
use Rattle.st_base.specs.Damages.{DamageView, damage_view}
use Rattle.st_base.specs.declared.damages.Damage.{Damage}
use Rattle.st_tblock.specs.Block.{RowView}
use Rattle.st_index.specs.CheckRows.{rows_wrong, row_wrong, row_text}
use Rattle.st_index.specs.CheckWalk.{Compares}

-- before the first row all are to come
pub compares_none : (wanted : List RowView) → Compares 0 None [] wanted wanted
compares_none wanted = record { goes = λ more. refl }

-- the row after some rows
one_more : (rows more : List RowView) (r : RowView) → (rows ++ r ∷ []) ++ more ≡ rows ++ (r ∷ more)
one_more rows more r = append_assoc rows (r ∷ []) more

-- a row is compared with the next one that is wanted
pub compares_next : (number : ℕ) (d : Option DamageView) (rows old left wanted : List RowView) (r q : RowView) → Compares number None rows old wanted → old ≡ q ∷ left → d ≡ row_wrong number (row_text r) (row_text q) → Compares (number + 1) d (rows ++ r ∷ []) left wanted
compares_next number d rows old left wanted r q c e w = record {
  goes = λ more.
      ap (λ (xs : List RowView). rows_wrong 0 xs wanted) (one_more rows more r)
      ∙ c.goes (r ∷ more)
      ∙ ap (rows_wrong number (r ∷ more)) e
      ∙ ap (λ (o : Option DamageView). option_or o (rows_wrong (number + 1) more left)) (sym w);
}

-- a row where none is wanted
pub compares_extra : (number next : ℕ) (d : DamageView) (rows old left wanted : List RowView) (r : RowView) → Compares number None rows old wanted → old ≡ [] → row_wrong number (row_text r) [] ≡ Some d → Compares next (Some d) (rows ++ r ∷ []) left wanted
compares_extra number next d rows old left wanted r c e w = record {
  goes = λ more.
      ap (λ (xs : List RowView). rows_wrong 0 xs wanted) (one_more rows more r)
      ∙ c.goes (r ∷ more)
      ∙ ap (rows_wrong number (r ∷ more)) e
      ∙ w;
}

-- after the first row that differs no other counts
pub compares_passed : (number next : ℕ) (d : DamageView) (rows left wanted : List RowView) (r : RowView) → Compares number (Some d) rows left wanted → Compares next (Some d) (rows ++ r ∷ []) left wanted
compares_passed number next d rows left wanted r c = record {
  goes = λ more.
      ap (λ (xs : List RowView). rows_wrong 0 xs wanted) (one_more rows more r)
      ∙ c.goes (r ∷ more);
}

-- after the last row
pub compares_all : (number : ℕ) (d : Option DamageView) (rows left wanted : List RowView) → Compares number d rows left wanted → rows_wrong 0 rows wanted ≡ option_or d (rows_wrong number [] left)
compares_all number d rows left wanted c =
    ap (λ (xs : List RowView). rows_wrong 0 xs wanted) (sym (append-nil rows)) ∙ c.goes []

-- where a row differs that is wrong with all
pub ends_known : (number : ℕ) (d : Option Damage) (x : Damage) (rows left wanted : List RowView) → d ≡ Some x → Compares number (option_map damage_view d) rows left wanted → ◌≡◌ {A = Option DamageView} (Some (damage_view x)) (rows_wrong 0 rows wanted)
ends_known number d x rows left wanted e c =
    sym (compares_all number (option_map damage_view d) rows left wanted c ∙ ap (λ (o : Option Damage). option_or (option_map damage_view o) (rows_wrong number [] left)) e)

-- else a row that is wanted after them
pub ends_missing : (number : ℕ) (d : Option Damage) (x : DamageView) (rows left later wanted : List RowView) (q : RowView) → d ≡ None → left ≡ q ∷ later → row_wrong number [] (row_text q) ≡ Some x → Compares number (option_map damage_view d) rows left wanted → ◌≡◌ {A = Option DamageView} (Some x) (rows_wrong 0 rows wanted)
ends_missing number d x rows left later wanted q e l w c =
    sym (compares_all number (option_map damage_view d) rows left wanted c
    ∙ ap (λ (o : Option Damage). option_or (option_map damage_view o) (rows_wrong number [] left)) e
    ∙ ap (rows_wrong number []) l ∙ w)

-- else nothing is wrong
pub ends_well : (number : ℕ) (d : Option Damage) (rows left wanted : List RowView) → d ≡ None → left ≡ [] → Compares number (option_map damage_view d) rows left wanted → ◌≡◌ {A = Option DamageView} None (rows_wrong 0 rows wanted)
ends_well number d rows left wanted e l c =
    sym (compares_all number (option_map damage_view d) rows left wanted c
    ∙ ap (λ (o : Option Damage). option_or (option_map damage_view o) (rows_wrong number [] left)) e
    ∙ ap (rows_wrong number []) l)
