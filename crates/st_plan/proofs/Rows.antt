-- What the rows hold for an argument.
use Rattle.std.proofs.Common.{◌≡◌, true, false, List, [], ◌∷◌, ◌++◌, Some, None, is_some, refl, ap}
use Rattle.std.specs.Str.{bytes_eq}
use Rattle.clap.specs.Words.{Row, Text, all_of}
use Rattle.clap.specs.Walk.{with_values, without, has_row}
use Rattle.clap.specs.declared.parser.matches.ValueSource.{ValueSource}
use Rattle.clap.specs.declared.builder.value_parser.Reading.{Reading}

pub has_row-all_of : (id : Text) (rows : List Row) → has_row id rows ≡ is_some (all_of id rows)
has_row-all_of id [] = refl
has_row-all_of id (r ∷ rows) =
    let later = has_row-all_of id rows in
    elim (bytes_eq r.id id) as (λ b. bytes_eq r.id id ≡ b → has_row id (r ∷ rows) ≡ is_some (all_of id (r ∷ rows))) [
      | true ↦ λ e. rw e refl
      | false ↦ λ e. rw e later
    ] refl

-- where there is no row of an argument, none is taken away
pub without_none : (id : Text) (rows : List Row) → all_of id rows ≡ None → without id rows ≡ rows
without_none id [] none = refl
without_none id (r ∷ rows) none =
    elim (bytes_eq r.id id) as (λ b. bytes_eq r.id id ≡ b → without id (r ∷ rows) ≡ r ∷ rows) [
      | true ↦ λ e. let bad = rw e at none in absurd cc
      | false ↦ λ e. let less = rw e at none in rw e (ap (λ rs. r ∷ rs) (without_none id rows less))
    ] refl

-- a first use of an argument
pub first_use : (id : Text) (how : Reading) (s : ValueSource) (values : List Text) (rows : List Row) → bytes_eq id id ≡ true → all_of id rows ≡ None
    → all_of id (with_values id how s values rows) ≡ Some values
first_use id how s values [] same none = rw same refl
first_use id how s values (r ∷ rows) same none =
    elim (bytes_eq r.id id) as (λ b. bytes_eq r.id id ≡ b → all_of id (with_values id how s values (r ∷ rows)) ≡ Some values) [
      | true ↦ λ e. let bad = rw e at none in absurd cc
      | false ↦ λ e. let less = rw e at none in rw (e, e) (first_use id how s values rows same less)
    ] refl

-- another use adds its values
pub next_use : (id : Text) (how : Reading) (s : ValueSource) (values had : List Text) (rows : List Row) → all_of id rows ≡ Some had
    → all_of id (with_values id how s values rows) ≡ Some (had ++ values)
next_use id how s values had [] some = absurd cc
next_use id how s values had (r ∷ rows) some =
    elim (bytes_eq r.id id) as (λ b. bytes_eq r.id id ≡ b → all_of id (with_values id how s values (r ∷ rows)) ≡ Some (had ++ values)) [
      | true ↦ λ e. let here = rw e at some in let same : r.values ≡ had = cc in rw (e, e) (ap (λ v. Some (v ++ values)) same)
      | false ↦ λ e. let less = rw e at some in rw (e, e) (next_use id how s values had rows less)
    ] refl

-- a use of another argument changes nothing
pub other_use : (id other : Text) (how : Reading) (s : ValueSource) (values : List Text) (rows : List Row) → ((x : Text) → bytes_eq x id ≡ true → bytes_eq x other ≡ false) → bytes_eq id other ≡ false
    → all_of other (with_values id how s values rows) ≡ all_of other rows
other_use id other how s values [] apart differ = rw differ refl
other_use id other how s values (r ∷ rows) apart differ =
    elim (bytes_eq r.id id) as (λ b. bytes_eq r.id id ≡ b → all_of other (with_values id how s values (r ∷ rows)) ≡ all_of other (r ∷ rows)) [
      | true ↦ λ e. let no_other = apart r.id e in rw (e, no_other) refl
      | false ↦ λ e. rw e (elim (bytes_eq r.id other) as (λ b. bytes_eq r.id other ≡ b → all_of other (r ∷ with_values id how s values rows) ≡ all_of other (r ∷ rows)) [
        | true ↦ λ k. rw k refl
        | false ↦ λ k. rw k (other_use id other how s values rows apart differ)
      ] refl)
    ] refl
