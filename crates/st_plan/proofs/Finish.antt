-- What is found at the end of a line.
use Rattle.std.proofs.Common.{◌≡◌, Bool, true, false, List, [], ◌∷◌, Option, Some, None, option_and_then, slice_get, refl, sym, ap, ◌∙◌, subst, codes, cond, IsNone, MatchOption}
use Rattle.std.specs.Str.{bytes_eq}
use Rattle.std.proofs.lemmas.Bool.{false≢true}
use Rattle.clap.specs.Words.{Row, Text, all_of, first_of, first_value, fault_of, takes, matches_of, rows_of}
use Rattle.clap.specs.Walk.{has_row, with_default, finished, Held, settled_rows, walk, nothing_held}
use Rattle.clap.specs.declared.parser.matches.Found.{Found}
use Rattle.clap.specs.declared.parser.matches.ValueSource.TheVariants.{DefaultValue}
use Rattle.clap.proofs.WalkLemmas.{first_value-rows, raw_values-rows}
use Rattle.st_plan.specs.Line.{Valued, packets, bytes, block, blocks, limit, name_of, Options, Line, no_options}
use Rattle.st_plan.specs.Rules.{line_app}
use Rattle.st_plan.specs.Found.{IsTaken, is_set, options_of, values_of, operands_of}
use Rattle.st_plan.proofs.Rows.{first_use}
use Rattle.st_plan.proofs.Steps.{rules, at, wait, takes_by, flag_in, value_in, words_in}
use Rattle.st_plan.proofs.Holds as holds
use Rattle.st_plan.proofs.Holds.{Holds, given, one, some_of, ns_apart}
use Rattle.st_plan.proofs.Forward as forward
use Rattle.st_plan.proofs.Back as back
use Rattle.st_plan.proofs.Faults as faults

either_same : {A : Type 0} (b : Bool) (x : A) → cond b x x ≡ x
either_same true x = refl
either_same false x = refl

first_of-all_of : (id : Text) (rows : List Row) → first_of id rows ≡ option_and_then (λ (vs : List Text). slice_get vs 0) (all_of id rows)
first_of-all_of id [] = refl
first_of-all_of id (r ∷ rows) =
    elim (bytes_eq r.id id) as (λ b. bytes_eq r.id id ≡ b → first_of id (r ∷ rows) ≡ option_and_then (λ (vs : List Text). slice_get vs 0) (all_of id (r ∷ rows))) [
      | true ↦ λ e. rw e refl
      | false ↦ λ e. rw e (first_of-all_of id rows)
    ] refl

-- what the rows say once the flag has its default
pub record Said (o : Options) (gs : List Text) (rows : List Row) : Type 0 where
  pub ns : first_of (codes "ns") rows ≡ Some (cond o.ns (codes "true") (codes "false"))
  pub value : (x : Valued) → first_of (name_of x) rows ≡ o.value x
  pub words : all_of (codes "words") rows ≡ some_of gs

first_of_one : (v : Option Text) → option_and_then (λ (vs : List Text). slice_get vs 0) (one v) ≡ v
first_of_one None = refl
first_of_one (Some v) = refl

said_by : (o : Options) (gs : List Text) (rows : List Row) → all_of (codes "ns") rows ≡ Some (cond o.ns (codes "true") (codes "false") ∷ []) → ((x : Valued) → all_of (name_of x) rows ≡ one (o.value x))
    → all_of (codes "words") rows ≡ some_of gs → Said o gs rows
said_by o gs rows a b c = record {
  ns = first_of-all_of (codes "ns") rows ∙ ap (option_and_then (λ (vs : List Text). slice_get vs 0)) a;
  value = λ x. first_of-all_of (name_of x) rows ∙ ap (option_and_then (λ (vs : List Text). slice_get vs 0)) (b x) ∙ first_of_one (o.value x);
  words = c;
}

said_ns : (o : Options) (gs : List Text) (rows : List Row) (b : Bool) → Holds o gs rows → o.ns ≡ b → Said o gs (with_default rows (flag_in (codes "ns")))
said_ns o gs rows true h e =
    rw (holds.ns_row o gs rows true h e)
    (said_by o gs rows (h.ns ∙ ap given e ∙ ap (λ b. Some (cond b (codes "true") (codes "false") ∷ [])) (sym e)) h.value h.words)
said_ns o gs rows false h e =
    rw (holds.ns_row o gs rows false h e)
    (said_by o gs _
    (first_use (codes "ns") _ DefaultValue (codes "false" ∷ []) rows refl (h.ns ∙ ap given e) ∙ ap (λ b. Some (cond b (codes "true") (codes "false") ∷ [])) (sym e))
    (λ x. holds.kept_by DefaultValue (codes "ns") (name_of x) _ (codes "false" ∷ []) rows (ns_apart x) ∙ h.value x)
    (holds.kept_by DefaultValue (codes "ns") (codes "words") _ (codes "false" ∷ []) rows refl ∙ h.words))

-- the other arguments have no default
no_defaults : (rows : List Row)
    → with_default (with_default (with_default (with_default (with_default (with_default rows (value_in (name_of packets))) (value_in (name_of bytes))) (value_in (name_of block))) (value_in (name_of blocks)))
    (value_in (name_of limit))) words_in ≡ rows
no_defaults rows = rw (
  either_same (has_row (name_of packets) rows) rows,
  either_same (has_row (name_of bytes) rows) rows,
  either_same (has_row (name_of block) rows) rows,
  either_same (has_row (name_of blocks) rows) rows,
  either_same (has_row (name_of limit) rows) rows,
  either_same (has_row (codes "words") rows) rows,
) refl

pub said : (o : Options) (gs : List Text) (h : Held) → Holds o gs (settled_rows rules h.pending h.rows) → Said o gs (finished rules h)
said o gs h holds =
    subst (Said o gs) (sym (no_defaults (with_default (settled_rows rules h.pending h.rows) (flag_in (codes "ns"))))) (said_ns o gs (settled_rows rules h.pending h.rows) o.ns holds refl)

nothing_read : Holds no_options [] []
nothing_read = record { ns = refl; value = λ x. refl; words = refl }

pub reads : (words : List Text) (o : Options) (gs : List Text) → Line no_options [] words o gs → forward.Reads (at [] None (wait false) false) words o gs
reads words o gs line = forward.taken no_options o [] words gs line false [] None (forward.used_ready no_options [] [] nothing_read)

-- a line is taken
pub line_taken : (words : List Text) (o : Options) (gs : List Text) → Line no_options [] words o gs → takes line_app words ≡ true
line_taken words o gs line = let r = reads words o gs line in takes_by words r.passes r.final.settles

-- a flag and operands are what was found of them
flag_found : (b : Bool) → is_set (Some (cond b (codes "true") (codes "false"))) ≡ b
flag_found true = refl
flag_found false = refl

operands_found : (gs : List Text) → values_of (some_of gs) ≡ gs
operands_found [] = refl
operands_found (g ∷ gs) = refl

-- and its options and operands are found
line_found : (words : List Text) (o : Options) (gs : List Text) (f : Found) → rows_of f ≡ matches_of line_app words → Line no_options [] words o gs
    → (o ≡ options_of f) × (gs ≡ operands_of f)
line_found words o gs f same line =
    let r = reads words o gs line in
    let s : Said o gs (matches_of line_app words) = said o gs (walk rules [] nothing_held words).held r.final.holds in
    let ns = sym (ap is_set (first_value-rows f (codes "ns") ∙ ap (first_of (codes "ns")) same ∙ s.ns) ∙ flag_found o.ns) in
    let value : (x : Valued) → o.value x ≡ first_value f (name_of x) = λ x. sym (first_value-rows f (name_of x) ∙ ap (first_of (name_of x)) same ∙ s.value x) in
    let words_are = raw_values-rows f (codes "words") ∙ ap (all_of (codes "words")) same ∙ s.words in
    (λ i. record { ns = ns i; value = λ x. value x i }, sym (ap values_of words_are ∙ operands_found gs))

-- what has no fault is a line
pub some_line : (words : List Text) → back.AllText words → fault_of line_app words ≡ [] → (o : Options) × (gs : List Text) × Line no_options [] words o gs
some_line words text none =
    let (turns, settles) = faults.by_faults words none in
    back.back words false [] None no_options [] (back.used_ready no_options [] [] nothing_read) text (record { turns = turns; settles = settles })

pub found : (words : List Text) (f : Found) → back.AllText words → fault_of line_app words ≡ [] → rows_of f ≡ matches_of line_app words → IsTaken words f
found words f text none same =
    let (o, gs, line) = some_line words text none in
    let (options, operands) = line_found words o gs f same line in
    record {
      line = subst (λ hs. Line no_options [] words (options_of f) hs) operands (subst (λ p. Line no_options [] words p gs) options line);
      only = λ p hs made. line_found words p hs f same made;
    }

-- what refuses no line answers none
pub none_found : {A : Type 0} (r : Option A) (none : Type 0) (some : A → Type 0) → IsNone r → none → MatchOption r none some
none_found None none some h n = n
none_found (Some x) none some h n = absurd (false≢true (sym h))
