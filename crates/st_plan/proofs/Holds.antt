-- What the rows hold once so many words were read.
use Rattle.std.proofs.Common.{◌≡◌, Bool, true, false, List, [], ◌∷◌, ◌++◌, Option, Some, None, is_some, refl, sym, ap, ◌∙◌, subst, codes}
use Rattle.std.specs.Str.{bytes_eq}
use Rattle.std.proofs.lemmas.Slice.Eq.{bytes_eq-Decides}
use Rattle.clap.specs.Words.{Row, Text, all_of}
use Rattle.clap.specs.Walk.{has_row, settled_rows, used, with_values}
use Rattle.clap.specs.Takes.{settle_passes}
use Rattle.clap.specs.declared.parser.matches.ValueSource.TheVariants.{CommandLine}
use Rattle.clap.specs.declared.parser.matches.ValueSource.{ValueSource}
use Rattle.clap.specs.declared.builder.value_parser.Reading.{Reading}
use Rattle.st_plan.specs.Line.{Valued, packets, bytes, block, blocks, limit, name_of, Options, with_value}
use Rattle.st_plan.proofs.Rows.{has_row-all_of, without_none, first_use, next_use, other_use}
use Rattle.st_plan.proofs.Steps.{rules, held, flag_in, value_in, words_in}

abbrev pub given : Bool → Option (List Text)
given true = Some (codes "true" ∷ [])
given false = None

abbrev pub one : Option Text → Option (List Text)
one None = None
one (Some v) = Some (v ∷ [])

abbrev pub some_of : List Text → Option (List Text)
some_of [] = None
some_of (g ∷ gs) = Some (g ∷ gs)

pub record Holds (o : Options) (gs : List Text) (rows : List Row) : Type 0 where
  pub ns : all_of (codes "ns") rows ≡ given o.ns
  pub value : (x : Valued) → all_of (name_of x) rows ≡ one (o.value x)
  pub words : all_of (codes "words") rows ≡ some_of gs

-- a use of another argument changes nothing, at names that differ
differs : (id other : Text) → bytes_eq id other ≡ false → (x : Text) → bytes_eq x id ≡ true → bytes_eq x other ≡ false
differs id other apart x same = let e : x ≡ id = (bytes_eq-Decides x id).0 same in subst (λ t. bytes_eq t other ≡ false) (sym e) apart

pub kept_by : (s : ValueSource) (id other : Text) (how : Reading) (values : List Text) (rows : List Row) → bytes_eq id other ≡ false → all_of other (with_values id how s values rows) ≡ all_of other rows
kept_by s id other how values rows apart = other_use id other how s values rows (differs id other apart) apart

kept : (id other : Text) (how : Reading) (values : List Text) (rows : List Row) → bytes_eq id other ≡ false → all_of other (with_values id how CommandLine values rows) ≡ all_of other rows
kept id other how values rows apart = other_use id other how CommandLine values rows (differs id other apart) apart

-- the names of the other arguments differ from those of the options with a value
pub ns_apart : (x : Valued) → bytes_eq (codes "ns") (name_of x) ≡ false
ns_apart packets = refl
ns_apart bytes = refl
ns_apart block = refl
ns_apart blocks = refl
ns_apart limit = refl

apart_ns : (x : Valued) → bytes_eq (name_of x) (codes "ns") ≡ false
apart_ns packets = refl
apart_ns bytes = refl
apart_ns block = refl
apart_ns blocks = refl
apart_ns limit = refl

words_apart : (x : Valued) → bytes_eq (codes "words") (name_of x) ≡ false
words_apart packets = refl
words_apart bytes = refl
words_apart block = refl
words_apart blocks = refl
words_apart limit = refl

apart_words : (x : Valued) → bytes_eq (name_of x) (codes "words") ≡ false
apart_words packets = refl
apart_words bytes = refl
apart_words block = refl
apart_words blocks = refl
apart_words limit = refl

same_name : (x : Valued) → bytes_eq (name_of x) (name_of x) ≡ true
same_name packets = refl
same_name bytes = refl
same_name block = refl
same_name blocks = refl
same_name limit = refl

pub holds_ns : (o : Options) (gs : List Text) (rows : List Row) → Holds o gs rows → o.ns ≡ false → Holds (record o { ns = true }) gs (used (flag_in (codes "ns")) [] rows)
holds_ns o gs rows h first =
    let none : all_of (codes "ns") rows ≡ None = h.ns ∙ ap given first in
    rw (without_none (codes "ns") rows none) (record {
      ns = first_use (codes "ns") _ CommandLine (codes "true" ∷ []) rows refl none;
      value = λ x. kept (codes "ns") (name_of x) _ (codes "true" ∷ []) rows (ns_apart x) ∙ h.value x;
      words = kept (codes "ns") (codes "words") _ (codes "true" ∷ []) rows refl ∙ h.words;
    })

-- a value is its option's alone
value_of : (o : Options) (x y : Valued) (v : Text) (how : Reading) (rows : List Row) → ((z : Valued) → all_of (name_of z) rows ≡ one (o.value z)) → all_of (name_of x) rows ≡ None
    → all_of (name_of y) (with_values (name_of x) how CommandLine (v ∷ []) rows) ≡ one ((with_value o x v).value y)
value_of o x y v how rows h none =
    elim (bytes_eq (name_of x) (name_of y)) as (λ b. bytes_eq (name_of x) (name_of y) ≡ b → all_of (name_of y) (with_values (name_of x) how CommandLine (v ∷ []) rows) ≡ one ((with_value o x v).value y)) [
      | true ↦ λ e.
          let same : name_of x ≡ name_of y = (bytes_eq-Decides (name_of x) (name_of y)).0 e in
          let used_first = first_use (name_of x) how CommandLine (v ∷ []) rows (same_name x) none in
          rw e (subst (λ t. all_of t (with_values (name_of x) how CommandLine (v ∷ []) rows) ≡ Some (v ∷ [])) same used_first)
      | false ↦ λ e. rw e (kept (name_of x) (name_of y) how (v ∷ []) rows e ∙ h y)
    ] refl

pub holds_value : (x : Valued) (o : Options) (gs : List Text) (v : Text) (rows : List Row) → Holds o gs rows → o.value x ≡ None
    → Holds (with_value o x v) gs (used (value_in (name_of x)) (v ∷ []) rows)
holds_value x o gs v rows h first =
    let none : all_of (name_of x) rows ≡ None = h.value x ∙ ap one first in
    rw (without_none (name_of x) rows none) (record {
      ns = kept (name_of x) (codes "ns") _ (v ∷ []) rows (apart_ns x) ∙ h.ns;
      value = λ y. value_of o x y v _ rows h.value none;
      words = kept (name_of x) (codes "words") _ (v ∷ []) rows (apart_words x) ∙ h.words;
    })

-- and so it is once the option's value is used that was pending
pub settled_value : (x : Valued) (o : Options) (gs : List Text) (v : Text) (rows : List Row) → Holds o gs rows → o.value x ≡ None
    → Holds (with_value o x v) gs (settled_rows rules (Some (name_of x, v ∷ [])) rows)
settled_value packets = holds_value packets
settled_value bytes = holds_value bytes
settled_value block = holds_value block
settled_value blocks = holds_value blocks
settled_value limit = holds_value limit

one_more : (gs : List Text) (w : Text) (how : Reading) (rows : List Row) → all_of (codes "words") rows ≡ some_of gs
    → all_of (codes "words") (with_values (codes "words") how CommandLine (w ∷ []) rows) ≡ some_of (gs ++ w ∷ [])
one_more [] w how rows h = first_use (codes "words") how CommandLine (w ∷ []) rows refl h
one_more (g ∷ gs) w how rows h = next_use (codes "words") how CommandLine (w ∷ []) (g ∷ gs) rows h

pub holds_word : (o : Options) (gs : List Text) (w : Text) (rows : List Row) → Holds o gs rows → Holds o (gs ++ w ∷ []) (used words_in (w ∷ []) rows)
holds_word o gs w rows h = record {
  ns = kept (codes "words") (codes "ns") _ (w ∷ []) rows refl ∙ h.ns;
  value = λ x. kept (codes "words") (name_of x) _ (w ∷ []) rows (words_apart x) ∙ h.value x;
  words = one_more gs w _ rows h.words;
}

-- whether an option was given, as the walk asks

pub ns_row : (o : Options) (gs : List Text) (rows : List Row) (b : Bool) → Holds o gs rows → o.ns ≡ b → has_row (codes "ns") rows ≡ b
ns_row o gs rows true h e = has_row-all_of (codes "ns") rows ∙ ap is_some (h.ns ∙ ap given e)
ns_row o gs rows false h e = has_row-all_of (codes "ns") rows ∙ ap is_some (h.ns ∙ ap given e)

pub value_row : (x : Valued) (o : Options) (gs : List Text) (rows : List Row) → Holds o gs rows → has_row (name_of x) rows ≡ is_some (one (o.value x))
value_row x o gs rows h = has_row-all_of (name_of x) rows ∙ ap is_some (h.value x)

-- between two words: what is pending can be used, and with it the rows hold what was read
pub record Ready (o : Options) (gs : List Text) (rows : List Row) (p : Option (Text × List Text)) : Type 0 where
  pub settles : settle_passes rules false (held rows p) ≡ true
  pub holds : Holds o gs (settled_rows rules p rows)
