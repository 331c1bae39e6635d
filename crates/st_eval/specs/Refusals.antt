-- What an error of an evaluation says of the index, and which checks it is about: docs/FORMAT.md,
-- "Checks of a table" and "What a reader of rows checks".
use Rattle.std.specs.Prelude.{◌≡◌, ℕ, ◌⊎◌, List, Option, Some, None, IsTrue}
use Rattle.st_base.specs.Damages.{DamageView, damage_view}
use Rattle.st_tblock.specs.Block.{RowView, is_before}
use Rattle.st_tblock.specs.declared.format.TheConstants.{PLAIN, SNAPPY}
use Rattle.st_table.specs.Cursor.{RefusesNext}
use Rattle.st_table.specs.IndexLookup.{entry_for, Named}
use Rattle.st_table.specs.Table.{RefusesNamed}
use Rattle.st_table.specs.TableFile.{footer_at}
use Rattle.st_table.specs.declared.errors.TableErr.{TableErr}
use Rattle.st_table.specs.declared.errors.TableErr.TheVariants as table
use Rattle.st_rows.specs.Rows.{summary_key}
use Rattle.st_rows.specs.Values.{positions_wrong, summary_wrong}
use Rattle.st_eval.specs.declared.errors.EvalErr.{EvalErr}
use Rattle.st_eval.specs.declared.errors.EvalErr.TheVariants as error

-- the damage that an error names, if it names one
abbrev pub damage_in : EvalErr → Option DamageView
damage_in error.ReadFault = None
damage_in (error.Damaged d) = Some (damage_view d)
damage_in error.NoMemory = None

-- an error that says nothing of the file's bytes
abbrev pub NoDamage : EvalErr → Type 0
NoDamage e = damage_in e ≡ None

-- a damage of these numbers
abbrev pub damage_at : ℕ → ℕ → ℕ → Option DamageView
damage_at place found want = Some (record { place = place; found = found; want = want })

-- an error says what a table's error says; a compressed block is damage at its type byte
abbrev pub Repeats : TableErr → EvalErr → Type 0
Repeats table.ReadFault e = e ≡ error.ReadFault
Repeats (table.Damaged d) e = damage_in e ≡ Some (damage_view d)
Repeats (table.Compressed place) e = damage_in e ≡ damage_at place SNAPPY PLAIN
Repeats table.NoMemory e = e ≡ error.NoMemory

-- what the data block that the index names for a key answers for it
abbrev pub Answers : List ℕ → List RowView → List ℕ → Option (List ℕ) → Type 0
Answers bytes index key answer =
    Named (footer_at bytes) bytes key answer (entry_for key None index)

-- a data block is refused so: the one that the index names for a key, or the one that its entry of
-- some number names
abbrev pub RefusesData : List ℕ → List RowView → TableErr → Type 0
RefusesData bytes index t =
    ((key : List ℕ) × RefusesNamed (footer_at bytes) bytes (entry_for key None index) t)
    ⊎ ((next : ℕ) × RefusesNext (footer_at bytes) bytes index next t)

-- a key is after that of the summary row, as the texts of all keys are
abbrev pub IsAfterSummary : List ℕ → Type 0
IsAfterSummary key = IsTrue (is_before summary_key key)

-- an error of an evaluation: it is no damage, or that of a data block, or that of the value of a
-- row, which isn't the summary row
abbrev pub RefusesEval : List ℕ → List RowView → EvalErr → Type 0
RefusesEval bytes index e =
    NoDamage e
    ⊎ (((t : TableErr) × Repeats t e × RefusesData bytes index t)
    ⊎ ((key : List ℕ) × (value : List ℕ) × IsAfterSummary key
    × Answers bytes index key (Some value) × (damage_in e ≡ positions_wrong value)))

-- an error of a summary: it is no damage, or that of the data block that the index names for the
-- summary row, or that of the row
abbrev pub RefusesSummary : List ℕ → List RowView → EvalErr → Type 0
RefusesSummary bytes index e =
    NoDamage e
    ⊎ (((t : TableErr) × Repeats t e
    × RefusesNamed (footer_at bytes) bytes (entry_for summary_key None index) t)
    ⊎ ((answer : Option (List ℕ)) × Answers bytes index summary_key answer
    × (damage_in e ≡ summary_wrong answer)))
